-- The first signature of a name, and tables that say it.
use Rattle.std.proofs.Common.{◌≡◌, ℕ, ◌+◌, ◌<◌, ◌≤◌, Bool, true, false, List, [], ◌∷◌, ◌++◌, append-nil, map, flat_map, length, drop, drop_of_length-le, get_or, Option, Some, None, refl, sym, ap, ◌∙◌, if◌then◌else◌}
use Rattle.rw_tree.specs.declared.types.Written.{Written}
use Rattle.rw_tree.specs.Types.{WrittenType, written}
use Rattle.rw_scope_rules.specs.Names.{Bytes, same_name, first_named}
use Rattle.rw_types_equations.proofs.Rows.{drop_next}
use Rattle.rw_types_world.specs.declared.signed.Signed.{Signed}
use Rattle.rw_types_world.specs.Signatures.{or_then, seen_signed, signed_in}

module _ {V : Type 0} where
  or_first : (b : Bool) (v : V) (a r whole : Option V) → whole ≡ or_then a r → (if b then Some v else whole) ≡ or_then (if b then Some v else a) r
  or_first true v a r whole e = refl
  or_first false v a r whole e = e

  pub named_in_turn : (x : Bytes) (es fs : List (Bytes × V)) → first_named x (es ++ fs) ≡ or_then (first_named x es) (first_named x fs)
  named_in_turn x [] fs = refl
  named_in_turn x (e ∷ es) fs = or_first (same_name x e.0) e.1 (first_named x es) (first_named x fs) (first_named x (es ++ fs)) (named_in_turn x es fs)

  or_further : (a b c : Option V) → or_then (or_then a b) c ≡ or_then a (or_then b c)
  or_further None b c = refl
  or_further (Some v) b c = refl

  or_none : (a : Option V) → or_then a None ≡ a
  or_none None = refl
  or_none (Some v) = refl

  one_more : (new now here rest left whole : Option V) → new ≡ or_then now here → left ≡ or_then here rest → or_then now left ≡ whole → or_then new rest ≡ whole
  one_more new now here rest left whole p q h = ap (λ z. or_then z rest) p ∙ or_further now here rest ∙ ap (or_then now) (sym q) ∙ h

  no_more : (now left whole : Option V) → left ≡ None → or_then now left ≡ whole → now ≡ whole
  no_more now left whole e h = sym (or_none now) ∙ ap (or_then now) (sym e) ∙ h

-- one name more in the table
seen_in_turn : (a b : Option Signed) → seen_signed (or_then a b) ≡ or_then (seen_signed a) (seen_signed b)
seen_in_turn None b = refl
seen_in_turn (Some s) b = refl

seen_if : (b : Bool) (s : Signed) → seen_signed (if b then Some s else None) ≡ (if b then Some (written s.ty.now) else None)
seen_if true s = refl
seen_if false s = refl

put_named : (new old : List (Bytes × Signed)) (copy name : Bytes) (s : Signed) → copy ≡ name → ((x : Bytes) (rest : List (Bytes × Signed)) → first_named x (new ++ rest) ≡ first_named x (old ++ (copy, s) ∷ rest))
    → (x : Bytes) → signed_in new x ≡ or_then (signed_in old x) (first_named x ((name, written s.ty.now) ∷ []))
put_named new old copy name s e put x =
    ap seen_signed (ap (first_named x) (sym (append-nil new)) ∙ put x [] ∙ ap (λ n. first_named x (old ++ (n, s) ∷ [])) e ∙ named_in_turn x old ((name, s) ∷ []))
    ∙ seen_in_turn (first_named x old) (first_named x ((name, s) ∷ [])) ∙ ap (or_then (signed_in old x)) (seen_if (same_name x name) s)

pub one_name : (first new old : List (Bytes × Signed)) (names : List Bytes) (i : ℕ) (n copy : Bytes) (s : Signed) (ty : Written) → i < length names → n ≡ get_or names i n → copy ≡ n → s.ty.now ≡ ty
    → ((x : Bytes) (rest : List (Bytes × Signed)) → first_named x (new ++ rest) ≡ first_named x (old ++ (copy, s) ∷ rest))
    → ((x : Bytes) → or_then (signed_in old x) (first_named x (map (λ y. (y, written ty)) (drop i names))) ≡ or_then (signed_in first x) (first_named x (map (λ y. (y, written ty)) names)))
    → (x : Bytes) → or_then (signed_in new x) (first_named x (map (λ y. (y, written ty)) (drop (i + 1) names))) ≡ or_then (signed_in first x) (first_named x (map (λ y. (y, written ty)) names))
one_name first new old names i n copy s ty l e same is put h x =
    one_more (signed_in new x) (signed_in old x) (first_named x ((n, written ty) ∷ [])) (first_named x (map (λ y. (y, written ty)) (drop (i + 1) names))) (first_named x (map (λ y. (y, written ty)) (drop i names)))
    (or_then (signed_in first x) (first_named x (map (λ y. (y, written ty)) names)))
    (put_named new old copy n s same put x ∙ ap (λ t. or_then (signed_in old x) (first_named x ((n, written t) ∷ []))) is)
    (ap (λ ns. first_named x (map (λ y. (y, written ty)) ns)) (drop_next names i (i + 1) n l refl e) ∙ named_in_turn x ((n, written ty) ∷ []) (map (λ y. (y, written ty)) (drop (i + 1) names)))
    (h x)

pub all_names : (first now : List (Bytes × Signed)) (names : List Bytes) (i : ℕ) (t : WrittenType) → length names ≤ i
    → ((x : Bytes) → or_then (signed_in now x) (first_named x (map (λ y. (y, t)) (drop i names))) ≡ or_then (signed_in first x) (first_named x (map (λ y. (y, t)) names)))
    → (x : Bytes) → signed_in now x ≡ or_then (signed_in first x) (first_named x (map (λ y. (y, t)) names))
all_names first now names i t l h x =
    no_more (signed_in now x) (first_named x (map (λ y. (y, t)) (drop i names))) (or_then (signed_in first x) (first_named x (map (λ y. (y, t)) names)))
    (ap (λ ns. first_named x (map (λ y. (y, t)) ns)) (drop_of_length-le names {i = i} l)) (h x)

-- declarations one after the other
module _ {A D : Type 0} (see : A → D) (says : D → List (Bytes × WrittenType)) (decls : List A) where
  pub no_declaration : (first : List (Bytes × Signed)) → first ≡ [] → (x : Bytes) → or_then (signed_in first x) (first_named x (flat_map says (map see decls))) ≡ first_named x (flat_map says (map see decls))
  no_declaration first e x = ap (λ t. or_then (signed_in t x) (first_named x (flat_map says (map see decls)))) e

  pub one_declaration : (new old : List (Bytes × Signed)) (i : ℕ) (d : A) → i < length decls → d ≡ get_or decls i d
      → ((x : Bytes) → signed_in new x ≡ or_then (signed_in old x) (first_named x (says (see d))))
      → ((x : Bytes) → or_then (signed_in old x) (first_named x (flat_map says (map see (drop i decls)))) ≡ first_named x (flat_map says (map see decls)))
      → (x : Bytes) → or_then (signed_in new x) (first_named x (flat_map says (map see (drop (i + 1) decls)))) ≡ first_named x (flat_map says (map see decls))
  one_declaration new old i d l e put h x =
      one_more (signed_in new x) (signed_in old x) (first_named x (says (see d))) (first_named x (flat_map says (map see (drop (i + 1) decls)))) (first_named x (flat_map says (map see (drop i decls))))
      (first_named x (flat_map says (map see decls))) (put x)
      (ap (λ ds. first_named x (flat_map says (map see ds))) (drop_next decls i (i + 1) d l refl e) ∙ named_in_turn x (says (see d)) (flat_map says (map see (drop (i + 1) decls))))
      (h x)

  pub all_declarations : (now : List (Bytes × Signed)) (i : ℕ) → length decls ≤ i
      → ((x : Bytes) → or_then (signed_in now x) (first_named x (flat_map says (map see (drop i decls)))) ≡ first_named x (flat_map says (map see decls)))
      → (x : Bytes) → signed_in now x ≡ first_named x (flat_map says (map see decls))
  all_declarations now i l h x =
      no_more (signed_in now x) (first_named x (flat_map says (map see (drop i decls)))) (first_named x (flat_map says (map see decls)))
      (ap (λ ds. first_named x (flat_map says (map see ds))) (drop_of_length-le decls {i = i} l)) (h x)
