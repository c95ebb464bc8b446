-- What the entries of a table of fixities say of a name, and what declarations add.
use Rattle.std.proofs.Common.{◌≡◌, ◌∙◌, ℕ, Bool, true, false, ◌||◌, if◌then◌else◌, List, [], ◌∷◌, ◌++◌, map, Option, Some, None, is_some, refl, sym, ap}
use Rattle.std.proofs.lemmas.Slice.Eq.{bytes_eq-Decides}
use Rattle.std.specs.Str.{bytes_eq}
use Rattle.indexmap.specs.IndexMap.{IndexMap, get_by, with_entries, insert_entry}
use Rattle.rw_base.specs.declared.place.Span.{Span}
use Rattle.rw_tree.specs.declared.decl.Decl.{Decl}
use Rattle.rw_tree.specs.declared.decl.Decl.TheVariants.{Import, Data, Fixity, Sig, Fun}
use Rattle.rw_parser_grammar.specs.Chains.{Strength, is_named, strength_in}
use Rattle.rw_parser_chains.specs.Fixities.{known_in, first_of, said_of, declared_in, or_left_nine}

module _ {K : Type 0} (of : K → List ℕ) where
  abbrev pub seen : List (K × Strength) → List (List ℕ × Strength)
  seen es = map (λ e. (of e.0, e.1)) es

  pub found : {S : Type 0} (m : IndexMap K Strength S) (x : List ℕ) (es : List (K × Strength)) → get_by (λ k. bytes_eq x (of k)) (with_entries m es) ≡ known_in (seen es) x
  found m x [] = refl
  found m x (e ∷ es) = ap (λ r. if bytes_eq x (of e.0) then Some e.1 else r) (found m x es)

  first_chosen : (b : Bool) (v : Strength) (r s : Option Strength) → (if b then Some v else first_of r s) ≡ first_of (if b then Some v else r) s
  first_chosen true v r s = refl
  first_chosen false v r s = refl

  -- a new name is added behind the others
  pub added : (k : K) (v : Strength) (es : List (K × Strength)) (x : List ℕ) → known_in (seen es) (of k) ≡ None
      → known_in (seen (insert_entry (λ a b. bytes_eq (of a) (of b)) es k v)) x ≡ first_of (known_in (seen es) x) (if bytes_eq x (of k) then Some v else None)
  added k v [] x h = refl
  added k v (e ∷ es) x h = go (λ n. added k v es x n) (bytes_eq (of k) (of e.0)) refl h
    where
      go : (known_in (seen es) (of k) ≡ None → known_in (seen (insert_entry (λ a b. bytes_eq (of a) (of b)) es k v)) x ≡ first_of (known_in (seen es) x) (if bytes_eq x (of k) then Some v else None))
          → (b : Bool) → bytes_eq (of k) (of e.0) ≡ b → (if bytes_eq (of k) (of e.0) then Some e.1 else known_in (seen es) (of k)) ≡ None
          → known_in (seen (if bytes_eq (of k) (of e.0) then (e.0, v) ∷ es else e ∷ insert_entry (λ a b. bytes_eq (of a) (of b)) es k v)) x
          ≡ first_of (if bytes_eq x (of e.0) then Some e.1 else known_in (seen es) x) (if bytes_eq x (of k) then Some v else None)
      go rest true b h = let f : Some e.1 ≡ None = ap (λ z. if z then Some e.1 else known_in (seen es) (of k)) (sym b) ∙ h in absurd (cc)
      go rest false b h =
          let none : known_in (seen es) (of k) ≡ None = ap (λ z. if z then Some e.1 else known_in (seen es) (of k)) (sym b) ∙ h in
          ap (λ z. known_in (seen (if z then (e.0, v) ∷ es else e ∷ insert_entry (λ a b. bytes_eq (of a) (of b)) es k v)) x) b
          ∙ ap (λ r. if bytes_eq x (of e.0) then Some e.1 else r) (rest none)
          ∙ first_chosen (bytes_eq x (of e.0)) e.1 (known_in (seen es) x) (if bytes_eq x (of k) then Some v else None)

-- what is not known has no strength
pub not_known : (r : Option Strength) → is_some r ≡ false → r ≡ None
not_known None h = refl
not_known (Some v) h = absurd (cc)

pub one_said : (name x : List ℕ) (v : Strength) → said_of (name ∷ []) v x ≡ (if bytes_eq x name then Some v else None)
one_said name x v = go (bytes_eq x name)
  where
    go : (b : Bool) → (if b || false then Some v else None) ≡ (if b then Some v else None)
    go true = refl
    go false = refl

-- a name that is known stays as it is
pub stays : (known : List (List ℕ × Strength)) (name x : List ℕ) (v : Strength) → is_some (known_in known name) ≡ true → known_in known x ≡ first_of (known_in known x) (said_of (name ∷ []) v x)
stays known name x v h = go (known_in known x) (bytes_eq x name) refl refl ∙ ap (λ z. first_of (known_in known x) z) (sym (one_said name x v))
  where
    go : (r : Option Strength) (b : Bool) → known_in known x ≡ r → bytes_eq x name ≡ b → known_in known x ≡ first_of (known_in known x) (if bytes_eq x name then Some v else None)
    go (Some s) b e f = e ∙ ap (λ z. first_of z (if bytes_eq x name then Some v else None)) (sym e)
    go None true e f =
        let same : x ≡ name = (bytes_eq-Decides x name).0 f in
        let g : is_some (known_in known name) ≡ false = ap (λ z. is_some (known_in known z)) (sym same) ∙ ap is_some e in
        let t : false ≡ true = sym g ∙ h in absurd (cc)
    go None false e f = e ∙ sym (ap (λ z. first_of z (if bytes_eq x name then Some v else None)) e ∙ ap (λ z. if z then Some v else None) f)

pub first_assoc : (a b c : Option Strength) → first_of (first_of a b) c ≡ first_of a (first_of b c)
first_assoc None b c = refl
first_assoc (Some a) b c = refl

-- one name more of a declaration
pub names_step : (name x : List ℕ) (names : List (List ℕ)) (v : Strength) → first_of (said_of (name ∷ []) v x) (said_of names v x) ≡ said_of (name ∷ names) v x
names_step name x names v = go (bytes_eq x name) (is_named x names)
  where
    go : (a b : Bool) → first_of (if a || false then Some v else None) (if b then Some v else None) ≡ (if a || b then Some v else None)
    go true b = refl
    go false b = refl

pub first_none : (a : Option Strength) → first_of a None ≡ a
first_none None = refl
first_none (Some a) = refl

-- declarations, and more of them
pub declared_joined : (decls more : List (Decl Span)) (x : List ℕ) → declared_in (decls ++ more) x ≡ first_of (declared_in decls x) (declared_in more x)
declared_joined [] more x = refl
declared_joined (Fixity span at n names ∷ decls) more x =
    ap (λ z. first_of (said_of names (at, n) x) z) (declared_joined decls more x) ∙ sym (first_assoc (said_of names (at, n) x) (declared_in decls x) (declared_in more x))
declared_joined (Import span module_name ∷ decls) more x = declared_joined decls more x
declared_joined (Data span made ∷ decls) more x = declared_joined decls more x
declared_joined (Sig span names type ∷ decls) more x = declared_joined decls more x
declared_joined (Fun span fun rows ∷ decls) more x = declared_joined decls more x

-- what is declared is the strength
pub declared_strength : (decls : List (Decl Span)) (x : List ℕ) → strength_in decls x ≡ or_left_nine (declared_in decls x)
declared_strength [] x = refl
declared_strength (Fixity span at n names ∷ decls) x = go (declared_strength decls x) (is_named x names)
  where
    go : strength_in decls x ≡ or_left_nine (declared_in decls x) → (b : Bool) → (if b then (at, n) else strength_in decls x) ≡ or_left_nine (first_of (if b then Some (at, n) else None) (declared_in decls x))
    go rest true = refl
    go rest false = rest
declared_strength (Import span module_name ∷ decls) x = declared_strength decls x
declared_strength (Data span made ∷ decls) x = declared_strength decls x
declared_strength (Sig span names type ∷ decls) x = declared_strength decls x
declared_strength (Fun span fun rows ∷ decls) x = declared_strength decls x
