-- Where no data type is recursive, what one mentions, and what that mentions, comes to an end.
use Rattle.std.proofs.Common.{◌≡◌, ◌⊎◌, inl, inr, refl, sym, ap, subst, ◌∙◌, ℕ, zero, suc, ◌+◌, ◌≤◌, arith, Bool, true, false, ◌||◌, List, [], ◌∷◌, ◌++◌, map, flat_map, length, Option, Some, None, if◌then◌else◌}
use Rattle.rw_base.specs.declared.place.Place.{Place}
use Rattle.rw_base.specs.declared.place.Span.{Span}
use Rattle.rw_tree.specs.Declarations.{Declaration, import_declaration, data_declaration, fixity_declaration, signature_declaration, function_declaration}
use Rattle.rw_scope_rules.specs.Names.{Bytes, same_name, first_named}
use Rattle.rw_scope_rules.specs.Kinds.{data_mentions, mentioned_by, reached, is_recursive, is_empty, ill_founded}
use Rattle.rw_scope_rules.proofs.Basics.{true_or_false, clash, one_name, In, in_front, in_back, in_parts}
use Rattle.rw_cover_laws.proofs.Names.{without, length_without, in_without, in_flat, among}

abbrev pub keys : List (Bytes × List Bytes) → List Bytes
keys data_types = map (λ t. t.0) data_types

-- a name that mentions something is one of a data type
named_key : (x : Bytes) (vs : List (Bytes × List Bytes)) (names : List Bytes) → first_named x vs ≡ Some names → In x (keys vs)
named_key x [] names e = absurd (cc)
named_key x (v ∷ vs) names e = elim (true_or_false (same_name x v.0)) [
  | inl s ↦ inl (one_name x v.0 s)
  | inr s ↦ inr (named_key x vs names (sym (ap (λ b. if b then Some v.1 else first_named x vs) s) ∙ e))
]

module _ (data_types : List (Bytes × List Bytes)) where
  pub mentions_some : (x : Bytes) (names : List Bytes) → first_named x data_types ≡ Some names → mentioned_by data_types x ≡ names
  mentions_some x names e = rw e refl

  mentions_none : (x : Bytes) → first_named x data_types ≡ None → mentioned_by data_types x ≡ []
  mentions_none x e = rw e refl

  is_key : (x y : Bytes) → In y (mentioned_by data_types x) → In x (keys data_types)
  is_key x y i = by (first_named x data_types) refl
    where
      by : (o : Option (List Bytes)) → first_named x data_types ≡ o → In x (keys data_types)
      by None e = absurd (subst (In y) (mentions_none x e) i)
      by (Some names) e = named_key x data_types names e

  -- what a search reaches
  starts : (n : ℕ) (x : Bytes) (names : List Bytes) → In x names → In x (reached data_types n names)
  starts zero x names h = h
  starts (suc n) x names h = in_front x names (reached data_types n (flat_map (mentioned_by data_types) names)) h

  goes_on : (n : ℕ) (x y : Bytes) (names : List Bytes) → In y (reached data_types n names) → In x (mentioned_by data_types y) → In x (reached data_types (suc n) names)
  goes_on zero x y names h m = in_back x names (flat_map (mentioned_by data_types) names) (in_flat (mentioned_by data_types) names y x h m)
  goes_on (suc n) x y names h m =
      let next : List Bytes = flat_map (mentioned_by data_types) names in
      elim (in_parts y names (reached data_types n next) h) [
        | inl i ↦ in_back x names (reached data_types (suc n) next) (starts (suc n) x next (in_flat (mentioned_by data_types) names y x i m))
        | inr j ↦ in_back x names (reached data_types (suc n) next) (goes_on n x y next j m)
      ]

  -- a way to a name, the last step first: each mentions the next
  abbrev Leads : List Bytes → Bytes → Type 0
  Leads [] x = Unit {0}
  Leads (y ∷ ys) x = In x (mentioned_by data_types y) × Leads ys y

  leads_from : (way : List Bytes) (n : ℕ) (x z : Bytes) → Leads way x → In z way → length way ≤ suc n → In x (reached data_types n (mentioned_by data_types z))
  leads_from [] n x z l i b = absurd i
  leads_from (y ∷ ys) n x z l (inl e) b = starts n x (mentioned_by data_types z) (subst (λ w. In x (mentioned_by data_types w)) (sym e) l.0)
  leads_from (y ∷ []) n x z l (inr r) b = absurd r
  leads_from (y ∷ v ∷ vs) zero x z l (inr r) b = let c : suc (suc (length vs)) ≤ 1 = b in absurd (omega arith)
  leads_from (y ∷ v ∷ vs) (suc n) x z l (inr r) b =
      let c : suc (suc (length vs)) ≤ suc (suc n) = b in
      let d : suc (length vs) ≤ suc n = omega arith in
      goes_on n x y (mentioned_by data_types z) (leads_from (v ∷ vs) n y z l.1 r d) l.0

  -- a name whose data type is unfolded in fewer than so many steps
  abbrev pub NameEnds : ℕ → Bytes → Type 0
  NameEnds zero x = ⊥
  NameEnds (suc k) x = (y : Bytes) → In y (mentioned_by data_types x) → NameEnds k y

  module _ (founded : (x : Bytes) → In x (keys data_types) → is_recursive data_types x ≡ false) where
    -- no way comes to a name that it went through
    no_circle : (way : List Bytes) (x y : Bytes) → In y (mentioned_by data_types x) → Leads way x → In x way → length way ≤ length data_types → ⊥
    no_circle way x y m l i b =
        let c : length way ≤ suc (length data_types) = omega arith in
        clash (is_recursive data_types x) (among x (reached data_types (length data_types) (mentioned_by data_types x)) (leads_from way (length data_types) x x l i c)) (founded x (is_key x y m))

    -- so a way is no longer than there are data types, some of which are left
    ends_behind : (k : ℕ) (left way : List Bytes) (x : Bytes) → length left ≡ k → length way + k ≡ length data_types → ((z : Bytes) → In z (keys data_types) → (In z left) ⊎ (In z way)) → Leads way x → NameEnds (suc k) x
    ends_behind zero left way x e n all l = λ y m. elim (all x (is_key x y m)) [
      | inl i ↦ let f : length left ≡ suc (length (without x left i)) = length_without x left i in absurd (let g : ⊥ = omega arith in g)
      | inr i ↦ absurd (no_circle way x y m l i (omega arith))
    ]
    ends_behind (suc k) left way x e n all l = λ y m. elim (all x (is_key x y m)) [
      | inl i ↦
          let f : length left ≡ suc (length (without x left i)) = length_without x left i in
          let g : length (without x left i) ≡ k = omega arith in
          let h : suc (length way) + k ≡ length data_types = omega arith in
          ends_behind k (without x left i) (x ∷ way) y g h
          (λ z j. elim (all z j) [
            | inl r ↦ elim (in_without x left i z r) [ inl s ↦ inl s | inr s ↦ inr (inl s) ]
            | inr r ↦ inr (inr r)
          ]) (m, l)
      | inr i ↦ absurd (no_circle way x y m l i (omega arith))
    ]

    length_keys : (vs : List (Bytes × List Bytes)) → length (keys vs) ≡ length vs
    length_keys [] = refl
    length_keys (v ∷ vs) = ap suc (length_keys vs)

    pub each_ends : (x : Bytes) → NameEnds (suc (length data_types)) x
    each_ends x =
        let z : length {A = Bytes} [] + length data_types ≡ length data_types = omega arith in
        ends_behind (length data_types) (keys data_types) [] x (length_keys data_types) z (λ z i. inl i) tt

-- E11 says so
if_none : (b : Bool) (p : Place) (rest : List Place) → (if b then p ∷ [] else []) ++ rest ≡ [] → (b ≡ false) × (rest ≡ [])
if_none true p rest e = absurd (cc)
if_none false p rest e = (refl, e)

second_false : (a b : Bool) → (a || b) ≡ false → b ≡ false
second_false true b e = absurd (cc)
second_false false b e = e

pub none_recursive : (data_types : List (Bytes × List Bytes)) (ds : List (Declaration Span)) → flat_map (ill_founded data_types) ds ≡ []
    → (x : Bytes) → In x (keys (flat_map data_mentions ds)) → is_recursive data_types x ≡ false
none_recursive data_types [] e x i = absurd i
none_recursive data_types (import_declaration a m ∷ ds) e x i = none_recursive data_types ds e x i
none_recursive data_types (fixity_declaration a side strength names ∷ ds) e x i = none_recursive data_types ds e x i
none_recursive data_types (signature_declaration a names type ∷ ds) e x i = none_recursive data_types ds e x i
none_recursive data_types (function_declaration a f clauses ∷ ds) e x i = none_recursive data_types ds e x i
none_recursive data_types (data_declaration a name params constructors ∷ ds) e x (inl s) =
    ap (is_recursive data_types) s
    ∙ second_false (is_empty constructors) (is_recursive data_types name) (if_none (is_empty constructors || is_recursive data_types name) a.first (flat_map (ill_founded data_types) ds) e).0
none_recursive data_types (data_declaration a name params constructors ∷ ds) e x (inr r) =
    none_recursive data_types ds (if_none (is_empty constructors || is_recursive data_types name) a.first (flat_map (ill_founded data_types) ds) e).1 x r
