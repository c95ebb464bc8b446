-- A part of a typed tree that is its erasure, numbered, under each assignment that spells its types: how such parts are joined.
use Rattle.std.proofs.Common.{◌≡◌, ◌∙◌, ℕ, suc, ◌+◌, List, [], ◌∷◌, ◌++◌, length, refl, ap, subst, arith}
use Rattle.rw_types_solving.specs.Types.{Ty}
use Rattle.rw_types_rules.specs.declared.kind.VariableKind.{VariableKind}
use Rattle.rw_types_rules.specs.declared.kind.VariableKind.TheVariants.{Plain}
use Rattle.rw_types_rules.specs.TypedTrees.{TypedNode}
use Rattle.rw_types_numbering.specs.Fits.{types_from, typed_label}
use Rattle.rw_types_numbering.specs.Rows.{Spells}

-- the part has a type for each of its kinds, and is what is made of each assignment that spells them
pub record Filled {X : Type 0} (kinds : List VariableKind) (types : List Ty) (made : (ℕ → Ty) → ℕ → X) (whole : X) : Type 0 where
  pub as_many : length kinds ≡ length types
  pub is : (t : ℕ → Ty) (n : ℕ) → Spells t n types → made t n ≡ whole

spells_first : (t : ℕ → Ty) (n : ℕ) (a b : List Ty) → Spells t n (a ++ b) → Spells t n a
spells_first t n [] b h = tt
spells_first t n (x ∷ a) b h = (h.0, spells_first t (suc n) a b h.1)

spells_rest : (t : ℕ → Ty) (n m : ℕ) (a b : List Ty) → m ≡ n + length a → Spells t n (a ++ b) → Spells t m b
spells_rest t n m [] b e h = let same : n ≡ m = omega arith in subst (λ z. Spells t z b) same h
spells_rest t n m (x ∷ a) b e h = spells_rest t (suc n) m a b (omega arith) h.1

length_joined : {Y : Type 0} (a b : List Y) → length (a ++ b) ≡ length a + length b
length_joined [] b = omega arith
length_joined (x ∷ a) b = let i = length_joined a b in omega arith

spelled : (t : ℕ → Ty) (n : ℕ) (a : List Ty) → Spells t n a → types_from t n (length a) ≡ a
spelled t n [] h = refl
spelled t n (x ∷ a) h = λ i. h.0 i ∷ spelled t (suc n) a h.1 i

-- the node that is spelled
node_is : (t : ℕ → Ty) (n : ℕ) (a : TypedNode) (rest : List Ty) (k : ℕ) → k ≡ length a.arguments → Spells t n (a.type ∷ a.arguments ++ rest) → typed_label t a.node n k ≡ a
node_is t n a rest k e h =
    let s : types_from t (suc n) k ≡ a.arguments = ap (types_from t (suc n)) e ∙ spelled t (suc n) a.arguments (spells_first t (suc n) a.arguments rest h.1) in
    λ i. record { node = a.node; type = h.0 i; arguments = s i }

node_alone : (t : ℕ → Ty) (n : ℕ) (a : TypedNode) (k : ℕ) → k ≡ length a.arguments → Spells t n (a.type ∷ a.arguments) → typed_label t a.node n k ≡ a
node_alone t n a k e h =
    let s : types_from t (suc n) k ≡ a.arguments = ap (types_from t (suc n)) e ∙ spelled t (suc n) a.arguments h.1 in
    λ i. record { node = a.node; type = h.0 i; arguments = s i }

rest_after : (t : ℕ → Ty) (n m : ℕ) (a : TypedNode) (rest : List Ty) → m ≡ suc n + length a.arguments → Spells t n (a.type ∷ a.arguments ++ rest) → Spells t m rest
rest_after t n m a rest e h = spells_rest t (suc n) m a.arguments rest e h.1

-- two parts, one after the other
pub joined : {X Y Z : Type 0} {ks ls : List VariableKind} {us vs : List Ty} {f : (ℕ → Ty) → ℕ → X} {g : (ℕ → Ty) → ℕ → Y} {x : X} {y : Y} (make : X → Y → Z)
    → Filled ks us f x → Filled ls vs g y → Filled (ks ++ ls) (us ++ vs) (λ t n. make (f t n) (g t (n + length ks))) (make x y)
joined {ks = ks} {ls = ls} {us = us} {vs = vs} make p q = record {
  as_many = let a = p.as_many in let b = q.as_many in let c = length_joined ks ls in let d = length_joined us vs in omega arith;
  is = λ t n h. let e : n + length ks ≡ n + length us = ap (λ z. n + z) p.as_many in
      λ i. make (p.is t n (spells_first t n us vs h) i) (q.is t (n + length ks) (spells_rest t n (n + length ks) us vs e h) i);
}

abbrev pair_of : {X Y : Type 0} → X → Y → X × Y
pair_of x y = (x, y)

pub paired : {X Y : Type 0} {ks ls : List VariableKind} {us vs : List Ty} {f : (ℕ → Ty) → ℕ → X} {g : (ℕ → Ty) → ℕ → Y} {x : X} {y : Y}
    → Filled ks us f x → Filled ls vs g y → Filled {X = X × Y} (ks ++ ls) (us ++ vs) (λ t n. (f t n, g t (n + length ks))) (x, y)
paired p q = joined pair_of p q

-- nothing more
pub nothing : {X : Type 0} (x : X) → Filled [] [] (λ t n. x) x
nothing x = record { as_many = refl; is = λ t n h. refl }

-- a part in another one that has no node of its own
pub within : {X Y : Type 0} {ks : List VariableKind} {us : List Ty} {f : (ℕ → Ty) → ℕ → X} {x : X} (make : X → Y) → Filled ks us f x → Filled ks us (λ t n. make (f t n)) (make x)
within make p = record { as_many = p.as_many; is = λ t n h. ap make (p.is t n h) }

-- a node alone, with an argument for each of these kinds
pub leaf : {Z : Type 0} (make : TypedNode → Z) (ks : List VariableKind) (a : TypedNode) → length ks ≡ length a.arguments
    → Filled (Plain ∷ ks) (a.type ∷ a.arguments) (λ t n. make (typed_label t a.node n (length ks))) (make a)
leaf make ks a e = record {
  as_many = omega arith;
  is = λ t n h. ap make (node_alone t n a (length ks) e h);
}

-- a node over parts, with an argument for each of these kinds
pub over : {X Z : Type 0} {ls : List VariableKind} {vs : List Ty} {g : (ℕ → Ty) → ℕ → X} {x : X} (make : TypedNode → X → Z) (ks : List VariableKind) (a : TypedNode)
    → length ks ≡ length a.arguments → Filled ls vs g x
    → Filled (Plain ∷ ks ++ ls) (a.type ∷ a.arguments ++ vs) (λ t n. make (typed_label t a.node n (length ks)) (g t (suc n + length ks))) (make a x)
over {ls = ls} {vs = vs} make ks a e q = record {
  as_many = let b = q.as_many in let c = length_joined ks ls in let d = length_joined a.arguments vs in omega arith;
  is = λ t n h. let m : suc n + length ks ≡ suc n + length a.arguments = ap (λ z. suc n + z) e in
      λ i. make (node_is t n a vs (length ks) e h i) (q.is t (suc n + length ks) (rest_after t n (suc n + length ks) a vs m h) i);
}

-- and with none
pub above : {X Z : Type 0} {ls : List VariableKind} {vs : List Ty} {g : (ℕ → Ty) → ℕ → X} {x : X} (make : TypedNode → X → Z) (a : TypedNode)
    → 0 ≡ length a.arguments → Filled ls vs g x
    → Filled (Plain ∷ ls) (a.type ∷ a.arguments ++ vs) (λ t n. make (typed_label t a.node n 0) (g t (suc n))) (make a x)
above {ls = ls} {vs = vs} make a e q = record {
  as_many = let b = q.as_many in let d = length_joined a.arguments vs in omega arith;
  is = λ t n h. let m : suc n ≡ suc n + length a.arguments = omega arith in
      λ i. make (node_is t n a vs 0 e h i) (q.is t (suc n) (rest_after t n (suc n) a vs m h) i);
}
