-- One node more: parts stay earlier, and nodes distinct.
use Rattle.std.proofs.Common.{◌≡◌, ℕ, zero, suc, ◌+◌, ◌<◌, Bool, true, false, List, [], ◌∷◌, ◌++◌, map, length, slice_get, Some, refl, sym, ◌∙◌, ap, subst, arith, if◌then◌else◌}
use Rattle.std.specs.List.{IsDistinct, AllByRecursion}
use Rattle.std.proofs.lemmas.List.{map-append, length-map}
use Rattle.std.proofs.lemmas.Map.Keys.{IsDistinct-head, IsDistinct-tail}
use Rattle.rw_types_shared.specs.declared.node.Node.{Node as Kept}
use Rattle.rw_types_shared.specs.Shared.{Node, shown, node_at, AreBelow, IsProper}
use Rattle.rw_types_shared.specs.Hashed.{same_node}
use Rattle.rw_types_shared.specs.Same.{is_same, same_is}

abbrev pub same_kept : Kept → Kept → Bool
same_kept a b = same_node (shown a) (shown b)

one_on : (b n : ℕ) → suc b + n ≡ b + suc n
one_on b n = omega arith

-- parts are earlier, where the first node has the number b
earlier_from : (nodes : List Node) (node : Node) (b : ℕ) → ((n : ℕ) → AreBelow (b + n) (node_at nodes n).1) → AreBelow (b + length nodes) node.1
    → (n : ℕ) → AreBelow (b + n) (node_at (nodes ++ node ∷ []) n).1
earlier_from [] node b h k zero = k
earlier_from [] node b h k (suc n) = tt
earlier_from (x ∷ xs) node b h k zero = h zero
earlier_from (x ∷ xs) node b h k (suc n) =
    subst (λ (z : ℕ). AreBelow z (node_at (xs ++ node ∷ []) n).1) (one_on b n)
    (earlier_from xs node (suc b) (λ m. subst (λ (z : ℕ). AreBelow z (node_at xs m).1) (sym (one_on b m)) (h (suc m)))
    (subst (λ (z : ℕ). AreBelow z node.1) (sym (one_on b (length xs))) k) n)

pub earlier_added : (nodes : List Node) (node : Node) → ((n : ℕ) → AreBelow n (node_at nodes n).1) → AreBelow (length nodes) node.1 → (n : ℕ) → AreBelow n (node_at (nodes ++ node ∷ []) n).1
earlier_added nodes node h k n =
    let from : (m : ℕ) → 0 + m ≡ m = λ m. omega arith in
    subst (λ (z : ℕ). AreBelow z (node_at (nodes ++ node ∷ []) n).1) (from n)
    (earlier_from nodes node 0 (λ m. subst (λ (z : ℕ). AreBelow z (node_at nodes m).1) (sym (from m)) (h m)) (subst (λ (z : ℕ). AreBelow z node.1) (sym (from (length nodes))) k) n)

-- after the set took a node
earlier_by : (b : Bool) (keys : List Kept) (v : Kept) → ((n : ℕ) → AreBelow n (node_at (map shown keys) n).1) → AreBelow (length (map shown keys)) (shown v).1
    → (n : ℕ) → AreBelow n (node_at (map shown (if b then keys else keys ++ v ∷ [])) n).1
earlier_by true keys v h k n = h n
earlier_by false keys v h k n = subst (λ (z : List Node). AreBelow n (node_at z n).1) (sym (map-append shown keys (v ∷ []))) (earlier_added (map shown keys) (shown v) h k n)

apart : (k : Kept) (ks : List Kept) → AllByRecursion (λ y. same_kept k y ≡ false) ks → (n : ℕ) → n < length ks → node_at (map shown ks) n ≡ shown k → ⊥
apart k [] a n l s = absurd (omega arith)
apart k (y ∷ ys) a zero l s = let one : same_kept k y ≡ true = is_same (shown k) (shown y) (sym s) in let other : same_kept k y ≡ false = a.0 in absurd (cc)
apart k (y ∷ ys) a (suc n) l s = apart k ys a.1 n (omega arith) s

pub distinct_nodes : (ks : List Kept) → IsDistinct same_kept ks → (m n : ℕ) → m < length ks → n < length ks → node_at (map shown ks) m ≡ node_at (map shown ks) n → m ≡ n
distinct_nodes [] d m n k l s = absurd (omega arith)
distinct_nodes (x ∷ xs) d zero zero k l s = refl
distinct_nodes (x ∷ xs) d zero (suc n) k l s = absurd (apart x xs (IsDistinct-head same_kept x xs d) n (omega arith) (sym s))
distinct_nodes (x ∷ xs) d (suc m) zero k l s = absurd (apart x xs (IsDistinct-head same_kept x xs d) m (omega arith) s)
distinct_nodes (x ∷ xs) d (suc m) (suc n) k l s = ap suc (distinct_nodes xs (IsDistinct-tail same_kept x xs d) m n (omega arith) (omega arith) s)

pub proper_after : (b : Bool) (keys new : List Kept) (v : Kept) → IsProper (map shown keys) → AreBelow (length (map shown keys)) (shown v).1 → new ≡ (if b then keys else keys ++ v ∷ []) → IsDistinct same_kept new
    → IsProper (map shown new)
proper_after b keys new v p k e d = record {
  earlier = λ n. subst (λ (z : List Kept). AreBelow n (node_at (map shown z) n).1) (sym e) (earlier_by b keys v p.earlier k n);
  distinct = λ m n k l s. let many = length-map new shown in distinct_nodes new d m n (omega arith) (omega arith) s;
}

pub shown_at : (keys : List Kept) (n : ℕ) (k : Kept) → slice_get keys n ≡ Some k → node_at (map shown keys) n ≡ shown k
shown_at [] n k e = absurd (cc)
shown_at (x ∷ xs) zero k e = let same : x ≡ k = cc in ap shown same
shown_at (x ∷ xs) (suc n) k e = shown_at xs n k e

pub stored_at : (keys : List Kept) (n : ℕ) (k v : Kept) → slice_get keys n ≡ Some k → same_kept v k ≡ true → node_at (map shown keys) n ≡ shown v
stored_at keys n k v e s = shown_at keys n k e ∙ sym (same_is (shown v) (shown k) s)
