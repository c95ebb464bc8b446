-- The types that numbers are: enough levels, and nodes that are added behind.
use Rattle.std.proofs.Common.{◌≡◌, ℕ, zero, suc, ◌<◌, ◌≤◌, List, [], ◌∷◌, ◌++◌, map, length, refl, ◌∙◌, ap, arith}
use Rattle.rw_types_solving.specs.Types.{Ty, app, tys}
use Rattle.rw_types_shared.specs.Shared.{Node, node_at, type_within, type_at, AreBelow, IsProper, Extends}

-- two functions that are the same below n are so on numbers below n
pub same_below : (f g : ℕ → Ty) (n : ℕ) → ((k : ℕ) → k < n → f k ≡ g k) → (ks : List ℕ) → AreBelow n ks → map f ks ≡ map g ks
same_below f g n h [] b = refl
same_below f g n h (k ∷ ks) b = let one = h k b.0 in let rest = same_below f g n h ks b.1 in cc

pub below_further : (m n : ℕ) → m ≤ n → (ks : List ℕ) → AreBelow m ks → AreBelow n ks
below_further m n l [] b = tt
below_further m n l (k ∷ ks) b = (omega arith, below_further m n l ks b.1)

module _ (nodes : List Node) (earlier : (n : ℕ) → AreBelow n (node_at nodes n).1) where
  -- more levels change nothing
  pub enough : (d e n : ℕ) → n < d → n < e → type_within d nodes n ≡ type_within e nodes n
  enough zero e n l k = absurd (omega arith)
  enough (suc d) zero n l k = absurd (omega arith)
  enough (suc d) (suc e) n l k =
      ap (λ (ts : List Ty). app (node_at nodes n).0 (tys ts))
      (same_below (type_within d nodes) (type_within e nodes) n (λ j m. enough d e j (omega arith) (omega arith)) (node_at nodes n).1 (earlier n))

  pub in_nodes : (n : ℕ) → type_at nodes n ≡ app (node_at nodes n).0 (tys (map (type_at nodes) (node_at nodes n).1))
  in_nodes n =
      ap (λ (ts : List Ty). app (node_at nodes n).0 (tys ts))
      (same_below (type_within n nodes) (type_at nodes) n (λ j m. enough n (suc j) j m (omega arith)) (node_at nodes n).1 (earlier n))

-- what stands in the front part of a list
pub node_before : (nodes added : List Node) (n : ℕ) → n < length nodes → node_at (nodes ++ added) n ≡ node_at nodes n
node_before [] added n l = absurd (omega arith)
node_before (x ∷ xs) added zero l = refl
node_before (x ∷ xs) added (suc n) l = node_before xs added n (omega arith)

module _ (nodes added : List Node) (earlier : (n : ℕ) → AreBelow n (node_at nodes n).1) where
  -- nodes that are added behind change no type
  kept_within : (d n : ℕ) → n < length nodes → type_within d (nodes ++ added) n ≡ type_within d nodes n
  kept_within zero n l = refl
  kept_within (suc d) n l =
      ap (λ (node : Node). app node.0 (tys (map (type_within d (nodes ++ added)) node.1))) (node_before nodes added n l)
      ∙ ap (λ (ts : List Ty). app (node_at nodes n).0 (tys ts))
      (same_below (type_within d (nodes ++ added)) (type_within d nodes) n (λ j m. kept_within d j (omega arith)) (node_at nodes n).1 (earlier n))

-- a type stays where nodes are added behind
pub type_kept : (old new : List Node) → IsProper old → Extends old new → (n : ℕ) → n < length old → type_at new n ≡ type_at old n
type_kept old new p e n l = ap (λ (z : List Node). type_at z n) e.kept ∙ kept_within old e.more p.earlier (suc n) n l

pub types_kept : (old new : List Node) → IsProper old → Extends old new → (ks : List ℕ) → AreBelow (length old) ks → map (type_at new) ks ≡ map (type_at old) ks
types_kept old new p e ks b = same_below (type_at new) (type_at old) (length old) (λ k l. type_kept old new p e k l) ks b

-- the type of a node whose parts are these
pub type_of_node : (nodes : List Node) (n : ℕ) (node : Node) → IsProper nodes → node_at nodes n ≡ node → type_at nodes n ≡ app node.0 (tys (map (type_at nodes) node.1))
type_of_node nodes n node p e = in_nodes nodes p.earlier n ∙ ap (λ (z : Node). app z.0 (tys (map (type_at nodes) z.1))) e
