-- Numbers below a bound, and nodes as they are kept.
use Rattle.std.proofs.Common.{◌≡◌, ℕ, zero, suc, ◌<◌, ◌≤◌, List, [], ◌∷◌, map, length, get_or, refl, sym, ap, subst, arith}
use Rattle.rw_types_solving.specs.Types.{app, tys}
use Rattle.rw_types_shared.specs.declared.node.Node.{Node as Kept}
use Rattle.rw_types_shared.specs.Shared.{Node, shown, node_at, type_at, AreBelow, IsProper}
use Rattle.rw_types_shared.proofs.Levels.{type_of_node}

pub below_at : (n : ℕ) (ks : List ℕ) (i d : ℕ) → AreBelow n ks → i < length ks → get_or ks i d < n
below_at n [] i d b l = absurd (omega arith)
below_at n (k ∷ ks) zero d b l = b.0
below_at n (k ∷ ks) (suc i) d b l = below_at n ks i d b.1 (omega arith)

pub kept_at : (keys : List Kept) (n : ℕ) (node : Kept) → n < length keys → node ≡ get_or keys n node → node_at (map shown keys) n ≡ shown node
kept_at [] n node l e = absurd (omega arith)
kept_at (x ∷ xs) zero node l e = ap shown (sym e)
kept_at (x ∷ xs) (suc n) node l e = kept_at xs n node (omega arith) e

pub kept_past : (keys : List Kept) (n : ℕ) → length keys ≤ n → node_at (map shown keys) n ≡ node_at [] n
kept_past [] n l = refl
kept_past (x ∷ xs) zero l = absurd (omega arith)
kept_past (x ∷ xs) (suc n) l = kept_past xs n (omega arith)

-- the type of a node as it is kept
pub type_kept_at : (keys : List Kept) (n : ℕ) (node : Kept) → IsProper (map shown keys) → n < length keys → node ≡ get_or keys n node
    → type_at (map shown keys) n ≡ app node.head (tys (map (type_at (map shown keys)) node.parts.items))
type_kept_at keys n node p l e = type_of_node (map shown keys) n (shown node) p (kept_at keys n node l e)

pub parts_are : (keys : List Kept) (n : ℕ) (node : Kept) → n < length keys → node ≡ get_or keys n node → node.parts.items ≡ (node_at (map shown keys) n).1
parts_are keys n node l e = ap (λ (z : Node). z.1) (sym (kept_at keys n node l e))

pub parts_below : (keys : List Kept) (n : ℕ) (node : Kept) → IsProper (map shown keys) → n < length keys → node ≡ get_or keys n node → AreBelow n node.parts.items
parts_below keys n node p l e = subst (λ (z : Node). AreBelow n z.1) (kept_at keys n node l e) (p.earlier n)
