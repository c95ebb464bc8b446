-- Types as numbers of shared nodes: a node is a head and the numbers of its parts, and each node stands once in a table.
use Rattle.std.specs.Prelude.{◌≡◌, ℕ, zero, suc, ◌<◌, List, [], ◌∷◌, ◌++◌, map, length, get_or}
use Rattle.rw_types_solving.specs.declared.term.Head.{Head}
use Rattle.rw_types_solving.specs.declared.term.Head.TheVariants as h
use Rattle.rw_types_solving.specs.Types.{Ty, app, tys}
use Rattle.rw_types_shared.specs.declared.node.Node.{Node as Kept}

-- a head, and the numbers of its parts
abbrev pub Node : Type 0
Node = Head × List ℕ

-- a node without where it lies in memory
abbrev pub shown : Kept → Node
shown node = (node.head, node.parts.items)

-- the node with this number; the unit type where there is none
abbrev pub node_at : List Node → ℕ → Node
node_at nodes n = get_or nodes n (h.Tuple, [])

-- the type that a number is, down to so many levels
abbrev pub type_within : ℕ → List Node → ℕ → Ty
type_within zero nodes n = app h.Tuple (tys [])
type_within (suc levels) nodes n = app (node_at nodes n).0 (tys (map (type_within levels nodes) (node_at nodes n).1))

-- the type that a number is: parts are earlier than their node, so there are no more levels than that
abbrev pub type_at : List Node → ℕ → Ty
type_at nodes n = type_within (suc n) nodes n

-- each number is below n
abbrev pub AreBelow : ℕ → List ℕ → Type 0
AreBelow n [] = Unit {0}
AreBelow n (k ∷ ks) = (k < n) × AreBelow n ks

-- each part is earlier than its node, and no two nodes are the same
pub record IsProper (nodes : List Node) : Type 0 where
  pub earlier : (n : ℕ) → AreBelow n (node_at nodes n).1
  pub distinct : (m n : ℕ) → m < length nodes → n < length nodes → node_at nodes m ≡ node_at nodes n → m ≡ n

-- nodes were added behind the others
pub record Extends (old new : List Node) : Type 0 where
  pub more : List Node
  pub kept : new ≡ old ++ more
