-- When nodes are the same, and what of a node is hashed.
use Rattle.std.specs.Prelude.{ℕ, Bool, ◌&&◌, ◌++◌, bytes_eq}
use Rattle.std.specs.Hash as fed
use Rattle.rw_types_solving.specs.declared.term.Head.{Head}
use Rattle.rw_types_solving.specs.declared.term.Head.TheVariants as h
use Rattle.rw_types_solving.specs.Types.{same_head}
use Rattle.rw_types_shared.specs.Shared.{Node}

abbrev pub same_node : Node → Node → Bool
same_node a b = same_head a.0 b.0 && bytes_eq a.1 b.1

-- a number by which most heads are told apart
abbrev pub number_of : Head → ℕ
number_of (h.Data n) = n
number_of (h.Unknown n) = n
number_of h.Tuple = 0
number_of h.Fun = 1
number_of h.Comp = 2
number_of h.I = 3
number_of h.Layer = 4
number_of h.StateT = 5
number_of h.ReT = 6

abbrev pub hashed : Node → fed.HashWrites
hashed node = fed.u32 (number_of node.0) ++ fed.slice fed.u32 node.1
