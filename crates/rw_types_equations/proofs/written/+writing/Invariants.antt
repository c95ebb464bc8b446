-- What is made, before what is left, is the whole.
use Rattle.std.proofs.Common.{◌≡◌, ◌++◌, drop}
use Rattle.rw_types_solving.specs.Types.{plains}
use Rattle.rw_tree.specs.Types.{writtens, type_parts}
use Rattle.rw_types_rules.specs.Written.{types_of}
use Rattle.rw_types_equations.specs.Seen.{seen_types}
use Rattle.rw_types_equations.proofs.written.+writing.Given as goal

abbrev pub invariant-types_of-loop-tree : goal.invariant-types_of-loop-tree
invariant-types_of-loop-tree l = plains l.all ++ types_of (seen_types l.types) l.variables (type_parts (writtens (drop l.tree-index l.trees))) ≡ types_of (seen_types l.types) l.variables (type_parts (writtens l.trees))
