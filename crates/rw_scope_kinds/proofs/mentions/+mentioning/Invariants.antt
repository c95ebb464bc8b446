-- What the loop keeps: what was found, before what is left to be found, is the whole.
use Rattle.std.proofs.Common.{◌≡◌, ◌++◌, drop, flat_map}
use Rattle.rw_tree.specs.Types.{writtens, type_parts}
use Rattle.rw_scope_rules.specs.Scope.{types_constructors}
use Rattle.rw_scope_kinds.specs.Mentions.{numbers_by}
use Rattle.rw_scope_kinds.proofs.mentions.+mentioning.Given as goal

abbrev pub invariant-add_all-loop-ty : goal.invariant-add_all-loop-ty
invariant-add_all-loop-ty l =
    l.row ++ flat_map (numbers_by l.table) (types_constructors (type_parts (writtens (drop l.ty-index l.types)))) ≡ l.fn.row ++ flat_map (numbers_by l.table) (types_constructors (type_parts (writtens l.types)))
