-- What the loop keeps: what was found, before what is left to be found, is the whole.
use Rattle.std.proofs.Common.{◌≡◌, ◌++◌, drop, map, flat_map}
use Rattle.rw_tree.specs.Declarations.{plain_constructor}
use Rattle.rw_scope_rules.specs.Scope.{type_constructors, fields_of}
use Rattle.rw_scope_kinds.specs.Mentions.{numbers_by}
use Rattle.rw_scope_kinds.proofs.mentions.row.Given as goal

abbrev pub invariant-loop-constructor : goal.invariant-loop-constructor
invariant-loop-constructor l =
    l.row ++ flat_map (numbers_by l.table) (flat_map type_constructors (fields_of (map plain_constructor (drop l.constructor-index l.constructors))))
    ≡ flat_map (numbers_by l.table) (flat_map type_constructors (fields_of (map plain_constructor l.constructors)))
