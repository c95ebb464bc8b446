-- What the loop keeps: the answer for the constructors that are left is that for all.
use Rattle.std.proofs.Common.{◌≡◌, drop, map}
use Rattle.std.specs.List.{list_all}
use Rattle.rw_tree.specs.Declarations.{plain_constructor}
use Rattle.rw_scope_rules.specs.Scope.{fields_of}
use Rattle.rw_scope_kinds.specs.Contexts.{fits_field}
use Rattle.rw_scope_kinds.proofs.wrong.constructors_fit.Given as goal

abbrev pub invariant-loop-constructor : goal.invariant-loop-constructor
invariant-loop-constructor l =
    list_all (fits_field l.context) (fields_of (map plain_constructor (drop l.constructor-index l.constructors))) ≡ list_all (fits_field l.context) (fields_of (map plain_constructor l.constructors))
