-- What the loop keeps: the first with the name is the first of those that are left.
use Rattle.std.proofs.Common.{◌≡◌, drop, map}
use Rattle.rw_tree.specs.Declarations.{plain_constructor}
use Rattle.rw_scope_rules.specs.Names.{first_named}
use Rattle.rw_scope_rules.specs.Bindings.{placed_constructors}
use Rattle.rw_cover.proofs.named.place_of.Given as goal

abbrev pub invariant-loop-at : goal.invariant-loop-at
invariant-loop-at l =
    first_named l.name (placed_constructors l.decl l.at (map plain_constructor (drop l.at l.constructors)))
    ≡ first_named l.name (placed_constructors l.decl 0 (map plain_constructor l.constructors))
