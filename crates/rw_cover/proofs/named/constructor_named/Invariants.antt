-- What the loop keeps: the first with the name is the first of those that are left.
use Rattle.std.proofs.Common.{◌≡◌, drop, map}
use Rattle.rw_tree.specs.Views.{itself}
use Rattle.rw_tree.specs.Declarations.{declaration}
use Rattle.rw_scope_rules.specs.Names.{first_named}
use Rattle.rw_scope_rules.specs.Bindings.{declared_by, declared_constructors}
use Rattle.rw_cover.proofs.named.constructor_named.Given as goal

abbrev pub invariant-loop-at : goal.invariant-loop-at
invariant-loop-at l =
    first_named l.name (declared_by declared_constructors l.at (map (declaration itself) (drop l.at l.decls)))
    ≡ first_named l.name (declared_by declared_constructors 0 (map (declaration itself) l.decls))
