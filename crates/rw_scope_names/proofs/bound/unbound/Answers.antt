-- The parts of the rule together.
use Rattle.std.proofs.Common.{map, ap}
use Rattle.rw_tree.specs.Views.{itself}
use Rattle.rw_tree.specs.Declarations.{declaration, plain_program}
use Rattle.rw_scope_names.proofs.Rules.{unbound_is}
use Rattle.rw_scope_names.proofs.bound.unbound.Goals as goal

pub returns : goal.returns
returns c = λ bound.
    unbound_is (plain_program itself c.args.program.now) (plain_program itself c.args.bound.now) (map (declaration itself) c.as_slice-decls.result.now) c.in_ok-types.types c.in_ok-operators.operators
    c.new-places.result.items c.see_declarations.new.places.items c.see_inside.new.places.items (ap (map (declaration itself)) c.as_slice-decls.ensures) c.new-places.ensures.items
    c.in_ok-types.ensures c.in_ok-operators.ensures c.in_ok-see_declarations.ensures c.in_ok-see_inside.ensures bound
