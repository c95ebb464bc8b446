-- Nothing comes after a head.
use Rattle.std.proofs.Common.{ap}
use Rattle.rw_scope_rules.specs.Scope.{spread}
use Rattle.rw_scope_names.proofs.Behind.{at_last}
use Rattle.rw_scope_names.proofs.top.see_head.Goals as goal

pub returns : goal.returns
returns c =
    at_last c.see_all.result c.new-seen.result c.see_all.new.seen c.args.places.now.items c.see_all.new.places.items (spread c.args.at c.as_slice.result.now) (spread c.args.at c.args.made.now.params)
    c.new-seen.ensures (ap (spread c.args.at) c.as_slice.ensures) c.see_all.ensures
