-- The arguments of the head stand before those of the whole.
use Rattle.rw_start.specs.Seen.{seen_types}
use Rattle.rw_start.proofs.Types.{arguments_behind}
use Rattle.rw_start.proofs.device.+take_apart.Goals as goal

pub returns-in_ok-push_all-in-Apply-clause-arguments : goal.returns-in_ok-push_all-in-Apply-clause-arguments
returns-in_ok-push_all-in-Apply-clause-arguments t c =
    arguments_behind c.args.ty.now c.in-Apply.head c.get.result.now c.in-Apply.parts c.as_slice.result.now (seen_types c.args.arguments.now.items) (seen_types c.take_apart.new.arguments.items) (seen_types c.push_all.new.arguments.items)
    c.in-Apply.is c.get.ensures c.as_slice.ensures c.in_ok-top-in-Apply.ensures.arguments c.in_ok-push_all-in-Apply.ensures
