-- An argument stands here.
use Rattle.std.proofs.Common.{ap, not}
use Rattle.rw_scope_uses.proofs.Walking.{some_arguments}
use Rattle.rw_scope_uses.proofs.head.+is_applied.Goals as goal

pub returns-then-not-is_empty : goal.returns-then-not-is_empty
returns-then-not-is_empty t c = some_arguments c.args.ty.now c.in-Apply.head c.in-Apply.parts c.is_empty.result c.in-Apply.is c.is_empty.ensures.1 (ap not c.if-not-is_empty.true)
