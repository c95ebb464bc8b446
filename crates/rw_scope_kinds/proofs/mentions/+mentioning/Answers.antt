-- All types of a list.
use Rattle.std.proofs.Common.{arith}
use Rattle.rw_scope_kinds.specs.Mentions.{numbers_by}
use Rattle.rw_scope_kinds.proofs.Mentioned.{all_types}
use Rattle.rw_scope_kinds.proofs.mentions.+mentioning.Goals as goal

pub add_all-returns-clause-listed : goal.add_all-returns-clause-listed
add_all-returns-clause-listed t c = all_types (numbers_by c.args.table.now) c.args.types.now c.loop-ty.ty-index c.args.row.now c.loop-ty.row (omega arith) c.loop-ty.invariant
