-- A table without equations is solved.
use Rattle.std.proofs.Common.{arith}
use Rattle.rw_types_solving.proofs.Turns.{length_equations}
use Rattle.rw_types_solving.proofs.Entries.{free_table}
use Rattle.rw_types_solving.proofs.table.Table.new.Goals as goal

pub returns-clause-table : goal.returns-clause-table
returns-clause-table c = free_table _ (let l = length_equations c.loop.entries in omega arith) c.loop.invariant.free
