-- The law as it is proved.
use Rattle.register_machine.proofs.Tables.{machine_reads}
use Rattle.register_machine.proofs.laws.machine_law.Goals as goal

pub returns : goal.returns
returns c = machine_reads
