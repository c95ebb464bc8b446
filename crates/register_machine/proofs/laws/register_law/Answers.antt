-- The law as it is proved.
use Rattle.register_machine.proofs.Registers.{register_reads}
use Rattle.register_machine.proofs.laws.register_law.Goals as goal

pub returns : goal.returns
returns c = register_reads
