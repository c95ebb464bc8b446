-- One table, and then one function for each origin.
use Rattle.inline_ho_laws.proofs.OneProgram.{one_program}
use Rattle.inline_ho_laws.proofs.laws.instances_have_one_flat_program.Goals as goal

pub returns : goal.returns
returns c world typed instances first second functions others system another h k = one_program world typed instances first second functions others system another h k
