-- The law as it is proved.
use Rattle.std.proofs.Common.{sym}
use Rattle.register_machine.proofs.Encodings.{width_of-none, code-encoding}
use Rattle.register_machine.proofs.laws.code_law.Goals as goal

pub returns : goal.returns
returns c = λ types ty h. (width_of-none types ty h, λ tag within. sym (code-encoding types ty tag h within))
