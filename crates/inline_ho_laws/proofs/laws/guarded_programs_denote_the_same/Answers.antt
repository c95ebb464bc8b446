-- The flat program denotes a list, the source denotes it, and the source denotes one at most.
use Rattle.inline_ho_laws.proofs.Outputs.{denoted}
use Rattle.inline_ho_laws.proofs.Programs.{denoted_by}
use Rattle.inline_ho_laws.proofs.laws.guarded_programs_denote_the_same.Goals as goal

pub returns : goal.returns
returns c program origins functions system f types signs i o g inputs h outputs =
    (denoted_by program origins functions system f types signs i o g inputs h outputs, denoted program origins functions system f inputs outputs)
