-- Item by item.
use Rattle.rw_parser_resolution.proofs.Judged.{program_judged}
use Rattle.rw_parser_resolution.proofs.laws.each_program_is_judged.Goals as goal

pub returns : goal.returns
returns c = program_judged
