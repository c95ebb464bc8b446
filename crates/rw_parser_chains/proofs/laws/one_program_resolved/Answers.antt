-- Programs, declaration by declaration.
use Rattle.rw_parser_chains.proofs.Programs.{one_program, apart, one_place}
use Rattle.rw_parser_chains.proofs.laws.one_program_resolved.Goals as goal

pub returns : goal.returns
returns c = record {
  one = λ program first second d e. one_program d e;
  apart = λ program other at d b. apart d b;
  one_place = λ program first second a b. one_place program a b;
}
