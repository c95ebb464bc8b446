-- What is denoted has one output more than inputs.
use Rattle.rw_meaning.proofs.Lengths.{length-denoted}
use Rattle.rw_meaning.proofs.laws.one_more_output_than_inputs.Goals as goal

pub returns : goal.returns
returns c = length-denoted
