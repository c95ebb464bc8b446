use Rattle.bit_layout.proofs.Lengths.{length-encoding}
use Rattle.bit_layout.proofs.laws.encoding_has_width.Goals as goal

pub returns : goal.returns
returns c = length-encoding
