use Rattle.bit_layout.proofs.Unique.{encoding-same}
use Rattle.bit_layout.proofs.laws.encoding_tells_value.Goals as goal

pub returns : goal.returns
returns c = encoding-same
