use Rattle.bit_layout.proofs.Shapes.{width_of-step}
use Rattle.bit_layout.proofs.laws.width_is_of_fields.Goals as goal

pub returns : goal.returns
returns c = width_of-step
