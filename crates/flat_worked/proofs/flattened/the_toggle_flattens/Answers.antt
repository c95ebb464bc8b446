-- Form by form.
use Rattle.flat_worked.proofs.Flattening.{flattened}
use Rattle.flat_worked.proofs.flattened.the_toggle_flattens.Goals as goal

pub returns : goal.returns
returns c = flattened
