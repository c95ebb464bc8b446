-- None was seen before.
use Rattle.std.proofs.Common.{◌∙◌}
use Rattle.rw_types_world.proofs.Sights.{all_seen}
use Rattle.rw_types_world.proofs.variables.signature_variables.Goals as goal

pub returns : goal.returns
returns c = c.in_ok-add_variables.ensures ∙ all_seen _ _ c.new-names.ensures
