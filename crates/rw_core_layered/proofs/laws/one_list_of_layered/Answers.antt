-- One list of outputs at most is denoted.
use Rattle.rw_core.proofs.Eventually.{reached_once}
use Rattle.rw_core_layered.specs.Layered.{layered_within}
use Rattle.rw_core_layered.proofs.laws.one_list_of_layered.Goals as goal

pub returns : goal.returns
returns c p inputs first second d e = reached_once (λ budget. layered_within p budget inputs) first second d e
