-- One list of outputs at most is denoted.
use Rattle.rw_core.proofs.Eventually.{reached_once}
use Rattle.rw_core_flat.specs.Programs.{outputs_within}
use Rattle.rw_core_flat.proofs.laws.one_list_is_shown.Goals as goal

pub returns : goal.returns
returns c functions system inputs first second d e = reached_once (λ budget. outputs_within functions system budget inputs) first second d e
