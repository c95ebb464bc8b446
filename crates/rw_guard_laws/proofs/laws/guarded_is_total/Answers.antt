-- A guarded flat program denotes exactly one list.
use Rattle.rw_core.proofs.Eventually.{reached_once}
use Rattle.rw_core_flat.specs.Programs.{outputs_within}
use Rattle.rw_guard_laws.proofs.Outputs.{denoted}
use Rattle.rw_guard_laws.proofs.laws.guarded_is_total.Goals as goal

pub returns-clause-denotes : goal.returns-clause-denotes
returns-clause-denotes c = denoted

pub returns-clause-one : goal.returns-clause-one
returns-clause-one c functions system inputs first second d e = reached_once (λ budget. outputs_within functions system budget inputs) first second d e
