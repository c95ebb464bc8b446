-- Each stage is exact, and so are all of them one after the other.
use Rattle.rw_front.specs.Verdict.{Verdict}
use Rattle.rw_front.specs.Stages.{◌then◌}
use Rattle.rw_front.proofs.Exact.{then_exact}
use Rattle.rw_pipe_rules.specs.Verdict.{HasTypes, HasInstances, Flattens, IsGuardedAs}
use Rattle.rw_pipe_laws.proofs.Instances.{types_exact, instances_exact}
use Rattle.rw_pipe_laws.proofs.Flattened.{flattens_exact, guarded_exact}
use Rattle.rw_pipe_laws.proofs.laws.one_whole_verdict.Goals as goal

pub returns : goal.returns
returns c bytes =
    then_exact Verdict (HasTypes then (HasInstances then (Flattens then IsGuardedAs))) bytes (c.one_verdict.ensures bytes)
    (λ program p. then_exact HasTypes (HasInstances then (Flattens then IsGuardedAs)) program (types_exact c.one_default_law.ensures program)
    (λ typed q. then_exact HasInstances (Flattens then IsGuardedAs) typed (instances_exact typed)
    (λ instanced r. then_exact Flattens IsGuardedAs instanced (flattens_exact c.instances_have_one_flat_program.ensures instanced)
    (λ judged s. guarded_exact c.one_verdict_on_guards.ensures judged))))
