-- There is one verdict at most.
use Rattle.rw_base.specs.declared.rule.Rule.TheVariants.{E19, E20, E21, E22, E23, E24, E25}
use Rattle.rw_guard_rules.specs.Verdict.{Recurses, RecursesInside, LoopsSilently, MayReturn, IsTooWide, IsTooHeavy, IsTooDeep}
use Rattle.rw_guard_rules.proofs.Verdicts.{once, kept_once}
use Rattle.rw_guard_rules.proofs.laws.one_verdict_on_guards.Goals as goal

pub returns : goal.returns
returns c program =
    once E19 (Recurses program) _
    (once E20 (RecursesInside program) _
    (once E21 (LoopsSilently program) _
    (once E22 (MayReturn program) _
    (once E23 (IsTooWide program) _
    (once E24 (IsTooHeavy program) _
    (once E25 (IsTooDeep program) _ kept_once))))))
