use Rattle.std.proofs.Common.{List, ℕ, Ok, Err, subst, rules, ◌≡◌}
use Rattle.rw_base.specs.Outside.{IfTold, Loads}
use Rattle.rw_base.specs.Answers.{Fail}
use Rattle.rw_base.specs.declared.fail.Failure.TheVariants as fail
use Rattle.rw_front.specs.Fronts.{Fronts}
use Rattle.rewire_top.specs.Answers.{most_of_source}
use Rattle.rewire_top.proofs.Checking.{refused, exactly, never_refused}
use Rattle.rewire_top.proofs.check.check.Goals as goal

pub returns-in-Ok-front-clause-refused_where : goal.returns-in-Ok-front-clause-refused_where
returns-in-Ok-front-clause-refused_where g c files rule place held as_given =
    let source = c.in-Ok.source.items in
    let loaded : IfTold (Loads c.args.file.now most_of_source source) (g.S.Store.held c.args.store.now) = search (rules, c.in-Ok.ensures.bytes) in
    let fronts : Fronts source (Ok c.in-Ok-front.field-0) = subst (λ (s : List ℕ). Fronts s (Ok c.in-Ok-front.field-0)) c.deref.ensures.value c.in-Ok-front.ensures.verdict in
    exactly c.args.file.now source (g.S.Store.held c.args.store.now) loaded c.one_verdict.ensures (Ok c.in-Ok-front.field-0) fronts files rule place held as_given

pub returns-in-Err-Refused-clause-refused : goal.returns-in-Err-Refused-clause-refused
returns-in-Err-Refused-clause-refused g c rule place is =
    let source = c.in-Ok.source.items in
    let loaded : IfTold (Loads c.args.file.now most_of_source source) (g.S.Store.held c.args.store.now) = search (rules, c.in-Ok.ensures.bytes) in
    let same : c.in-Err-Refused.field-0 ≡ fail.Refused c.in-Err-Refused.refusal = search (rules, c.in-Err-Refused.field-0-is, c.in-Err-Refused.refusal-is) in
    let there : Fronts c.deref.result.now (Err (fail.Refused c.in-Err-Refused.refusal)) = subst (λ (f : Fail). Fronts c.deref.result.now (Err f)) same c.in-Err-Refused.ensures.verdict in
    let fronts : Fronts source (Err (fail.Refused c.in-Err-Refused.refusal)) = subst (λ (s : List ℕ). Fronts s (Err (fail.Refused c.in-Err-Refused.refusal))) c.deref.ensures.value there in
    refused c.args.file.now source (g.S.Store.held c.args.store.now) c.in-Err-Refused.refusal loaded fronts rule place is

pub returns-in-Err-Refused-clause-refused_where : goal.returns-in-Err-Refused-clause-refused_where
returns-in-Err-Refused-clause-refused_where g c files rule place held as_given =
    let source = c.in-Ok.source.items in
    let loaded : IfTold (Loads c.args.file.now most_of_source source) (g.S.Store.held c.args.store.now) = search (rules, c.in-Ok.ensures.bytes) in
    let same : c.in-Err-Refused.field-0 ≡ fail.Refused c.in-Err-Refused.refusal = search (rules, c.in-Err-Refused.field-0-is, c.in-Err-Refused.refusal-is) in
    let there : Fronts c.deref.result.now (Err (fail.Refused c.in-Err-Refused.refusal)) = subst (λ (f : Fail). Fronts c.deref.result.now (Err f)) same c.in-Err-Refused.ensures.verdict in
    let fronts : Fronts source (Err (fail.Refused c.in-Err-Refused.refusal)) = subst (λ (s : List ℕ). Fronts s (Err (fail.Refused c.in-Err-Refused.refusal))) c.deref.ensures.value there in
    exactly c.args.file.now source (g.S.Store.held c.args.store.now) loaded c.one_verdict.ensures (Err (fail.Refused c.in-Err-Refused.refusal)) fronts files rule place held as_given

pub returns-in-Err-Refused-clause-complete : goal.returns-in-Err-Refused-clause-complete
returns-in-Err-Refused-clause-complete g c files held can =
    let source = c.in-Ok.source.items in
    let loaded : IfTold (Loads c.args.file.now most_of_source source) (g.S.Store.held c.args.store.now) = search (rules, c.in-Ok.ensures.bytes) in
    let same : c.in-Err-Refused.field-0 ≡ fail.Refused c.in-Err-Refused.refusal = search (rules, c.in-Err-Refused.field-0-is, c.in-Err-Refused.refusal-is) in
    let there : Fronts c.deref.result.now (Err (fail.Refused c.in-Err-Refused.refusal)) = subst (λ (f : Fail). Fronts c.deref.result.now (Err f)) same c.in-Err-Refused.ensures.verdict in
    let fronts : Fronts source (Err (fail.Refused c.in-Err-Refused.refusal)) = subst (λ (s : List ℕ). Fronts s (Err (fail.Refused c.in-Err-Refused.refusal))) c.deref.ensures.value there in
    never_refused c.args.file.now source (g.S.Store.held c.args.store.now) loaded c.one_verdict.ensures c.in-Err-Refused.refusal fronts files held can
