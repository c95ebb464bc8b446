-- Each turn takes what waits last.
use Rattle.std.proofs.Common.{◌≡◌, ◌∙◌, ◌∷◌, ◌++◌, [], reverse, ap, sym, option_to_list}
use Rattle.std.proofs.lemmas.Result.{err_from_is_err_and}
use Rattle.rw_parser_chains.specs.Grouping.{operated, closed}
use Rattle.rw_base.proofs.Answers.{fails_on}
use Rattle.rw_parser_chains.proofs.Steps.{last_first, emptied, closed_none, closed_step, closed_fail}
use Rattle.rw_parser_chains.proofs.chain.close.Goals as goal

pub returns-in_err-operand : goal.returns-in_err-operand
returns-in_err-operand c =
    let p = err_from_is_err_and c.from_residual.result c.from_residual.ensures.1 in
    let was : c.loop-left.waiting.items ≡ c.pop.new.self.items ++ (c.in-Some.left, c.in-Some.operator) ∷ [] = c.pop.ensures.items ∙ ap (λ r. c.pop.new.self.items ++ option_to_list r) c.in-Some.is in
    let turned : reverse c.loop-left.waiting.items ≡ (c.in-Some.left, c.in-Some.operator) ∷ reverse c.pop.new.self.items = ap reverse was ∙ last_first c.pop.new.self.items (c.in-Some.left, c.in-Some.operator) in
    rw (p.1, p.2) (fails_on c.in_err-operand.field-0.0 (operated c.in-Some.operator c.in-Some.left c.loop-left.operand) (closed (reverse c.args.waiting.items) c.args.operand) c.in_err-operand.ensures
    (λ h. sym c.loop-left.invariant ∙ ap (λ z. closed z c.loop-left.operand) turned ∙ closed_fail (c.in-Some.left, c.in-Some.operator) (reverse c.pop.new.self.items) c.loop-left.operand h))

pub loop-left-preserved : goal.loop-left-preserved
loop-left-preserved c =
    let was : c.loop-left.waiting.items ≡ c.pop.new.self.items ++ (c.in-Some.left, c.in-Some.operator) ∷ [] = c.pop.ensures.items ∙ ap (λ r. c.pop.new.self.items ++ option_to_list r) c.in-Some.is in
    let turned : reverse c.loop-left.waiting.items ≡ (c.in-Some.left, c.in-Some.operator) ∷ reverse c.pop.new.self.items = ap reverse was ∙ last_first c.pop.new.self.items (c.in-Some.left, c.in-Some.operator) in
    sym (closed_step (c.in-Some.left, c.in-Some.operator) (reverse c.pop.new.self.items) c.loop-left.operand c.in_ok-operand.operand c.in_ok-operand.ensures)
    ∙ ap (λ z. closed z c.loop-left.operand) (sym turned) ∙ c.loop-left.invariant

pub returns : goal.returns
returns c =
    let none = emptied c.loop-left.waiting.items c.pop.new.self.items c.pop.result c.loop-left.waiting.len c.pop.new.self.len c.in_default.is c.pop.ensures.items c.pop.ensures.cases c.pop.ensures.rest in
    sym c.loop-left.invariant ∙ ap (λ z. closed (reverse z) c.loop-left.operand) none.0 ∙ closed_none c.loop-left.operand
