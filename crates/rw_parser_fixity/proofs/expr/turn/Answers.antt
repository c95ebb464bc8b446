-- What waits after an operand and the operator behind it.
use Rattle.std.proofs.Common.{◌≡◌, ◌∙◌, ◌∷◌, ap, sym, reverse, Some}
use Rattle.std.proofs.lemmas.Result.{err_from_is_err_and}
use Rattle.rw_parser_reading.specs.Read.{◌>>=◌}
use Rattle.rw_parser_chains.specs.Fixities.{strength_at}
use Rattle.rw_parser_chains.specs.Grouping.{settled}
use Rattle.rw_base.proofs.Answers.{fails_on}
use Rattle.rw_parser_chains.proofs.Steps.{last_first}
use Rattle.rw_parser_fixity.specs.Nodes.{turned}
use Rattle.rw_parser_fixity.proofs.expr.turn.Goals as goal

pub returns-in_err-operand : goal.returns-in_err-operand
returns-in_err-operand c =
    let p = err_from_is_err_and c.from_residual.result c.from_residual.ensures.1 in
    let s = strength_at c.args.fixities.now in
    let o = c.args.operator in
    rw (p.1, p.2) (fails_on c.in_err-operand.field-0.0 (settled s o (reverse c.args.waiting.now.items) c.args.operand) (turned s o (reverse c.args.waiting.now.items) c.args.operand) (c.in_err-operand.ensures o.1)
    (λ h. ap (λ z. z >>= (λ q. Some ((q.1, o) ∷ q.0))) h))

pub returns : goal.returns
returns c =
    let o = c.args.operator in
    let pushed : reverse c.push.new.self.items ≡ (c.in_ok-operand.operand, o) ∷ reverse c.settle.new.waiting.items = ap reverse c.in_ok-push.ensures.items ∙ last_first c.settle.new.waiting.items (c.in_ok-operand.operand, o) in
    ap (λ z. z >>= (λ q. Some ((q.1, o) ∷ q.0))) (c.in_ok-operand.ensures o.1) ∙ ap Some (sym pushed)
