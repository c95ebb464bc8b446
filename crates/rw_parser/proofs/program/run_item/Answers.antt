-- The item of a run goes on to the token that ends it.
use Rattle.std.proofs.Common.{◌≡◌, ◌∙◌, true, false, sym}
use Rattle.std.proofs.lemmas.Result.{err_from_is_err_and}
use Rattle.rw_parser_reading.specs.ReadProgram.{is_last}
use Rattle.rw_base.proofs.Answers.{fails_on}
use Rattle.rw_parser.specs.Kept.{item_kept}
use Rattle.rw_parser.specs.Reading.{run_kept}
use Rattle.rw_parser.proofs.Spelled.{run_none, run_is, run_other}
use Rattle.rw_parser.proofs.program.run_item.Goals as goal

pub returns-in_err-item : goal.returns-in_err-item
returns-in_err-item g c = λ reads n run w l.
    let p = err_from_is_err_and c.from_residual.result c.from_residual.ensures.1 in
    let end = c.args.end.now in
    rw (p.1, p.2) (fails_on c.in_err-item.field-0.0 (item_kept n c.args.tokens.now) (run_kept n run end) (c.in_err-item.ensures reads n l) (λ e. run_none n c.args.tokens.now run end w e))

pub returns-then-is_last : goal.returns-then-is_last
returns-then-is_last g c = λ reads n run w l.
    let end = c.args.end.now in
    let h : is_last end c.in_ok-item.rest.now ≡ true = sym c.is_last.ensures ∙ c.if-is_last.true in
    run_is n c.args.tokens.now run end w c.in_ok-item.item c.in_ok-item.rest.now (c.in_ok-item.ensures reads n l) h

pub returns-else-is_last : goal.returns-else-is_last
returns-else-is_last g c = λ reads n run w l.
    let end = c.args.end.now in
    let h : is_last end c.in_ok-item.rest.now ≡ false = sym c.is_last.ensures ∙ c.if-is_last.false in
    run_other n c.args.tokens.now run end w c.in_ok-item.item c.in_ok-item.rest.now (c.in_ok-item.ensures reads n l) h
