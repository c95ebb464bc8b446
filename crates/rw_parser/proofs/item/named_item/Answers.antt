-- A signature, or a clause.
use Rattle.std.proofs.Common.{◌≡◌, ◌∙◌, true, false, sym, ap, Some}
use Rattle.std.proofs.lemmas.Result.{err_from_is_err_and}
use Rattle.rw_parser_reading.specs.Frames.{cut}
use Rattle.rw_parser_grammar.specs.Levels.{max_levels}
use Rattle.rw_parser_reading.specs.ReadDeclarations.{begins_signed}
use Rattle.rw_parser_reading.specs.ReadLevels.{clause_over, expression_at, locals_at}
use Rattle.rw_base.proofs.Answers.{fails_on}
use Rattle.rw_parser_items.specs.Kept.{signature_kept}
use Rattle.rw_parser.specs.Clauses.{frames_of_clause}
use Rattle.rw_parser.specs.Kept.{named_item_kept}
use Rattle.rw_parser.proofs.NamedItems.{signed, not_signed, a_clause, no_clause}
use Rattle.rw_parser.proofs.item.named_item.Goals as goal

pub returns-in_err-decl : goal.returns-in_err-decl
returns-in_err-decl g c = λ reads n l.
    let p = err_from_is_err_and c.from_residual.result c.from_residual.ensures.1 in
    let ts = c.args.tokens.now in
    let h : begins_signed ts ≡ true = sym c.begins_signed.ensures ∙ c.if-begins_signed.true in
    rw (p.1, p.2) (fails_on c.in_err-decl.field-0.0 (signature_kept max_levels ts) (named_item_kept n ts) c.in_err-decl.ensures (λ e. not_signed n ts h e))

pub returns-then-begins_signed : goal.returns-then-begins_signed
returns-then-begins_signed g c = λ reads n l.
    let ts = c.args.tokens.now in
    let h : begins_signed ts ≡ true = sym c.begins_signed.ensures ∙ c.if-begins_signed.true in
    signed n ts (c.in_ok-decl.decl, c.in_ok-decl.rest.now) h c.in_ok-decl.ensures ∙ ap (λ z. Some (z, c.in_ok-decl.rest.now)) (sym c.whole.ensures)

pub returns-in_err-made : goal.returns-in_err-made
returns-in_err-made g c = λ reads n l.
    let p = err_from_is_err_and c.from_residual-in_err-made.result c.from_residual-in_err-made.ensures.1 in
    let ts = c.args.tokens.now in
    let h : begins_signed ts ≡ false = sym c.begins_signed.ensures ∙ c.if-begins_signed.false in
    rw (p.1, p.2) (fails_on c.in_err-made.field-0.0 (cut frames_of_clause max_levels (clause_over n (expression_at n) (locals_at n) ts)) (named_item_kept n ts) (reads _ _ c.in_err-made.ensures n l) (λ e. no_clause n ts h e))

pub returns : goal.returns
returns g c = λ reads n l.
    let ts = c.args.tokens.now in
    let h : begins_signed ts ≡ false = sym c.begins_signed.ensures ∙ c.if-begins_signed.false in
    a_clause n ts (c.in_ok-made.made, c.in_ok-made.rest.now) h (reads _ _ c.in_ok-made.ensures n l) ∙ ap (λ z. Some (z, c.in_ok-made.rest.now)) (sym c.clause_of.ensures)
