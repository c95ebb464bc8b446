-- The whole, from what is kept of its items.
use Rattle.std.proofs.Common.{◌≡◌, ◌∙◌, length}
use Rattle.std.proofs.lemmas.Result.{err_from_is_err_and}
use Rattle.rw_parser_grammar.specs.Lexemes.{lexemes}
use Rattle.rw_parser.proofs.Whole.{within, broken_parse, whole_parse}
use Rattle.rw_parser.proofs.parser.parse_over.Goals as goal

pub returns-in_err-joined : goal.returns-in_err-joined
returns-in_err-joined g c = λ reads.
    let p = err_from_is_err_and c.from_residual-in_err-joined.result c.from_residual-in_err-joined.ensures.1 in
    let tokens = c.args.tokens.now in
    let ts = c.as_slice.result.now in
    let same : ts ≡ lexemes tokens = c.as_slice.ensures ∙ c.in_ok-lexemes.ensures in
    rw (p.1, p.2) (broken_parse tokens ts same c.in_err-joined.field-0.0 (c.in_err-joined.ensures reads (length tokens) (within tokens ts same)))

pub returns : goal.returns
returns g c = λ reads.
    let tokens = c.args.tokens.now in
    let ts = c.as_slice.result.now in
    let same : ts ≡ lexemes tokens = c.as_slice.ensures ∙ c.in_ok-lexemes.ensures in
    whole_parse tokens ts same (c.in_ok-joined.joined, c.in_ok-joined.deep) c.in_ok-closed.field-0 c.grouped.result (c.in_ok-joined.ensures reads (length tokens) (within tokens ts same)) c.in_ok-closed.ensures c.grouped.ensures
