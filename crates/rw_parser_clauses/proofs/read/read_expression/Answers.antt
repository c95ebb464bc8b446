-- An expression is kept where there is room for its frames.
use Rattle.std.proofs.Common.{length, arith}
use Rattle.std.proofs.lemmas.Result.{err_from_is_err_and}
use Rattle.rw_parser_reading.specs.Frames.{frames_of_expression}
use Rattle.rw_parser_parts.specs.Within.{expression_within}
use Rattle.rw_base.proofs.Answers.{fails_on}
use Rattle.rw_parser_clauses.proofs.Readers.{Found, expression_kept, expression_none, expression_shorter}
use Rattle.rw_parser_clauses.proofs.read.read_expression.Goals as goal

pub returns-in_err-tree-clause-read : goal.returns-in_err-tree-clause-read
returns-in_err-tree-clause-read c n h =
    let p = err_from_is_err_and c.from_residual.result c.from_residual.ensures.1 in
    rw (p.1, p.2) (fails_on c.in_err-tree.field-0.0 (expression_within (length c.args.tokens.now) c.more_than-more.result c.args.tokens.now) _ c.in_err-tree.ensures (expression_none c.args.room c.more_than-more.result c.more_than-more.ensures n c.args.tokens.now h))

pub returns-clause-read : goal.returns-clause-read
returns-clause-read c n h =
    let found : Found frames_of_expression c.args.room c.more_than-more.result c.expression_frames-frames.result c.in_ok-tree.tree c.in_ok-kept.field-0 =
    record {
      counted = c.expression_frames-frames.ensures;
      fits = λ i. let e = c.in_ok-kept.ensures.fits i in cc;
      cut_off = λ i. c.in_ok-kept.ensures.cut i;
    } in
    expression_kept c.args.room c.more_than-more.result c.more_than-more.ensures n c.args.tokens.now h c.in_ok-tree.tree c.in_ok-tree.rest.now c.in_ok-kept.field-0 c.expression_frames-frames.result c.in_ok-tree.ensures found

pub returns-clause-shorter : goal.returns-clause-shorter
returns-clause-shorter c = expression_shorter c.args.room c.args.tokens.now c.in_ok-tree.rest.now c.in_ok-kept.field-0 (returns-clause-read c (length c.args.tokens.now) (omega arith))
