-- A clause is kept where there is room for its frames.
use Rattle.std.proofs.Common.{length, arith}
use Rattle.std.proofs.lemmas.Result.{err_from_is_err_and}
use Rattle.rw_parser_clauses.specs.Clause.{frames_of_clause}
use Rattle.rw_parser_clauses.specs.Inside.{clause_inside}
use Rattle.rw_base.proofs.Answers.{fails_on}
use Rattle.rw_parser_clauses.proofs.Readers.{Found, clause_kept, clause_none, clause_shorter}
use Rattle.rw_parser_clauses.proofs.read.read_clause.Goals as goal

pub returns-in_err-clause-clause-read : goal.returns-in_err-clause-clause-read
returns-in_err-clause-clause-read c n h =
    let p = err_from_is_err_and c.from_residual.result c.from_residual.ensures.1 in
    rw (p.1, p.2) (fails_on c.in_err-clause.field-0.0 (clause_inside (length c.args.tokens.now) c.more_than-more.result c.args.tokens.now) _ c.in_err-clause.ensures (clause_none c.args.room c.more_than-more.result c.more_than-more.ensures n c.args.tokens.now h))

pub returns-clause-read : goal.returns-clause-read
returns-clause-read c n h =
    let found : Found frames_of_clause c.args.room c.more_than-more.result c.row_frames-frames.result c.in_ok-clause.clause c.in_ok-kept.field-0 =
    record {
      counted = c.row_frames-frames.ensures;
      fits = λ i. let e = c.in_ok-kept.ensures.fits i in cc;
      cut_off = λ i. c.in_ok-kept.ensures.cut i;
    } in
    clause_kept c.args.room c.more_than-more.result c.more_than-more.ensures n c.args.tokens.now h c.in_ok-clause.clause c.in_ok-clause.rest.now c.in_ok-kept.field-0 c.row_frames-frames.result c.in_ok-clause.ensures found

pub returns-clause-shorter : goal.returns-clause-shorter
returns-clause-shorter c = clause_shorter c.args.room c.args.tokens.now c.in_ok-clause.rest.now c.in_ok-kept.field-0 (returns-clause-read c (length c.args.tokens.now) (omega arith))
