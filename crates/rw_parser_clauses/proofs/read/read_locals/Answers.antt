-- A block is kept where there is room for its frames.
use Rattle.std.proofs.Common.{◌∙◌, ap, min, length, arith}
use Rattle.std.proofs.lemmas.Result.{err_from_is_err_and}
use Rattle.rw_parser_reading.specs.Frames.{most, frames_of_local}
use Rattle.rw_parser_parts.specs.Within.{locals_within}
use Rattle.rw_base.proofs.Answers.{fails_on}
use Rattle.rw_parser_clauses.proofs.Readers.{Found, locals_kept, locals_none, locals_shorter}
use Rattle.rw_parser_clauses.proofs.read.read_locals.Goals as goal

pub returns-in_err-locals-clause-read : goal.returns-in_err-locals-clause-read
returns-in_err-locals-clause-read c n h =
    let p = err_from_is_err_and c.from_residual.result c.from_residual.ensures.1 in
    rw (p.1, p.2) (fails_on c.in_err-locals.field-0.0 (locals_within (length c.args.tokens.now) c.more_than-more.result c.args.tokens.now) _ c.in_err-locals.ensures (locals_none c.args.room c.more_than-more.result c.more_than-more.ensures n c.args.tokens.now h))

pub returns-clause-read : goal.returns-clause-read
returns-clause-read c n h =
    let found : Found (most frames_of_local) c.args.room c.more_than-more.result c.locals_frames-frames.result c.in_ok-locals.locals c.in_ok-kept.field-0 =
    record {
      counted = c.locals_frames-frames.ensures ∙ ap (λ z. min c.more_than-more.result (most frames_of_local z)) c.as_slice.ensures;
      fits = λ i. let e = c.in_ok-kept.ensures.fits i in cc;
      cut_off = λ i. c.in_ok-kept.ensures.cut i;
    } in
    locals_kept c.args.room c.more_than-more.result c.more_than-more.ensures n c.args.tokens.now h c.in_ok-locals.locals c.in_ok-locals.rest.now c.in_ok-kept.field-0 c.locals_frames-frames.result c.in_ok-locals.ensures found

pub returns-clause-shorter : goal.returns-clause-shorter
returns-clause-shorter c = locals_shorter c.args.room c.args.tokens.now c.in_ok-locals.rest.now c.in_ok-kept.field-0 (returns-clause-read c (length c.args.tokens.now) (omega arith))
