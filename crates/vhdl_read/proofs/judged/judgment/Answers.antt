-- From what the reader gives, and the check.
use Rattle.std.proofs.Common.{Err, refl}
use Rattle.vhdl_read.specs.Reading.{unread, kept}
use Rattle.vhdl_read.proofs.Judging.{judged_unchecked}
use Rattle.vhdl_read.proofs.judged.judgment.Goals as goal

pub returns-in-Err : goal.returns-in-Err
returns-in-Err c = unread c.in-Err.e c.in-Err.ensures.answer

pub returns-in-Ok-check_static : goal.returns-in-Ok-check_static
returns-in-Ok-check_static c = kept c.in-Ok.design c.in-Ok.ensures.answer (c.in-Ok-check_static.ensures.ok refl)

pub returns-in-Err-check_static : goal.returns-in-Err-check_static
returns-in-Err-check_static c =
    judged_unchecked c.args.bytes.now c.in-Ok.design c.in-Ok.ensures.answer c.in-Err-check_static.e (Err c.in-Err-check_static.e) refl c.in-Err-check_static.ensures.refused
