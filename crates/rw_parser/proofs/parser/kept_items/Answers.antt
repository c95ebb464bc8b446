-- The items of a program in their frame.
use Rattle.std.proofs.Common.{◌≡◌, ◌∙◌, ◌≤◌, length, is_some, true, false, None, sym, arith}
use Rattle.rw_parser_reading.specs.ReadProgram.{runs_at}
use Rattle.rw_parser.specs.Frame.{frame_tokens}
use Rattle.rw_parser.proofs.Framed.{no_frame, no_runs, some_of, with_frame, without_frame}
use Rattle.rw_parser.proofs.parser.kept_items.Goals as goal

pub returns-then-are_runs : goal.returns-then-are_runs
returns-then-are_runs g c = λ reads n l.
    let ts = c.args.tokens.now in
    let rest = c.in-Ok.rest.now in
    let some : is_some (runs_at (length rest) rest) ≡ true = sym c.are_runs.ensures ∙ c.if-are_runs.true in
    let runs = some_of (runs_at (length rest) rest) some in
    let s = c.in-Ok.ensures.shorter in
    let within : length rest ≤ n = omega arith in
    with_frame n ts rest runs.0 c.read_runs.result c.in-Ok.ensures.read runs.1 (c.read_runs.ensures reads n runs.0 within runs.1)

pub returns-else-are_runs : goal.returns-else-are_runs
returns-else-are_runs g c = λ reads n l.
    let ts = c.args.tokens.now in
    let rest = c.in-Ok.rest.now in
    let none : is_some (runs_at (length rest) rest) ≡ false = sym c.are_runs.ensures ∙ c.if-are_runs.false in
    rw c.broken.ensures (without_frame n ts c.first_place.result (no_runs ts rest c.in-Ok.ensures.read none) c.first_place.ensures)

pub returns-in-Err-Refused : goal.returns-in-Err-Refused
returns-in-Err-Refused g c = λ reads n l.
    let ts = c.args.tokens.now in
    let none : frame_tokens ts ≡ None = rw c.in-Err-Refused.field-0-is at c.in-Err-Refused.ensures.read in
    rw c.broken-in-Err-Refused.ensures (without_frame n ts c.first_place-in-Err-Refused.result (no_frame ts none) c.first_place-in-Err-Refused.ensures)
