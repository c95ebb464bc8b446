use Rattle.std.proofs.Common.{rules, ◌≡◌, ◌+◌, ◌-◌, ◌<◌, ◌++◌, [], length, sym, ap, ◌∙◌, arith}
use Rattle.std.proofs.lemmas.Result.{err_from_is_err_and}
use Rattle.std.proofs.lemmas.Grind.{common_steps}
use Rattle.vh_tree_reading.specs.Scan.{front, added, tokens_at}
use Rattle.rw_base.proofs.Answers.{fails_on}
use Rattle.vhdl_read.proofs.Scanning.{behind_all, scan_step, scan_fail, scan_end, scan_none, scan_turns}
use Rattle.vhdl_read.proofs.scan.scan.Goals as goal
use Rattle.vhdl_read.proofs.scan.scan.Goals.{else-loop-turn-test, then-loop-turn-test+then-is_empty}

pub returns-in_err-one : goal.returns-in_err-one
returns-in_err-one c =
    let p = err_from_is_err_and c.from_residual.result c.from_residual.ensures.1 in
    let some : 0 < length c.loop-turn.rest.now = grind (arith, common_steps) in
    rw (p.1, p.2) (fails_on c.in_err-one.field-0.0 (front c.loop-turn.rest.now) _ c.in_err-one.ensures
    (λ h. scan_turns c.args.text.now ∙ sym c.loop-turn.invariant ∙ scan_fail _ (length c.args.text.now - (c.loop-turn._turn + 1)) c.loop-turn.rest.now c.loop-turn.all (omega arith) some h))

pub loop-turn-preserved : goal.loop-turn-preserved
loop-turn-preserved c =
    let some : 0 < length c.loop-turn.rest.now = grind (arith, common_steps) in
    let more : c.add.new.all ≡ c.loop-turn.all ++ added c.in_ok-one.one [] = search rules in
    let next = length c.args.text.now - (c.loop-turn._turn + 1) in
    ap (λ f. behind_all f (tokens_at next c.in_ok-one.behind.now)) more
    ∙ scan_step (length c.args.text.now - c.loop-turn._turn) next c.loop-turn.rest.now c.loop-turn.all (c.in_ok-one.one, c.in_ok-one.behind.now) (omega arith) some c.in_ok-one.ensures ∙ c.loop-turn.invariant

pub returns-then-is_empty-2 : goal.returns-then-is_empty-2
returns-then-is_empty-2 c =
    let none : length c.loop-turn.rest.now ≡ 0 = grind (arith, common_steps) in
    scan_turns c.args.text.now ∙ sym c.loop-turn.invariant ∙ scan_end _ c.loop-turn.all c.loop-turn.rest.now none

pub returns-else-is_empty-2 : goal.returns-else-is_empty-2
returns-else-is_empty-2 c =
    let some : 0 < length c.loop-turn.rest.now = grind (arith, common_steps) in
    let over : length c.args.text.now - c.loop-turn._turn ≡ 0 =
    elim c.loop-turn-test.branch [ else-loop-turn-test w ↦ omega arith | then-loop-turn-test+then-is_empty w ↦ absurd (grind (arith, common_steps)) ] in
    scan_turns c.args.text.now ∙ sym c.loop-turn.invariant ∙ scan_none _ c.loop-turn.all c.loop-turn.rest.now over some
