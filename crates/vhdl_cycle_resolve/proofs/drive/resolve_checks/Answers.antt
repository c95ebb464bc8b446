-- One test more holds where it holds.
use Rattle.std.proofs.Common.{arith, List, ap, ◌∙◌}
use Rattle.std.proofs.lemmas.Grind.{common_steps}
use Rattle.vhdl_cycle_flat.specs.Delta.{all_hold, room_checks}
use Rattle.vhdl_cycle_flat.specs.declared.process.Check.{Check}
use Rattle.vhdl_cycle_resolve.proofs.Driven.{all_hold_more, room_checks_more}
use Rattle.vhdl_cycle_resolve.proofs.Ordered.{same_test}
use Rattle.vhdl_cycle_resolve.proofs.drive.resolve_checks.Goals as goal

pub loop-test-preserved : goal.loop-test-preserved
loop-test-preserved c = record {
  holds = λ w n now s.
      let one = ap (λ (ts : List Check). all_hold ts w n now) c.in_ok-push.ensures.ok ∙ all_hold_more c.loop-test.out c.in_ok-r.r w n now in
      let far = c.loop-test.invariant.holds w n now s in
      let here = c.in_ok-r.ensures.holds w n now s in
      grind (arith, common_steps, one, far, here);
  room = λ n now.
      let one = ap (λ (ts : List Check). room_checks ts n now) c.in_ok-push.ensures.ok ∙ room_checks_more c.loop-test.out c.in_ok-r.r n now in
      omega (arith, one, c.loop-test.invariant.room n now, c.in_ok-r.ensures.room n now, c.in_ok-r.ensures.raised);
  raised = omega (arith, c.in_ok-r.ensures.raised);
}

pub returns-clause-holds : goal.returns-clause-holds
returns-clause-holds c = λ w n now s.
    let far = c.loop-test.invariant.holds w n now s in
    let one = same_test (all_hold c.loop-test.out w n now) in
    grind (arith, common_steps, one, far)
