-- One test more holds where it holds.
use Rattle.std.proofs.Common.{arith, List, map, ap, ◌∙◌}
use Rattle.std.proofs.lemmas.Grind.{common_steps}
use Rattle.vhdl_cycle_flat.specs.Flat.{Holds, test_of, all_hold, room_tests}
use Rattle.vhdl_cycle_resolve.proofs.Ordered.{mapped_more, all_hold_more, room_tests_more}
use Rattle.vhdl_cycle_resolve.proofs.stmt.resolve_tests.Goals as goal

pub loop-test-preserved : goal.loop-test-preserved
loop-test-preserved c =
    let longer = mapped_more test_of c.loop-test.out c.push.new.self c.in_ok-r.r c.in_ok-push.ensures.ok in
    record {
      holds = λ n frame.
          let one = ap (λ (ts : List Holds). all_hold ts n frame) longer ∙ all_hold_more (map test_of c.loop-test.out) (test_of c.in_ok-r.r) n frame in
          let far = c.loop-test.invariant.holds n frame in
          let here = c.in_ok-r.ensures.holds n frame in
          grind (arith, common_steps, one, far, here);
      room = λ n frame.
          let one = ap (λ (ts : List Holds). room_tests ts n frame) longer ∙ room_tests_more (map test_of c.loop-test.out) (test_of c.in_ok-r.r) n frame in
          omega (arith, one, c.loop-test.invariant.room n frame, c.in_ok-r.ensures.room n frame, c.in_ok-r.ensures.raised);
      raised = omega (arith, c.in_ok-r.ensures.raised);
    }
