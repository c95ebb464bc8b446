-- Each turn pushes the first bit of what is left.
use Rattle.std.proofs.Common.{rules, ◌^◌, ◌<◌, ◌≤◌, ◌-◌, arith}
use Rattle.register_machine.proofs.Numbers.{pushed_low, pushed_high, shift_is, doubled}
use Rattle.register_machine.proofs.codes.number_bits.Goals as goal

pub loop-left-preserved-in-Continue-1 : goal.loop-left-preserved-in-Continue-1
loop-left-preserved-in-Continue-1 c =
    let under : c.loop-left.rest < 2 ^ (c.loop-left.left - 1) = omega (arith, shift_is (c.loop-left.left - 1) (omega arith)) in
    record {
      done = pushed_low _ _ _ c.loop-left.left c.loop-left.rest (omega arith) under (search rules) c.loop-left.invariant.done;
      narrow = omega arith;
      fits = under;
    }

pub loop-left-preserved : goal.loop-left-preserved
loop-left-preserved c =
    let over : 2 ^ (c.loop-left.left - 1) ≤ c.loop-left.rest = omega (arith, shift_is (c.loop-left.left - 1) (omega arith)) in
    record {
      done = pushed_high _ _ _ c.loop-left.left c.loop-left.rest _ (omega arith) over c.loop-left.invariant.fits (omega (arith, shift_is (c.loop-left.left - 1) (omega arith))) (search rules) c.loop-left.invariant.done;
      narrow = omega arith;
      fits = omega (arith, shift_is (c.loop-left.left - 1) (omega arith), doubled c.loop-left.left (omega arith));
    }
