-- The bits so far, and those of what is left, are the number's.
use Rattle.std.proofs.Common.{◌≡◌, ◌<◌, ◌≤◌, ◌^◌, ◌++◌}
use Rattle.register_machine.specs.Codes.{number_bits}
use Rattle.register_machine.proofs.codes.number_bits.Given as goal

abbrev pub invariant-loop-left : goal.invariant-loop-left
invariant-loop-left l = record {
  done : l.bits ++ number_bits l.left l.rest ≡ number_bits l.fn.width l.fn.number;
  narrow : l.left ≤ 32;
  fits : l.rest < 2 ^ l.left;
}

abbrev pub decreases-loop-left : goal.decreases-loop-left
decreases-loop-left l = l.left
