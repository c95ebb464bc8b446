use Rattle.std.proofs.Common.{◌≡◌, take, true, not, nat_eq}
use Rattle.std.specs.List.{list_all}
use Rattle.rw_trace.proofs.lines.line_length.Given as goal

abbrev pub invariant-loop-at : goal.invariant-loop-at
invariant-loop-at l = list_all (λ b. not (nat_eq b 10)) (take l.at l.bytes) ≡ true
