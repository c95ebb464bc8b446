use Rattle.std.proofs.Common.{◌≡◌, ◌≤◌, ◌+◌, ◌-◌, map, length, nat_eq, true}
use Rattle.std.specs.List.{list_all}
use Rattle.rw_trace.specs.Traces.{trace_of, lines_of, lines_read}
use Rattle.rw_trace.proofs.Cutting.{read_behind}
use Rattle.rw_trace.proofs.lines.to_bits.Given as goal

abbrev pub decreases-loop-rest : goal.decreases-loop-rest
decreases-loop-rest l = length l.rest

abbrev pub invariant-loop-rest : goal.invariant-loop-rest
invariant-loop-rest l = record {
  within : length l.rest ≤ length l.bytes;
  few : l.number ≤ 1048577;
  counted : length l.lines.items + 1 ≡ l.number;
  widths : list_all (λ bits. nat_eq (length bits.items) l.width) l.lines.items ≡ true;
  whole : read_behind (map (λ bits. bits.items) l.lines.items) (lines_read l.width l.number (length l.bytes - length l.rest) (lines_of l.rest)) ≡ trace_of l.width l.bytes;
}
