-- The lines before the turn encode the values so far, and those that are left decide the rest.
use Rattle.std.proofs.Common.{◌≡◌, ◌+◌, map, drop}
use Rattle.rw_core.specs.Values.{plain}
use Rattle.rw_trace.proofs.Encoded.{Left}
use Rattle.rw_trace.proofs.values.to_values.Given as goal

abbrev pub invariant-loop-line : goal.invariant-loop-line
invariant-loop-line l = record {
  left : Left l.table.types l.ty (map (λ line. line.items) l.lines) (map (λ line. line.items) (drop l.line-index l.lines)) (map plain l.values.items) l.number;
  counted : l.number ≡ l.line-index + 1;
}
