use Rattle.std.proofs.Common.{◌≡◌, ◌+◌, ◌*◌}
use Rattle.rw_gen.specs.Workload.{generator_at, inputs_below}
use Rattle.rw_gen.proofs.workload.inputs.Given as goal

abbrev pub invariant-loop : goal.invariant-loop
invariant-loop l = record {
  at : l.rng ≡ generator_at l.number (2 * l.size + l.counter);
  so_far : l.inputs.items ≡ inputs_below l.number l.size l.counter;
}
