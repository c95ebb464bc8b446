use Rattle.std.proofs.Common.{◌≡◌, ◌+◌, ◌*◌, map, drop}
use Rattle.vhdl_cycle.specs.Simulating.{Simulates, state_of, change_of}
use Rattle.vhdl_bench.specs.Showing.{inputs_of}
use Rattle.vhdl_bench.specs.Steps.{HasRead}
use Rattle.vhdl_bench.proofs.bench.show.Given as goal

abbrev pub invariant-loop-bits : goal.invariant-loop-bits
invariant-loop-bits l = record {
  runs : Simulates l.design l.sim;
  count : change_of l.sim ≡ 2 * l.bits-index + 2;
  read : HasRead l.design (inputs_of (map (λ b. b.items) l.inputs)) (change_of l.sim + 1) (state_of l.design l.sim) (inputs_of (map (λ b. b.items) (drop l.bits-index l.inputs))) l.text;
}
