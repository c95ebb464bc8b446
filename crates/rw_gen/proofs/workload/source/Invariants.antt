use Rattle.std.proofs.Common.{◌≡◌, ◌*◌, ◌++◌, codes}
use Rattle.rw_gen.specs.Workload.{generator_at, data_line, line, devices_below}
use Rattle.rw_gen.proofs.workload.source.Given as goal

abbrev pub invariant-loop-device : goal.invariant-loop-device
invariant-loop-device l = record {
  at : l.rng ≡ generator_at l.number (2 * l.device);
  so_far : l.text.items ≡ data_line l.size ++ line (codes "start :: ReT Bool S I ()") ++ line (codes "start = d0") ++ devices_below l.number l.size l.device;
}
