-- All that were passed fit.
use Rattle.std.proofs.Common.{◌≡◌, drop}
use Rattle.std.specs.List.{list_all}
use Rattle.vh_tree.specs.StaticRules.{stmt_fits}
use Rattle.vh_tree.specs.declared.process.Process.{Process}
use Rattle.vh_tree_static.specs.Measures.{widths_over}
use Rattle.rw_base_tables.specs.Tables.{known_in}
use Rattle.vh_tree_static.proofs.fit.processes_fit.Given as goal

abbrev pub invariant-loop-process : goal.invariant-loop-process
invariant-loop-process l =
    let fits = λ (p : Process). list_all (stmt_fits (widths_over (known_in l.vars) l.callees)) p.body in
    list_all fits (drop l.process-index l.processes) ≡ list_all fits l.processes
