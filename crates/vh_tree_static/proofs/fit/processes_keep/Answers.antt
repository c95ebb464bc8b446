-- The widths of the processes.
use Rattle.std.proofs.Common.{ap, ◌∙◌}
use Rattle.std.specs.List.{list_all}
use Rattle.vh_tree.specs.StaticRules.{Widths, stmt_fits, width_among, widths_in_process}
use Rattle.vh_tree.specs.declared.process.Process.{Process}
use Rattle.rw_base_tables.specs.Tables.{known_in}
use Rattle.vh_tree_static.proofs.Widened.{around}
use Rattle.vh_tree_static.proofs.fit.processes_keep.Goals as goal

pub returns : goal.returns
returns c =
    let d = c.args.design.now in
    c.processes_fit.ensures
    ∙ ap (λ (ws : Widths). list_all (λ (p : Process). list_all (stmt_fits ws) p.body) c.as_slice.result.now)
    (around (known_in c.in_ok-vars.vars) c.args.callees.now d (c.in_ok-vars.ensures ∙ ap width_among (c.deref.ensures.value ∙ c.in_ok-ports_and_signals.ensures)) c.requires)
    ∙ ap (list_all (λ (p : Process). list_all (stmt_fits (widths_in_process d)) p.body)) c.as_slice.ensures
