-- What the processes name.
use Rattle.std.proofs.Common.{IfOk, Bool, List, subst, ◌≡◌}
use Rattle.std.specs.List.{list_all}
use Rattle.vh_tree.specs.declared.process.Process.{Process}
use Rattle.vh_tree_static.specs.Named.{process_well}
use Rattle.rw_base_tables.specs.Tables.{known_in}
use Rattle.vh_tree_static.proofs.Wired.{wired}
use Rattle.vh_tree_static.proofs.names.processes_keep.Goals as goal

pub returns : goal.returns
returns c =
    let w = c.in_ok-wires.wires in
    let d = c.args.design.now in
    let arities = known_in c.args.arities.now in
    subst (λ (f : Process → Bool). IfOk c.processes_are_named.result (λ b. b ≡ list_all f d.processes)) (wired w d c.in_ok-wires.ensures arities c.requires)
    (subst (λ (ps : List Process). IfOk c.processes_are_named.result (λ b. b ≡ list_all (process_well arities w) ps)) c.as_slice.ensures c.processes_are_named.ensures)
