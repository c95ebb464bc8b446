-- Functions and processes, where the items' names are distinct.
use Rattle.std.proofs.Common.{◌≡◌, not, sym, ◌∙◌}
use Rattle.std.specs.List.{list_all}
use Rattle.std.proofs.lemmas.Result.{IfOk-weaker}
use Rattle.vh_tree.specs.StaticRules.{breaks_names, process_names_well}
use Rattle.rw_base_tables.specs.Tables.{known_in}
use Rattle.vh_tree_static.proofs.Wired.{names_broken, names_judged}
use Rattle.vh_tree_static.proofs.names.uses_keep.Goals as goal

pub returns : goal.returns
returns c =
    IfOk-weaker c.processes_keep.result (λ b. b ≡ list_all (process_names_well c.args.design.now.items) c.args.design.now.processes) (λ b. not b ≡ breaks_names c.args.design.now)
    (λ b p. names_judged c.args.design.now (known_in c.args.declared.now) c.requires.0 c.requires.1 (known_in c.in_ok-arities.arities) c.as_slice-items.result.now c.as_slice-items.ensures c.in_ok-arities.ensures b
    (sym c.in_ok-functions_are_named.ensures ∙ c.if-not-branch.false) p)
    c.processes_keep.ensures

pub returns-then-not-branch : goal.returns-then-not-branch
returns-then-not-branch c =
    names_broken c.args.design.now (known_in c.args.declared.now) c.requires.0 c.requires.1 (known_in c.in_ok-arities.arities) c.as_slice-items.result.now c.as_slice-items.ensures c.in_ok-arities.ensures
    (sym c.in_ok-functions_are_named.ensures ∙ c.if-not-branch.true)
