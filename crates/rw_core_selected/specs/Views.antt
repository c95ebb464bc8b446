-- Selected programs and plans of the code as plain data.
use Rattle.std.specs.Prelude.{ℕ, List, [], ◌∷◌, map}
use Rattle.rw_core_flat.specs.Views.{system_of}
use Rattle.rw_core_layered.specs.Calls.{Function}
use Rattle.rw_core_layered.specs.Views.{machine_leaf}
use Rattle.rw_core_selected.specs.declared.tree.STerm.{STerm, fold-STerm}
use Rattle.rw_core_selected.specs.declared.tree.STerm.TheOpen.{STerm-F}
use Rattle.rw_core_selected.specs.declared.tree.STree.{STree, fold-STree}
use Rattle.rw_core_selected.specs.declared.tree.SOther.TheOpen.{STree-F, SBranch-F, SOther-F}
use Rattle.rw_core_selected.specs.declared.tree.SFun.{SFun}
use Rattle.rw_core_selected.specs.declared.selected.Selected.{Selected}
use Rattle.rw_core_selected.specs.declared.plan.Wiring.{Wiring}
use Rattle.rw_core_selected.specs.declared.plan.Plan.{Plan}
use Rattle.rw_core_selected.specs.Trees.{SelectTerm, select_local, select_con, select_field, select_call, SelectTerms, no_selects, more_selects, Tree, tree_switch, tree_let, tree_result, Branches, no_branches, other_branch, more_branches, TreeMachine}
use Rattle.rw_core_selected.specs.Plans.{PlainWiring, PlainPlan}

abbrev pub select_parts : List SelectTerm → SelectTerms
select_parts [] = no_selects
select_parts (t ∷ ts) = more_selects t (select_parts ts)

-- one level, with each part already in its plain form
abbrev pub select_step : STerm-F SelectTerm → SelectTerm
select_step (STerm-F.Local k) = select_local k
select_step (STerm-F.Con type place parts) = select_con type place (select_parts parts)
select_step (STerm-F.Field tag place part) = select_field tag place part
select_step (STerm-F.Call i parts) = select_call i (select_parts parts)

abbrev pub select_term : STerm → SelectTerm
select_term = fold-STerm SelectTerm select_step

-- a branch by its parts; branches before what stands for all others
abbrev pub Branch : Type 0
Branch = ℕ × Tree

abbrev pub branches_before : Branches → List Branch → Branches
branches_before other [] = other
branches_before other ((tag, t) ∷ others) = more_branches tag t (branches_before other others)

abbrev pub tree_step : STree-F Branches Tree Branch → Tree
tree_step (STree-F.Switch t branches other) = tree_switch (select_term t) (branches_before other branches)
tree_step (STree-F.Let t rest) = tree_let (select_term t) rest
tree_step (STree-F.Result t) = tree_result (select_term t)

abbrev pub branch_step : SBranch-F Branches Tree Branch → Branch
branch_step b = (b.tag, b.tree)

abbrev pub other_step : SOther-F Branches Tree Branch → Branches
other_step SOther-F.Never = no_branches
other_step (SOther-F.Tree t) = other_branch t

abbrev pub tree : STree → Tree
tree = fold-STree Branches Tree Branch other_step tree_step branch_step

abbrev pub tree_function : SFun → Function Tree
tree_function f = record { params = f.params; result = f.result; body = tree f.body }

abbrev pub tree_machine : Selected → TreeMachine
tree_machine m = record {
  types = m.table.types;
  functions = map tree_function m.pures;
  leaves = map machine_leaf m.leaves;
  system = system_of m.system;
  input = m.input;
  output = m.output;
}

abbrev pub plain_wiring : Wiring → PlainWiring
plain_wiring w = record { shown = tree_function w.shown; inputs = map tree_function w.inputs }

abbrev pub plain_plan : Plan → PlainPlan
plain_plan p = record { machine = tree_machine p.machine; wiring = plain_wiring p.wiring }
