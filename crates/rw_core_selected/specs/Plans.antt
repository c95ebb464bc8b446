-- Plans: a system as one machine, whose state is those of all leaves.
use Rattle.std.specs.Prelude.{◌≡◌, nat_eq, List, [], ◌∷◌, ◌++◌, length, Option, Some, None, if◌then◌else◌}
use Rattle.rw_core.specs.Values.{Val}
use Rattle.rw_core.specs.Options.{◌>>=◌, each}
use Rattle.rw_core_layered.specs.Pures.{Calling}
use Rattle.rw_core_layered.specs.Calls.{Function, calls_of}
use Rattle.rw_core_layered.specs.Machines.{MachineLeaf, next_state, shown_in, shown_from}
use Rattle.rw_core_selected.specs.Trees.{Tree, TreeMachine, tree_value}

-- how leaves are put together: from the outputs of all leaves what the whole shows, and from these and the outer input, which stands behind them, the
-- input of each leaf
pub record PlainWiring : Type 0 where
  pub shown : Function Tree
  pub inputs : List (Function Tree)

pub record PlainPlan : Type 0 where
  pub machine : TreeMachine
  pub wiring : PlainWiring

-- the same of each leaf and what stands in its place in the other list
abbrev pub each_with : {A B : Type 0} → (MachineLeaf → A → Option B) → List MachineLeaf → List A → Option (List B)
each_with f [] [] = Some []
each_with f (l ∷ ls) (x ∷ xs) = do y ← f l x; ys ← each_with f ls xs; Some (y ∷ ys)
each_with f _ _ = None

module _ (plan : PlainPlan) where
  abbrev pub calls : Calling
  calls = calls_of tree_value plan.machine.functions

  -- what a function of the wiring gives
  abbrev pub wired : Function Tree → List Val → Option Val
  wired f vs = if nat_eq (length vs) (length f.params) then tree_value calls f.body vs else None

  -- the first states of the leaves
  abbrev pub reset_states : Option (List Val)
  reset_states = each (λ l. calls l.reset []) plan.machine.leaves

  -- the outputs of the leaves in these states
  abbrev pub leaf_shows : List Val → Option (List Val)
  leaf_shows states = each_with (shown_in calls) plan.machine.leaves states

  -- their inputs, where the outer input is this
  abbrev pub leaf_inputs : List Val → Val → Option (List Val)
  leaf_inputs states input = do outputs ← leaf_shows states; each (λ f. wired f (outputs ++ input ∷ [])) plan.wiring.inputs

  -- a leaf's state with its input
  abbrev pub both : List Val → List Val → Option (List (Val × Val))
  both [] [] = Some []
  both (s ∷ ss) (i ∷ is) = do others ← both ss is; Some ((s, i) ∷ others)
  both _ _ = None

  -- the states after an edge
  abbrev pub next_states : List Val → Val → Option (List Val)
  next_states states input = do
    inputs ← leaf_inputs states input
    pairs ← both states inputs
    each_with (λ l x. next_state calls l x.0 x.1) plan.machine.leaves pairs

  -- what the whole shows in these states
  abbrev pub whole_shows : List Val → Option Val
  whole_shows states = do outputs ← leaf_shows states; wired plan.wiring.shown outputs

  abbrev pub plan_outputs : List Val → Option (List Val)
  plan_outputs inputs = do states ← reset_states; shown_from next_states whole_shows states inputs

  -- a plan denotes these outputs on these inputs
  abbrev pub PlanDenotes : List Val → List Val → Type 0
  PlanDenotes inputs outputs = plan_outputs inputs ≡ Some outputs
