-- Machines: each device of a system has states, one at a time; which states and outputs they have along a list of inputs.
use Rattle.std.specs.Prelude.{◌≡◌, ℕ, zero, suc, List, [], ◌∷◌, Option, Some, None}
use Rattle.rw_core.specs.declared.types.DataTy.{DataTy}
use Rattle.rw_core.specs.Values.{Val}
use Rattle.rw_core.specs.Options.{◌>>=◌}
use Rattle.rw_core.specs.Systems.{System, Reading, system_outputs}
use Rattle.rw_core_layered.specs.Pures.{PureTerm, Calling}
use Rattle.rw_core_layered.specs.Calls.{Function, calls_of}

-- a device as a machine: the types of its inputs, outputs and states, and the numbers of the functions that give its first state, the state after an
-- input, and the output that is shown in a state
pub record MachineLeaf : Type 0 where
  pub input : ℕ
  pub output : ℕ
  pub state : ℕ
  pub reset : ℕ
  pub next : ℕ
  pub shown : ℕ

-- a system of machines over functions with bodies of B: data types, functions in call order, leaves, a system of numbers of leaves and functions, and
-- the types of the system's inputs and outputs
pub record MachineOf (B : Type 0) : Type 0 where
  pub types : List DataTy
  pub functions : List (Function B)
  pub leaves : List MachineLeaf
  pub system : System ℕ ℕ
  pub input : ℕ
  pub output : ℕ

abbrev pub PureMachine : Type 0
PureMachine = MachineOf PureTerm

abbrev pub leaf_at : ℕ → List MachineLeaf → Option MachineLeaf
leaf_at k [] = None
leaf_at zero (l ∷ ls) = Some l
leaf_at (suc k) (l ∷ ls) = leaf_at k ls

-- what is shown from a state on: in it, and after each input in the next one. S stands for states, I for inputs and O for outputs
module _ {S I O : Type 0} (next : S → I → Option S) (shown : S → Option O) where
  abbrev pub shown_from : S → List I → Option (List O)
  shown_from s [] = do o ← shown s; Some (o ∷ [])
  shown_from s (i ∷ inputs) = do o ← shown s; later ← next s i; outputs ← shown_from later inputs; Some (o ∷ outputs)

module _ (calls : Calling) where
  abbrev pub next_state : MachineLeaf → Val → Val → Option Val
  next_state l s i = calls l.next (s ∷ i ∷ [])

  abbrev pub shown_in : MachineLeaf → Val → Option Val
  shown_in l s = calls l.shown (s ∷ [])

  -- what a leaf shows: in its first state and after each input
  abbrev pub leaf_outputs : MachineLeaf → List Val → Option (List Val)
  leaf_outputs l inputs = do s ← calls l.reset []; shown_from (next_state l) (shown_in l) s inputs

  abbrev pub read_leaves : List MachineLeaf → Reading ℕ ℕ
  read_leaves leaves = record {
    outputs = λ k inputs. leaf_at k leaves >>= λ l. leaf_outputs l inputs;
    one = λ f v. calls f (v ∷ []);
    two = λ f v w. calls f (v ∷ w ∷ []);
  }

-- a machine denotes these outputs on these inputs
abbrev pub MachineDenotes : {B : Type 0} → (Calling → B → List Val → Option Val) → MachineOf B → List Val → List Val → Type 0
MachineDenotes meaning m inputs outputs = system_outputs (read_leaves (calls_of meaning m.functions) m.leaves) m.system inputs ≡ Some outputs
