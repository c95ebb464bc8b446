-- Moore machines: when their tables are well formed, and what they show.
use Rattle.std.specs.Prelude.{◌≡◌, ℕ, ◌<◌, ◌^◌, List, [], ◌∷◌, length, slice_index, slice_index_or}
use Rattle.register_machine.specs.declared.machine.Machine.{Machine}
use Rattle.register_machine.specs.declared.machine.State.{State}

-- the state of this number
abbrev pub state_at : List State → ℕ → State
state_at states s = slice_index_or states s (record { shown = 0; next = [] })

-- what a state shows, and the state that an input leads to from it
abbrev pub shown_in : Machine → ℕ → ℕ
shown_in m s = (state_at m.states s).shown

abbrev pub next_of : Machine → ℕ → ℕ → ℕ
next_of m s i = slice_index (state_at m.states s).next i

-- a state's table names outputs and states that there are, with one next state for each input
pub record IsState (m : Machine) (s : ℕ) : Type 0 where
  pub shown : shown_in m s < m.outputs
  pub inputs : length (state_at m.states s).next ≡ m.inputs
  pub next : (i : ℕ) → i < m.inputs → next_of m s i < length m.states

-- a well-formed machine
pub record IsMachine (m : Machine) : Type 0 where
  pub some_inputs : 0 < m.inputs
  pub few_inputs : m.inputs < 2 ^ 32
  pub some_outputs : 0 < m.outputs
  pub few_outputs : m.outputs < 2 ^ 32
  pub few_states : length m.states < 2 ^ 32
  pub reset : m.reset < length m.states
  pub states : (s : ℕ) → s < length m.states → IsState m s

-- the outputs from a state on: what it shows, and then, for each input, what the next state shows
abbrev pub outputs_from : Machine → ℕ → List ℕ → List ℕ
outputs_from m s [] = shown_in m s ∷ []
outputs_from m s (i ∷ inputs) = shown_in m s ∷ outputs_from m (next_of m s i) inputs

-- the outputs of a machine, of which there is one more than inputs
abbrev pub machine_outputs : Machine → List ℕ → List ℕ
machine_outputs m inputs = outputs_from m m.reset inputs
