-- Flat programs: functions and a system of functions; and which outputs they show.
use Rattle.std.specs.Prelude.{ℕ, zero, suc, nat_eq, List, [], ◌∷◌, length, Option, Some, None, if◌then◌else◌}
use Rattle.rw_base.specs.declared.place.Place.{Place}
use Rattle.rw_core.specs.declared.types.DataTy.{DataTy}
use Rattle.rw_core.specs.Values.{Val}
use Rattle.rw_core.specs.Options.{◌>>=◌}
use Rattle.rw_core.specs.Eventually.{Reaches}
use Rattle.rw_core.specs.Traces.{shown}
use Rattle.rw_core.specs.Systems.{System, Reading, system_outputs}
use Rattle.rw_core_flat.specs.Terms.{FlatTerm}
use Rattle.rw_core_flat.specs.Meaning.{Mode, valued, tracing, Answer, as_value, as_trace, meaning}

-- what a flat function computes: a value; a state action over layers with states of these types; or a device with inputs and outputs of these
-- types over such layers. Types are numbers in the table of the program
pub data FunctionKind : Type 0 where
  pure : FunctionKind
  state : List ℕ → FunctionKind
  device : ℕ → ℕ → List ℕ → FunctionKind

-- a flat function: the name and the place of its declaration, what it computes, the types of its parameters and of its value, and its body
pub record FlatFunction : Type 0 where
  pub name : List ℕ
  pub place : Place
  pub kind : FunctionKind
  pub params : List ℕ
  pub result : ℕ
  pub body : FlatTerm

-- a flat program: its closed data types, its functions in order, its system over their numbers, and the types of the system's inputs and outputs
pub record FlatProgram : Type 0 where
  pub types : List DataTy
  pub functions : List FlatFunction
  pub system : System ℕ ℕ
  pub input : ℕ
  pub output : ℕ

abbrev pub function_at : ℕ → List FlatFunction → Option FlatFunction
function_at k [] = None
function_at zero (f ∷ fs) = Some f
function_at (suc k) (f ∷ fs) = function_at k fs

-- what a call gives within a budget: a call on the way has one less, and has all its arguments
unfoldable pub call_within : List FlatFunction → ℕ → Mode → ℕ → List Val → Option Answer
call_within functions zero mode i vs = None
call_within functions (suc budget) mode i vs = do
  f ← function_at i functions
  if nat_eq (length vs) (length f.params) then meaning (call_within functions budget) f.body mode vs else None

-- how the leaves and the functions of a system, by their numbers, are read over what calls give: a leaf is a device without parameters and layers
abbrev pub read_by : (Mode → ℕ → List Val → Option Answer) → Reading ℕ ℕ
read_by calls = record {
  outputs = λ i inputs. do
    t ← calls (tracing [] inputs) i [] >>= as_trace
    shown (length inputs) t.end t.outputs;
  one = λ i v. calls valued i (v ∷ []) >>= as_value;
  two = λ i v w. calls valued i (v ∷ w ∷ []) >>= as_value;
}

-- the outputs of a flat program on a list of inputs, within a budget
abbrev pub outputs_within : List FlatFunction → System ℕ ℕ → ℕ → List Val → Option (List Val)
outputs_within functions system budget inputs = system_outputs (read_by (call_within functions budget)) system inputs

-- a flat program denotes these outputs on these inputs: from some budget on it gives them
abbrev pub FlatDenotes : List FlatFunction → System ℕ ℕ → List Val → List Val → Type 0
FlatDenotes functions system inputs outputs = Reaches (λ budget. outputs_within functions system budget inputs) outputs
