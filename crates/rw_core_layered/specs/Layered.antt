-- Layered programs, and which outputs they denote.
use Rattle.std.specs.Prelude.{ℕ, List, [], ◌∷◌, length, Option}
use Rattle.rw_core.specs.declared.types.DataTy.{DataTy}
use Rattle.rw_core.specs.Values.{Val}
use Rattle.rw_core.specs.Options.{◌>>=◌}
use Rattle.rw_core.specs.Eventually.{Reaches}
use Rattle.rw_core.specs.Traces.{shown}
use Rattle.rw_core.specs.Systems.{System, Reading, system_outputs}
use Rattle.rw_core_layered.specs.Pures.{PureTerm, Calling, value}
use Rattle.rw_core_layered.specs.Calls.{Function, calls_of}
use Rattle.rw_core_layered.specs.Devices.{Device, Tracing, trace_within}

-- a layered program: data types, pure functions in call order, devices, a system of numbers of devices and of pure functions, and the types of the
-- system's inputs and outputs
pub record LayeredProgram : Type 0 where
  pub types : List DataTy
  pub pures : List (Function PureTerm)
  pub devices : List Device
  pub system : System ℕ ℕ
  pub input : ℕ
  pub output : ℕ

-- how devices and functions of a system are read: a device has no parameters
abbrev pub read_devices : Calling → Tracing → Reading ℕ ℕ
read_devices pures calls = record {
  outputs = λ i inputs. calls i [] inputs >>= λ t. shown (length inputs) t.end t.outputs;
  one = λ f v. pures f (v ∷ []);
  two = λ f v w. pures f (v ∷ w ∷ []);
}

-- the outputs on a list of inputs, within a budget
abbrev pub layered_within : LayeredProgram → ℕ → List Val → Option (List Val)
layered_within p budget inputs = system_outputs (read_devices (calls_of value p.pures) (trace_within (calls_of value p.pures) p.devices budget)) p.system inputs

-- a layered program denotes these outputs on these inputs: from some budget on it gives them
abbrev pub LayeredDenotes : LayeredProgram → List Val → List Val → Type 0
LayeredDenotes p inputs outputs = Reaches (λ budget. layered_within p budget inputs) outputs
