-- Layered programs as flat ones: their terms are flat terms without layers. What it is to be well typed, must-signal, guarded or in tail position is so
-- said once, of flat terms.
use Rattle.std.specs.Prelude.{ℕ, ◌+◌, List, [], ◌++◌, map, length}
use Rattle.rw_core.specs.Systems.{System, leaf, side_by_side, fed_back}
use Rattle.rw_core_flat.specs.Terms.{FlatTerm, local_term, built_term, case_term, let_term, call_term, return_term, bind_term, signal_term, FlatTerms, no_terms, more_terms}
use Rattle.rw_core_flat.specs.Terms.{FlatLets, no_lets, more_lets, FlatRows, no_rows, more_rows, FlatArms, body_arm, no_arms, more_arms}
use Rattle.rw_core_flat.specs.Programs.{FlatFunction, FlatProgram, pure as is_pure, device as is_device}
use Rattle.rw_core_layered.specs.Pures.{PureTerm, pure_local, pure_con, pure_case, pure_let, pure_call, PureTerms, no_pures, more_pures, PureLets, no_pure_lets, more_pure_lets}
use Rattle.rw_core_layered.specs.Pures.{PureRows, no_pure_rows, more_pure_rows, PureArms, pure_body, no_pure_arms, more_pure_arms}
use Rattle.rw_core_layered.specs.Calls.{Function}
use Rattle.rw_core_layered.specs.Devices.{DeviceTerm, device_return, device_signal, device_bind, device_case, device_let, device_call, DeviceRows, no_device_rows, more_device_rows, DeviceArms, device_body, no_device_arms, more_device_arms, Device}
use Rattle.rw_core_layered.specs.Layered.{LayeredProgram}

abbrev mutual
  pub flat_pure : PureTerm → FlatTerm
  flat_pure (pure_local k) = local_term k
  flat_pure (pure_con type place ts) = built_term type place (flat_pures ts)
  flat_pure (pure_case ts rows) = case_term (flat_pures ts) (flat_rows rows)
  flat_pure (pure_let lets t) = let_term (flat_lets lets) (flat_pure t)
  flat_pure (pure_call i ts) = call_term i (flat_pures ts)

  pub flat_pures : PureTerms → FlatTerms
  flat_pures no_pures = no_terms
  flat_pures (more_pures t ts) = more_terms (flat_pure t) (flat_pures ts)

  pub flat_lets : PureLets → FlatLets
  flat_lets no_pure_lets = no_lets
  flat_lets (more_pure_lets p t others) = more_lets p (flat_pure t) (flat_lets others)

  pub flat_rows : PureRows → FlatRows
  flat_rows no_pure_rows = no_rows
  flat_rows (more_pure_rows ps lets arms others) = more_rows ps (flat_lets lets) (flat_arms arms) (flat_rows others)

  pub flat_arms : PureArms → FlatArms
  flat_arms (pure_body t) = body_arm (flat_pure t)
  flat_arms no_pure_arms = no_arms
  flat_arms (more_pure_arms g t others) = more_arms (flat_pure g) (flat_pure t) (flat_arms others)

-- devices are numbered behind the pure functions, of which there are so many
module _ (first : ℕ) where
  abbrev mutual
    pub flat_device : DeviceTerm → FlatTerm
    flat_device (device_return t) = return_term (flat_pure t)
    flat_device (device_signal t) = signal_term (flat_pure t)
    flat_device (device_bind d e) = bind_term (flat_device d) (flat_device e)
    flat_device (device_case ts rows) = case_term (flat_pures ts) (flat_device_rows rows)
    flat_device (device_let lets d) = let_term (flat_lets lets) (flat_device d)
    flat_device (device_call i ts) = call_term (first + i) (flat_pures ts)

    pub flat_device_rows : DeviceRows → FlatRows
    flat_device_rows no_device_rows = no_rows
    flat_device_rows (more_device_rows ps lets arms others) = more_rows ps (flat_lets lets) (flat_device_arms arms) (flat_device_rows others)

    pub flat_device_arms : DeviceArms → FlatArms
    flat_device_arms (device_body d) = body_arm (flat_device d)
    flat_device_arms no_device_arms = no_arms
    flat_device_arms (more_device_arms g d others) = more_arms (flat_pure g) (flat_device d) (flat_device_arms others)

  abbrev pub function_of_device : Device → FlatFunction
  function_of_device d = record { name = []; place = record { line = 0; column = 0 }; kind = is_device d.input d.output []; params = d.params; result = d.result; body = flat_device d.body }

  -- the same system, of flat functions
  abbrev pub behind_pures : System ℕ ℕ → System ℕ ℕ
  behind_pures (leaf i) = leaf (first + i)
  behind_pures (side_by_side d e) = side_by_side (behind_pures d) (behind_pures e)
  behind_pures (fed_back f g d) = fed_back f g (behind_pures d)

abbrev pub function_of_pure : Function PureTerm → FlatFunction
function_of_pure f = record { name = []; place = record { line = 0; column = 0 }; kind = is_pure; params = f.params; result = f.result; body = flat_pure f.body }

abbrev pub flat_functions : List (Function PureTerm) → List Device → List FlatFunction
flat_functions pures devices = map function_of_pure pures ++ map (function_of_device (length pures)) devices

abbrev pub flat_layered : LayeredProgram → FlatProgram
flat_layered p = record {
  types = p.types;
  functions = flat_functions p.pures p.devices;
  system = behind_pures (length p.pures) p.system;
  input = p.input;
  output = p.output;
}
