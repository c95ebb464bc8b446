-- What a program's calls are to be so that weights and depths are one, and which functions are devices by their signatures.
use Rattle.std.specs.Prelude.{◌≡◌, ℕ, List, Option, Some, Bool, true, false}
use Rattle.rw_core_flat.specs.Programs.{FlatFunction, function_at}
use Rattle.rw_core_flat.specs.WellTyped.{state, device, Kind, of_data, doing, Sign, DataTypes, FunctionTyped}
use Rattle.rw_guard_rules.specs.Rules.{Calls, OnAnyPath}

-- each call is of a function of the program
abbrev pub CalleesAreThere : List FlatFunction → Type 0
CalleesAreThere functions = (i j : ℕ) → Calls functions OnAnyPath i j → (f : FlatFunction) × (function_at j functions ≡ Some f)

abbrev pub is_device : Kind → Bool
is_device (of_data d) = false
is_device (doing state layers d) = false
is_device (doing (device i o) layers d) = true

-- each signature is that of a well-typed function
abbrev pub AreTyped : DataTypes → List FlatFunction → (ℕ → Option Sign) → Type 0
AreTyped types functions signs = (i : ℕ) (s : Sign) → signs i ≡ Some s → FunctionTyped types functions signs i s
