-- Guarded flat programs.
use Rattle.std.specs.Prelude.{◌≡◌, ℕ, List, Option, Some}
use Rattle.rw_core.specs.Systems.{System, EachLeaf}
use Rattle.rw_core_flat.specs.Terms.{call_term, no_terms}
use Rattle.rw_core_flat.specs.Programs.{FlatFunction}
use Rattle.rw_core_flat.specs.WellTyped.{Sign, DataTypes, FunctionTyped, SystemTyped}
use Rattle.rw_guard_rules.specs.Signals.{Signals, CallsEnd}

-- a guarded flat program: it is well typed, its unguarded calls end, and its leaves are must-signal
pub record IsGuarded (types : DataTypes) (flat_functions : List FlatFunction) (signs : ℕ → Option Sign) (system : System ℕ ℕ) (i o : ℕ) : Type 0 where
  pub functions : (k : ℕ) (s : Sign) → signs k ≡ Some s → FunctionTyped types flat_functions signs k s
  pub system_typed : SystemTyped types flat_functions signs system i o
  pub leaves : EachLeaf (λ k. Signals flat_functions (call_term k no_terms)) system
  pub ends : CallsEnd flat_functions
