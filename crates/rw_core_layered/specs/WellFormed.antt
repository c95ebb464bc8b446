-- When layered programs and machines are well formed: well typed and guarded as flat programs, with pure functions in call order.
use Rattle.std.specs.Prelude.{◌≡◌, ℕ, ◌<◌, nat_le, List, [], map, length, Some}
use Rattle.std.specs.List.{AllByRecursion}
use Rattle.rw_core.specs.Bits.{IsTable}
use Rattle.rw_core_flat.specs.Programs.{FlatFunction, function_at}
use Rattle.rw_core_flat.specs.WellTyped.{Sign, DataTypes, AreInTable, FunctionTyped, signs_of}
use Rattle.rw_guard_rules.specs.Signals.{calls_in}
use Rattle.rw_guard_rules.specs.Rules.{KeepsRules}
use Rattle.rw_guard_laws.specs.Guarded.{IsGuarded}
use Rattle.rw_core_layered.specs.Layered.{LayeredProgram}
use Rattle.rw_core_layered.specs.Machines.{MachineLeaf, PureMachine, leaf_at}
use Rattle.rw_core_layered.specs.Embedding.{flat_functions, flat_layered}
use Rattle.rw_core_layered.specs.Wired.{signature_of, LeafTyped, WiredTyped}

-- the first so many functions call earlier ones alone
abbrev pub AreInOrder : ℕ → List FlatFunction → Type 0
AreInOrder many functions = (i : ℕ) (f : FlatFunction) → i < many → function_at i functions ≡ Some f → AllByRecursion (λ c. c.callee < i) (calls_in [] f.body)

-- a layered program: as a flat program it is well typed and guarded and keeps the rules on recursion, where devices are the functions behind the pure
-- ones; and these are in call order
pub record IsLayered (p : LayeredProgram) : Type 0 where
  pub tabled : IsTable p.types
  pub types : DataTypes
  pub in_table : AreInTable types p.types
  pub guarded : IsGuarded types (flat_layered p).functions (signs_of (flat_layered p).functions) (flat_layered p).system p.input p.output
  pub rules : KeepsRules (flat_layered p).functions (λ i. nat_le (length p.pures) i)
  pub ordered : AreInOrder (length p.pures) (flat_layered p).functions

-- the functions of a machine as flat functions
abbrev pub machine_functions : PureMachine → List FlatFunction
machine_functions m = flat_functions m.functions []

-- a machine: its functions are well typed and in call order, and its leaves and its system have functions of their types
pub record IsMachine (m : PureMachine) : Type 0 where
  pub tabled : IsTable m.types
  pub types : DataTypes
  pub in_table : AreInTable types m.types
  pub typed : (k : ℕ) (s : Sign) → signs_of (machine_functions m) k ≡ Some s → FunctionTyped types (machine_functions m) (signs_of (machine_functions m)) k s
  pub ordered : AreInOrder (length m.functions) (machine_functions m)
  pub leaves : (k : ℕ) (l : MachineLeaf) → leaf_at k m.leaves ≡ Some l → LeafTyped (map signature_of m.functions) l
  pub system : WiredTyped m.types (map signature_of m.functions) m.leaves m.system m.input m.output
