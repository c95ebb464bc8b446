-- Laws of machines and of designs with one register, each the contract of a public function.
use Rattle.std.specs.Prelude.{◌≡◌, ℕ, ◌<◌, ◌≤◌, List, [], length, map, All}
use Rattle.rw_core.specs.declared.types.DataTy.{DataTy}
use Rattle.rw_core.specs.Values.{val, none}
use Rattle.rw_core.specs.Bits.{constructors_of, width_of, encoding}
use Rattle.vh_tree.specs.Bits.{Bits}
use Rattle.vh_tree.specs.Bench.{BenchInEveryOrder}
use Rattle.vh_tree.specs.StaticRules.{IsStatic}
use Rattle.vh_tree.specs.Spellable.{IsSpellable}
use Rattle.vh_tree.specs.declared.design.Design.{Design}
use Rattle.register_machine.specs.Codes.{wire_bit, code, code_width}
use Rattle.register_machine.specs.Machine.{IsMachine, machine_outputs}
use Rattle.register_machine.specs.OneRegister.{OneRegister, design_of, HasOneSignal, Computes, register_outputs}
use Rattle.register_machine.specs.Design.{machine_design}
use Rattle.register_machine.specs.declared.machine.Machine.{Machine}

-- a design with one register, whose two expressions compute a next state and an output, shows the outputs from the
-- reset value on, whatever the inputs and the orders of the processes; each change is quiet after at most four cycles
abbrev pub RegisterLaw : Type 0
RegisterLaw = (r : OneRegister) (next : Bits → Bits → Bits) (shown : Bits → Bits) → Computes r next shown → HasOneSignal r.items →
    (inputs : List Bits) → BenchInEveryOrder 4 (design_of r) inputs (register_outputs next shown r.reset inputs)

-- the design of a machine shows the codes of the machine's outputs
abbrev pub MachineLaw : Type 0
MachineLaw = (m : Machine) → IsMachine m → (inputs : List ℕ) → All (λ i. i < m.inputs) inputs →
    BenchInEveryOrder 4 (machine_design m) (map (code m.inputs) inputs) (map (code m.outputs) (machine_outputs m inputs))

-- the design of a machine keeps the static rules, and its ports have the widths of codes, at most 32 bits
pub record FitsCodes (m : Machine) (d : Design) : Type 0 where
  pub static : IsStatic d
  pub inp : d.inp ≡ code_width m.inputs
  pub outp : d.outp ≡ code_width m.outputs
  pub narrow_inp : d.inp ≤ 32
  pub narrow_outp : d.outp ≤ 32

abbrev pub StaticLaw : Type 0
StaticLaw = (m : Machine) → IsMachine m → FitsCodes m (machine_design m)

-- the design of a machine can be spelled
abbrev pub SpellableLaw : Type 0
SpellableLaw = (m : Machine) → IsMachine m → IsSpellable (machine_design m)

-- a data type of constructors without fields has the width of codes, and the encoding of a constructor is the code of
-- its number
abbrev pub CodeLaw : Type 0
CodeLaw = (types : List DataTy) (ty : ℕ) → All (λ fields. fields ≡ []) (constructors_of types ty) →
    (width_of types ty ≡ code_width (length (constructors_of types ty)))
    × ((tag : ℕ) → tag < length (constructors_of types ty) → map wire_bit (encoding types ty (val tag none)) ≡ code (length (constructors_of types ty)) tag)
