-- Layered programs and machines of the code as plain data.
use Rattle.std.specs.Prelude.{List, [], ◌∷◌, map}
use Rattle.rw_core_flat.specs.Terms.{FlatPattern, FlatPatterns}
use Rattle.rw_core_flat.specs.Views.{pattern, patterns, system_of}
use Rattle.rw_core_layered.specs.declared.pure.PTerm.{PTerm, fold-PTerm}
use Rattle.rw_core_layered.specs.declared.pure.PArms.TheOpen.{PArms-F, PTerm-F, PArm-F, PLet-F, PRow-F}
use Rattle.rw_core_layered.specs.declared.pure.PLet.{PLet, fold-PLet}
use Rattle.rw_core_layered.specs.declared.pure.PFun.{PFun}
use Rattle.rw_core_layered.specs.declared.device.DTerm.{DTerm, fold-DTerm}
use Rattle.rw_core_layered.specs.declared.device.DArms.TheOpen.{DArms-F, DTerm-F, DArm-F, DRow-F}
use Rattle.rw_core_layered.specs.declared.device.DFun.{DFun}
use Rattle.rw_core_layered.specs.declared.layered.Layered.{Layered}
use Rattle.rw_core_layered.specs.declared.machine.Leaf.{Leaf}
use Rattle.rw_core_layered.specs.declared.machine.Machine.{Machine}
use Rattle.rw_core_layered.specs.Pures.{PureTerm, pure_local, pure_con, pure_case, pure_let, pure_call, PureTerms, no_pures, more_pures, PureLets, no_pure_lets, more_pure_lets}
use Rattle.rw_core_layered.specs.Pures.{PureRows, no_pure_rows, more_pure_rows, PureArms, pure_body, no_pure_arms, more_pure_arms}
use Rattle.rw_core_layered.specs.Calls.{Function}
use Rattle.rw_core_layered.specs.Devices.{DeviceTerm, device_return, device_signal, device_bind, device_case, device_let, device_call, DeviceRows, no_device_rows, more_device_rows, DeviceArms, device_body, no_device_arms, more_device_arms, Device}
use Rattle.rw_core_layered.specs.Layered.{LayeredProgram}
use Rattle.rw_core_layered.specs.Machines.{MachineLeaf, PureMachine}

-- == Pure terms ==

abbrev pub pure_parts : List PureTerm → PureTerms
pure_parts [] = no_pures
pure_parts (t ∷ ts) = more_pures t (pure_parts ts)

-- a binding, a guard with its body, and a row, by their parts
abbrev pub PureBinding : Type 0
PureBinding = FlatPattern × PureTerm

abbrev pub GuardedPure : Type 0
GuardedPure = PureTerm × PureTerm

abbrev pub PureRow : Type 0
PureRow = FlatPatterns × PureLets × PureArms

abbrev pub pure_let_parts : List PureBinding → PureLets
pure_let_parts [] = no_pure_lets
pure_let_parts ((p, t) ∷ others) = more_pure_lets p t (pure_let_parts others)

abbrev pub guarded_pures : List GuardedPure → PureArms
guarded_pures [] = no_pure_arms
guarded_pures ((g, t) ∷ others) = more_pure_arms g t (guarded_pures others)

abbrev pub pure_row_parts : List PureRow → PureRows
pure_row_parts [] = no_pure_rows
pure_row_parts ((ps, lets, arms) ∷ others) = more_pure_rows ps lets arms (pure_row_parts others)

-- one level, with each part already in its plain form
abbrev pub pure_arms_step : PArms-F PureArms PureTerm GuardedPure PureBinding PureRow → PureArms
pure_arms_step (PArms-F.Body t) = pure_body t
pure_arms_step (PArms-F.Guarded arms) = guarded_pures arms

abbrev pub pure_step : PTerm-F PureArms PureTerm GuardedPure PureBinding PureRow → PureTerm
pure_step (PTerm-F.Local n) = pure_local n
pure_step (PTerm-F.Con type place parts) = pure_con type place (pure_parts parts)
pure_step (PTerm-F.Case parts rows) = pure_case (pure_parts parts) (pure_row_parts rows)
pure_step (PTerm-F.Let lets body) = pure_let (pure_let_parts lets) body
pure_step (PTerm-F.Call i parts) = pure_call i (pure_parts parts)

abbrev pub pure_arm_step : PArm-F PureArms PureTerm GuardedPure PureBinding PureRow → GuardedPure
pure_arm_step a = (a.guard, a.body)

abbrev pub pure_let_step : PLet-F PureArms PureTerm GuardedPure PureBinding PureRow → PureBinding
pure_let_step l = (pattern l.pat, l.term)

abbrev pub pure_row_step : PRow-F PureArms PureTerm GuardedPure PureBinding PureRow → PureRow
pure_row_step r = (patterns r.pats, pure_let_parts r.lets, r.arms)

-- the plain form of each
abbrev pub pure_term : PTerm → PureTerm
pure_term = fold-PTerm PureArms PureTerm GuardedPure PureBinding PureRow pure_arms_step pure_step pure_arm_step pure_let_step pure_row_step

abbrev pub pure_binding : PLet → PureBinding
pure_binding = fold-PLet PureArms PureTerm GuardedPure PureBinding PureRow pure_arms_step pure_step pure_arm_step pure_let_step pure_row_step

abbrev pub pure_function : PFun → Function PureTerm
pure_function f = record { params = f.params; result = f.result; body = pure_term f.body }

-- == Devices ==

abbrev pub GuardedDevice : Type 0
GuardedDevice = PureTerm × DeviceTerm

abbrev pub DeviceRow : Type 0
DeviceRow = FlatPatterns × PureLets × DeviceArms

abbrev pub guarded_devices : List GuardedDevice → DeviceArms
guarded_devices [] = no_device_arms
guarded_devices ((g, d) ∷ others) = more_device_arms g d (guarded_devices others)

abbrev pub device_row_parts : List DeviceRow → DeviceRows
device_row_parts [] = no_device_rows
device_row_parts ((ps, lets, arms) ∷ others) = more_device_rows ps lets arms (device_row_parts others)

abbrev pub device_arms_step : DArms-F DeviceArms DeviceTerm GuardedDevice DeviceRow → DeviceArms
device_arms_step (DArms-F.Body d) = device_body d
device_arms_step (DArms-F.Guarded arms) = guarded_devices arms

abbrev pub device_step : DTerm-F DeviceArms DeviceTerm GuardedDevice DeviceRow → DeviceTerm
device_step (DTerm-F.Return t) = device_return (pure_term t)
device_step (DTerm-F.Signal t) = device_signal (pure_term t)
device_step (DTerm-F.Bind d e) = device_bind d e
device_step (DTerm-F.Case parts rows) = device_case (pure_parts (map pure_term parts)) (device_row_parts rows)
device_step (DTerm-F.Let lets body) = device_let (pure_let_parts (map pure_binding lets)) body
device_step (DTerm-F.Call i parts) = device_call i (pure_parts (map pure_term parts))

abbrev pub device_arm_step : DArm-F DeviceArms DeviceTerm GuardedDevice DeviceRow → GuardedDevice
device_arm_step a = (pure_term a.guard, a.body)

abbrev pub device_row_step : DRow-F DeviceArms DeviceTerm GuardedDevice DeviceRow → DeviceRow
device_row_step r = (patterns r.pats, pure_let_parts (map pure_binding r.lets), r.arms)

abbrev pub device_term : DTerm → DeviceTerm
device_term = fold-DTerm DeviceArms DeviceTerm GuardedDevice DeviceRow device_arms_step device_step device_arm_step device_row_step

abbrev pub device_of : DFun → Device
device_of d = record { params = d.params; result = d.result; input = d.input; output = d.output; body = device_term d.body }

-- == Programs and machines ==

abbrev pub layered_program : Layered → LayeredProgram
layered_program p = record {
  types = p.table.types;
  pures = map pure_function p.pures;
  devices = map device_of p.devices;
  system = system_of p.system;
  input = p.input;
  output = p.output;
}

abbrev pub machine_leaf : Leaf → MachineLeaf
machine_leaf l = record { input = l.input; output = l.output; state = l.state; reset = l.reset; next = l.next; shown = l.shown }

abbrev pub pure_machine : Machine → PureMachine
pure_machine m = record {
  types = m.table.types;
  functions = map pure_function m.pures;
  leaves = map machine_leaf m.leaves;
  system = system_of m.system;
  input = m.input;
  output = m.output;
}
