-- What it is for names to have places one after another.
use Rattle.std.specs.Prelude.{◌≡◌, ◌+◌, List, length, Option, Some, None}
use Rattle.vh_tree.specs.Bits.{Bytes}
use Rattle.vh_tree.specs.declared.function.Var.{Var}
use Rattle.vhdl_cycle_flat.specs.Names.{slot_among, slots_of, total_width}
use Rattle.vhdl_cycle_flat.specs.declared.slot.Slot.{Slot}
use Rattle.vhdl_cycle_resolve.specs.Over.{slots_in}
use Rattle.vhdl_cycle_resolve.specs.declared.layout.Layout.{Layout}

-- what is there, or else what comes later
abbrev pub or_later : Option Slot → Option Slot → Option Slot
or_later None later = later
or_later (Some s) later = Some s

-- a layout has these variables behind those of another
pub record IsLaid (before : Layout) (vars : List Var) (after : Layout) : Type 0 where
  pub slots : (x : Bytes) → slots_in after.slots x ≡ or_later (slots_in before.slots x) (slot_among before.count before.bits vars x)
  pub count : after.count ≡ before.count + length vars
  pub bits : after.bits ≡ before.bits + total_width vars

-- a layout has these variables
pub record AreSlotsOf (vars : List Var) (l : Layout) : Type 0 where
  pub slots : (x : Bytes) → slots_in l.slots x ≡ slots_of vars x
  pub count : l.count ≡ length vars
  pub bits : l.bits ≡ total_width vars
