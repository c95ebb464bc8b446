-- What tables of names stand for.
use Rattle.std.specs.Prelude.{◌≡◌, ℕ, List, [], ◌∷◌, Option, Some, None}
use Rattle.vh_tree.specs.Bits.{Bytes, Bits}
use Rattle.vh_tree.specs.Functions.{World, Choice}
use Rattle.vhdl_cycle_flat.specs.Flat.{Frame, Taken, fun_of, branch_of, has_bit, all_hold, in_order}
use Rattle.vhdl_cycle_flat.specs.Delta.{Coming}
use Rattle.vhdl_cycle_flat.specs.Delta.{Taken as Row, all_hold as all_checked, in_order as driven_by}
use Rattle.vhdl_cycle_flat.specs.declared.process.World.{World as Asked}
use Rattle.vhdl_cycle_flat.specs.Names.{Slots, Frames}
use Rattle.vhdl_cycle_flat.specs.declared.resolved.Bit.{Bit}
use Rattle.vhdl_cycle_flat.specs.declared.resolved.Branch.{Branch}
use Rattle.vhdl_cycle_flat.specs.declared.slot.Slot.{Slot}
use Rattle.rw_base_tables.specs.Tables.{known_in}
use Rattle.vhdl_cycle_resolve.specs.declared.sized.Known.{Known}

-- the places that a table gives to names
abbrev pub slots_in : List (Bytes × Slot) → Slots
slots_in slots x = known_in slots x

-- the frame of a function that is known
abbrev pub frame_of : Option Known → Option Frame
frame_of None = None
frame_of (Some k) = Some (fun_of k.fun.value)

-- the frames of the functions of a table
abbrev pub frames_in : List (Bytes × Known) → Frames
frames_in known x = frame_of (known_in known x)

-- branches over a frame, each with the tests and the body of one over names
abbrev pub Agree : World Bits → ℕ → Bits → List Taken → List (Choice Bits) → Type 0
Agree w n frame [] [] = Unit {0}
Agree w n frame (b ∷ bs) (m ∷ ms) = (all_hold b.tests n frame ≡ m.0 w frame) × (in_order b.body n frame ≡ m.1 w frame) × Agree w n frame bs ms
Agree w n frame [] (m ∷ ms) = ⊥
Agree w n frame (b ∷ bs) [] = ⊥

-- the same of rows of a process
abbrev pub RowsAgree : World Coming → Asked → ℕ → Bits → Coming → List Row → List (Choice Coming) → Type 0
RowsAgree v w n now c [] [] = Unit {0}
RowsAgree v w n now c (b ∷ bs) (m ∷ ms) = (all_checked b.checks w n now ≡ m.0 v c) × (driven_by b.body w n now c ≡ m.1 v c) × RowsAgree v w n now c bs ms
RowsAgree v w n now c [] (m ∷ ms) = ⊥
RowsAgree v w n now c (b ∷ bs) [] = ⊥

-- there is one branch, and it is taken exactly where a bit has its value
pub record IsDecidedBy (bit : Bit) (rows : List Branch) : Type 0 where
  pub branch : Branch
  pub alone : rows ≡ branch ∷ []
  pub decides : (n : ℕ) (frame : Bits) → all_hold (branch_of branch).tests n frame ≡ has_bit bit frame
