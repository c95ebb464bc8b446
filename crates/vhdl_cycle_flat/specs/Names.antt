-- What names and functions stand for over a flat frame: the places of names, and the frames of functions.
use Rattle.std.specs.Prelude.{ℕ, suc, ◌+◌, List, [], ◌∷◌, Option, Some, None, false, if◌then◌else◌}
use Rattle.std.specs.List.{flat_map}
use Rattle.vh_tree.specs.Bits.{Bytes, Bits, same_name}
use Rattle.vh_tree.specs.Functions.{Scope, World}
use Rattle.vh_tree.specs.declared.function.Var.{Var}
use Rattle.vhdl_cycle_flat.specs.Flat.{Frame, called, part_of, written}
use Rattle.vhdl_cycle_flat.specs.Delta.{Coming, raised}
use Rattle.vhdl_cycle_flat.specs.declared.slot.Slot.{Slot}
use Rattle.vhdl_cycle_flat.specs.declared.process.World.{World as Asked}

-- the place of each name
abbrev pub Slots : Type 0
Slots = Bytes → Option Slot

-- the frame of each function declared so far
abbrev pub Frames : Type 0
Frames = Bytes → Option Frame

-- the place of a name among these, which stand one after another
abbrev pub slot_among : ℕ → ℕ → List Var → Slots
slot_among number from [] x = None
slot_among number from (v ∷ vs) x =
    if same_name v.name x then Some (record { number = number; from = from; len = v.width }) else slot_among (suc number) (from + v.width) vs x

abbrev pub slots_of : List Var → Slots
slots_of vars = slot_among 0 0 vars

-- how many bits they have together
abbrev pub total_width : List Var → ℕ
total_width [] = 0
total_width (v ∷ vs) = v.width + total_width vs

-- no function is declared
abbrev pub no_frames : Frames
no_frames x = None

-- one function more
abbrev pub with_frame : Bytes → Frame → Frames → Frames
with_frame name g frames = λ x. if same_name name x then Some g else frames x

-- a call over arguments that stand one after another, where the store for frames has this length
abbrev pub called_over : Option Frame → ℕ → Bits → Bits
called_over None n args = []
called_over (Some g) n args = called g n args

-- the value of a name: its bits in the frame, or else that of a function without parameters
abbrev pub value_over : Option Slot → Option Frame → ℕ → Bits → Bits
value_over (Some s) g n frame = part_of s.from s.len frame
value_over None g n frame = called_over g n []

-- what expressions read over a frame
abbrev pub scope_over : Slots → Frames → ℕ → Bits → Scope
scope_over slots frames n frame = record {
  value = λ x. value_over (slots x) (frames x) n frame;
  call = λ f args. called_over (frames f) n (flat_map (λ a. a) args);
}

-- bits written to the place of a name; to no place where it has none
abbrev pub written_at : Option Slot → Bits → Bits → Bits
written_at None v frame = frame
written_at (Some s) v frame = written s.from v frame

-- the statements of a function, over its own frame
abbrev pub function_world_over : Slots → Frames → ℕ → World Bits
function_world_over slots frames n = record {
  scope = scope_over slots frames n;
  assign = λ x v frame. written_at (slots x) v frame;
  rising = false;
  reset = false;
}

-- a port or signal that gets a pending value
abbrev pub driven : Option Slot → Bits → Coming → Coming
driven None v c = c
driven (Some s) v c = record { next = written s.from v c.next; pending = raised s.number c.pending }

-- the statements of a process, which read the bits of all ports and signals now
abbrev pub process_world_over : Slots → Frames → ℕ → Bits → Asked → World Coming
process_world_over slots frames n now w = record {
  scope = λ _. scope_over slots frames n now;
  assign = λ x v c. driven (slots x) v c;
  rising = w.rising;
  reset = w.reset;
}
