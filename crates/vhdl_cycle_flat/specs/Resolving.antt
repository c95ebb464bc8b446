-- What it is for a design with places to stand for a design with names.
use Rattle.std.specs.Prelude.{◌≡◌, ℕ, ◌+◌, ◌≤◌, List, [], ◌∷◌, ◌++◌, map, length, Option, Some, None}
use Rattle.vh_tree.specs.Bits.{Bytes, Bits}
use Rattle.vh_tree.specs.Functions.{expr_of, stmts_of}
use Rattle.vh_tree.specs.StaticRules.{parameter_vars, process_vars}
use Rattle.vh_tree.specs.declared.function.Var.{Var}
use Rattle.vh_tree.specs.declared.function.Function.{Function}
use Rattle.vh_tree.specs.declared.design.Item.{Item}
use Rattle.vh_tree.specs.declared.design.Item.TheVariants.{Signal, Function as Declared}
use Rattle.vh_tree.specs.declared.design.Design.{Design}
use Rattle.vh_tree.specs.declared.process.Process.{Process as Named}
use Rattle.vhdl_cycle_flat.specs.Flat.{Frame}
use Rattle.vhdl_cycle_flat.specs.Delta.{Coming, in_order, drive_of, room_ran}
use Rattle.vhdl_cycle_flat.specs.Names.{Slots, Frames, slots_of, total_width, no_frames, with_frame, scope_over, function_world_over, process_world_over}
use Rattle.vhdl_cycle_flat.specs.declared.process.Place.{Place}
use Rattle.vhdl_cycle_flat.specs.declared.process.Process.{Process}
use Rattle.vhdl_cycle_flat.specs.declared.process.World.{World as Asked}
use Rattle.vhdl_cycle_flat.specs.declared.slot.Slot.{Slot}
use Rattle.vhdl_cycle_flat.specs.declared.slot.Resolved.{Resolved}

-- a function's frame: its parameters, then its variables
abbrev pub frame_vars : Function → List Var
frame_vars f = parameter_vars f.params f.vars ++ f.vars

-- a frame stands for a function, over the functions declared before it
pub record IsFrameOf (frames : Frames) (from : ℕ) (f : Function) (g : Frame) : Type 0 where
  pub begins : g.from ≡ from
  pub fills : g.size ≡ total_width (frame_vars f)
  pub gives : (n : ℕ) (own : Bits) →
      g.run.value n own ≡ expr_of f.result (scope_over (slots_of (frame_vars f)) frames n (stmts_of Bits f.body (function_world_over (slots_of (frame_vars f)) frames n) own))

-- one frame for each function of the items, each over those before it, and above them in the store
abbrev pub AreFrames : Frames → ℕ → List Item → List Frame → Type 0
AreFrames frames from [] gs = gs ≡ []
AreFrames frames from (Signal v ∷ items) gs = AreFrames frames from items gs
AreFrames frames from (Declared f ∷ items) [] = ⊥
AreFrames frames from (Declared f ∷ items) (g ∷ gs) = IsFrameOf frames from f g × AreFrames (with_frame f.name g frames) (from + g.size) items gs

-- the functions of the items, with these frames, beside those declared before
abbrev pub frames_after : Frames → List Item → List Frame → Frames
frames_after frames [] gs = frames
frames_after frames (Signal v ∷ items) gs = frames_after frames items gs
frames_after frames (Declared f ∷ items) [] = frames
frames_after frames (Declared f ∷ items) (g ∷ gs) = frames_after (with_frame f.name g frames) items gs

-- how many bits frames have together
abbrev pub total_size : List Frame → ℕ
total_size [] = 0
total_size (g ∷ gs) = g.size + total_size gs

-- where the bits of a name stand that is heard; nothing where it has no place
abbrev pub with_place : Option Slot → List Place → List Place
with_place None places = places
with_place (Some s) places = record { from = s.from; len = s.len } ∷ places

abbrev pub places_of : Slots → List Bytes → List Place
places_of slots [] = []
places_of slots (x ∷ xs) = with_place (slots x) (places_of slots xs)

-- a process with places stands for one with names
pub record IsProcessOf (slots : Slots) (frames : Frames) (q : Named) (p : Process) : Type 0 where
  pub hears : p.sensitive ≡ places_of slots q.sensitive
  pub does : (w : Asked) (n : ℕ) (now : Bits) (c : Coming) → in_order (map drive_of p.body) w n now c ≡ stmts_of Coming q.body (process_world_over slots frames n now w) c

abbrev pub AreProcesses : Slots → Frames → List Named → List Process → Type 0
AreProcesses slots frames [] [] = Unit {0}
AreProcesses slots frames (q ∷ qs) (p ∷ ps) = IsProcessOf slots frames q p × AreProcesses slots frames qs ps
AreProcesses slots frames [] (p ∷ ps) = ⊥
AreProcesses slots frames (q ∷ qs) [] = ⊥

-- a design with places stands for a design
pub record IsResolved (d : Design) (r : Resolved) : Type 0 where
  pub frames : List Frame
  pub are_frames : AreFrames no_frames 0 d.items frames
  pub are_processes : AreProcesses (slots_of (process_vars d)) (frames_after no_frames d.items frames) d.processes r.processes
  pub wires : r.wires ≡ length (process_vars d)
  pub bits : r.bits ≡ total_width (process_vars d)
  pub store : r.store ≡ total_size frames
  pub room : (now : Bits) → room_ran r.processes r.store now ≤ r.room
