-- Calls over flat frames are calls of the design's functions.
use Rattle.std.specs.Prelude.{◌≡◌, ℕ, ◌≤◌, List, map, length, Option, Some}
use Rattle.std.specs.List.{flat_map}
use Rattle.vh_tree.specs.Bits.{Bytes, Bits}
use Rattle.vh_tree.specs.Functions.{Calls, calls_of}
use Rattle.vh_tree.specs.StaticRules.{Shape, shapes_of, IsStatic}
use Rattle.vh_tree.specs.declared.design.Design.{Design}
use Rattle.vhdl_cycle_flat.specs.Flat.{Frame}
use Rattle.vhdl_cycle_flat.specs.Names.{Frames, no_frames, called_over}
use Rattle.vhdl_cycle_flat.specs.Resolving.{AreFrames, frames_after, total_size}

-- frames give what calls give, of arguments of the parameters' widths, over a store of this length
abbrev pub FramesGive : (Bytes → Option Shape) → Frames → Calls → ℕ → Type 0
FramesGive known frames calls n = (x : Bytes) (shape : Shape) → known x ≡ Some shape →
    (args : List Bits) → map length args ≡ shape.params → called_over (frames x) n (flat_map (λ a. a) args) ≡ calls x args

-- the frames of a static design's functions give what its functions give, over a store in which all of them stand
abbrev pub FramesLaw : Type 0
FramesLaw = (d : Design) → IsStatic d → (gs : List Frame) → AreFrames no_frames 0 d.items gs → (n : ℕ) → total_size gs ≤ n →
    FramesGive (shapes_of d.items) (frames_after no_frames d.items gs) (calls_of d.items) n
