-- What it is for functions to have frames.
use Rattle.std.specs.Prelude.{◌≡◌, ℕ, ◌+◌, List}
use Rattle.vh_tree.specs.declared.design.Item.{Item}
use Rattle.vhdl_cycle_flat.specs.Flat.{Frame}
use Rattle.vhdl_cycle_flat.specs.Names.{Frames}
use Rattle.vhdl_cycle_flat.specs.Resolving.{AreFrames, frames_after, total_size}
use Rattle.vhdl_cycle_resolve.specs.Over.{frames_in}
use Rattle.vhdl_cycle_resolve.specs.declared.function.Functions.{Functions}

-- the functions of the items, beside those that are there, above them in the store
pub record IsFramed (before : Frames) (from : ℕ) (items : List Item) (fs : Functions) : Type 0 where
  pub frames : List Frame
  pub are_frames : AreFrames before from items frames
  pub known : frames_in fs.known ≡ frames_after before items frames
  pub store : fs.store ≡ from + total_size frames
