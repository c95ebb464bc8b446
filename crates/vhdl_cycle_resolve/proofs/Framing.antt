-- Functions, one more.
use Rattle.std.proofs.Common.{◌≡◌, ℕ, ◌+◌, List, ◌∷◌, Bool, true, false, Option, Some, Result, Ok, Err, IfOk, refl, ap, ◌∙◌, arith, if◌then◌else◌}
use mathlib.Core.Path.{fun_ext}
use Rattle.vh_tree.specs.Bits.{Bytes, same_name}
use Rattle.vh_tree.specs.declared.function.Var.{Var}
use Rattle.vh_tree.specs.declared.function.Function.{Function}
use Rattle.vh_tree.specs.declared.design.Item.{Item}
use Rattle.vh_tree.specs.declared.design.Item.TheVariants.{Signal, Function as Declared}
use Rattle.vhdl_cycle_flat.specs.Flat.{Frame, fun_of}
use Rattle.vhdl_cycle_flat.specs.Names.{Frames, with_frame}
use Rattle.vhdl_cycle_flat.specs.Resolving.{IsFrameOf}
use Rattle.vhdl_cycle_resolve.specs.Framed.{IsFramed}
use Rattle.vhdl_cycle_resolve.specs.Over.{frame_of, frames_in}
use Rattle.rw_base_tables.specs.Tables.{known_in, put}
use Rattle.vhdl_cycle_resolve.specs.declared.function.Functions.{Functions}
use Rattle.vhdl_cycle_resolve.specs.declared.sized.Known.{Known}

frame_of_if : (t : Bool) (k : Known) (o : Option Known) → frame_of (if t then Some k else o) ≡ (if t then Some (fun_of k.fun.value) else frame_of o)
frame_of_if true k o = refl
frame_of_if false k o = refl

-- the frames of a table that has one function more
pub frames_more : (old new : List (Bytes × Known)) (name : Bytes) (k : Known) → ((x : Bytes) → known_in new x ≡ put name k (known_in old) x)
    → frames_in new ≡ with_frame name (fun_of k.fun.value) (frames_in old)
frames_more old new name k given = fun_ext (λ x. ap frame_of (given x) ∙ frame_of_if (same_name name x) k (known_in old x))

-- a signal has no frame
pub framed_signal : (before : Frames) (from : ℕ) (v : Var) (items : List Item) (fs : Functions) → IsFramed before from items fs → IsFramed before from (Signal v ∷ items) fs
framed_signal before from v items fs later = record { frames = later.frames; are_frames = later.are_frames; known = later.known; store = later.store }

-- a function has one
pub framed_more : (before : Frames) (from : ℕ) (f : Function) (g : Frame) (items : List Item) (fs : Functions) → IsFrameOf before from f g
    → IsFramed (with_frame f.name g before) (from + g.size) items fs → IsFramed before from (Declared f ∷ items) fs
framed_more before from f g items fs is later = record {
  frames = g ∷ later.frames;
  are_frames = (is, later.are_frames);
  known = later.known;
  store = omega (arith, later.store);
}

-- three facts of an answer, and what follows from them
pub of_three : {A E : Type 0} (P Q R S : A → Type 0) (r : Result A E) → ((x : A) → P x → Q x → R x → S x) → IfOk r P → IfOk r Q → IfOk r R → IfOk r S
of_three P Q R S (Ok x) f p q s = f x p q s
of_three P Q R S (Err e) f p q s = p
