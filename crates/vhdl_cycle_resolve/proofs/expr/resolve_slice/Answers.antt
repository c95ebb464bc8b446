-- A slice of a name without a place is cut from what the name stands for.
use Rattle.std.proofs.Common.{ap}
use Rattle.vh_tree.specs.Bits.{slice_of}
use Rattle.vhdl_cycle_flat.specs.Flat.{expr_of}
use Rattle.vhdl_cycle_flat.specs.Names.{value_over}
use Rattle.vhdl_cycle_resolve.specs.Over.{slots_in, frames_in}
use Rattle.vhdl_cycle_resolve.proofs.Joined.{same_value}
use Rattle.vhdl_cycle_resolve.proofs.expr.resolve_slice.Goals as goal

pub returns-in_ok-whole-in-None : goal.returns-in_ok-whole-in-None
returns-in_ok-whole-in-None c =
    let cut = slice_of c.args.high c.args.low in
    let whole = c.in_ok-whole-in-None.whole in
    same_value c.cut.result (λ n frame. cut ((expr_of whole.expr).value n frame)) (λ n frame. cut (value_over (slots_in c.args.slots.now c.args.name.now) (frames_in c.args.funs.now c.args.name.now) n frame))
    (λ n frame. ap cut (c.in_ok-whole-in-None.ensures n frame)) c.cut.ensures
