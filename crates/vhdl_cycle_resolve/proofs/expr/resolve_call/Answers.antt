-- A call of a function that is known, or of none.
use Rattle.std.proofs.Common.{◌≡◌, map, sym, ap, ◌∙◌, Some, None}
use Rattle.std.specs.Option.{option_copied}
use Rattle.vhdl_cycle_flat.specs.Flat.{expr_of, fun_of, joined, called}
use Rattle.vhdl_cycle_flat.specs.Names.{called_over}
use Rattle.vhdl_cycle_resolve.specs.Over.{frame_of, frames_in}
use Rattle.vhdl_cycle_resolve.proofs.Joined.{same_value}
use Rattle.vhdl_cycle_resolve.proofs.expr.resolve_call.Goals as goal

pub returns-in-Some : goal.returns-in-Some
returns-in-Some c =
    let args = map expr_of c.args.args.exprs in
    let found : frames_in c.args.funs.now c.args.name.now ≡ Some (fun_of c.in-Some.known.now.fun.value) = sym (ap frame_of (sym (ap option_copied c.in-Some.is) ∙ c.get.ensures)) in
    same_value c.call.result (λ n frame. called (fun_of c.in-Some.known.now.fun.value) n (joined args n frame)) (λ n frame. called_over (frames_in c.args.funs.now c.args.name.now) n (joined args n frame))
    (λ n frame. sym (ap (λ g. called_over g n (joined args n frame)) found)) c.call.ensures

pub returns-in-None : goal.returns-in-None
returns-in-None c =
    let args = map expr_of c.args.args.exprs in
    let found : frames_in c.args.funs.now c.args.name.now ≡ None = sym (ap frame_of (sym (ap option_copied c.in-None.is) ∙ c.get.ensures)) in
    same_value c.literal.result (λ n frame. _) (λ n frame. called_over (frames_in c.args.funs.now c.args.name.now) n (joined args n frame))
    (λ n frame. sym (ap (λ g. called_over g n (joined args n frame)) found)) c.literal.ensures
