-- A name without a place is a call without arguments.
use Rattle.std.proofs.Common.{◌≡◌, map, sym, ap, ◌∙◌, None}
use Rattle.std.specs.Option.{option_copied}
use Rattle.vhdl_cycle_flat.specs.Flat.{expr_of, joined}
use Rattle.vhdl_cycle_flat.specs.Names.{called_over, value_over}
use Rattle.vhdl_cycle_resolve.specs.Over.{slots_in, frames_in}
use Rattle.vhdl_cycle_resolve.proofs.Joined.{same_value}
use Rattle.vhdl_cycle_resolve.proofs.expr.resolve_name.Goals as goal

pub returns-in-None : goal.returns-in-None
returns-in-None c =
    let g = frames_in c.args.funs.now c.args.name.now in
    let none : slots_in c.args.slots.now c.args.name.now ≡ None = sym (sym (ap option_copied c.in-None.is) ∙ c.get.ensures) in
    same_value c.resolve_call.result (λ n frame. called_over g n (joined (map expr_of c.new.result.exprs) n frame)) (λ n frame. value_over (slots_in c.args.slots.now c.args.name.now) g n frame)
    (λ n frame. ap (called_over g n) (c.new.ensures n frame) ∙ sym (ap (λ s. value_over s g n frame) none)) c.resolve_call.ensures
