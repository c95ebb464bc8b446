-- The frame of a function that was resolved.
use Rattle.std.proofs.Common.{◌≡◌, ℕ, List, map, ap, ◌∙◌}
use mathlib.Core.Path.{fun_ext}
use Rattle.vh_tree.specs.Bits.{Bits}
use Rattle.vh_tree.specs.Functions.{expr_of as means, stmts_of as stmts_mean}
use Rattle.vh_tree.specs.declared.stmt.VStmt.{VStmt}
use Rattle.vhdl_cycle_flat.specs.Flat.{expr_of, stmt_of, fun_of, in_order}
use Rattle.vhdl_cycle_flat.specs.Names.{Slots, slots_of, scope_over, function_world_over}
use Rattle.vhdl_cycle_flat.specs.Resolving.{IsFrameOf, frame_vars}
use Rattle.vhdl_cycle_resolve.specs.Over.{slots_in, frames_in}
use Rattle.vhdl_cycle_resolve.specs.declared.sized.Known.{Known}
use Rattle.vhdl_cycle_resolve.proofs.Framing.{of_three}
use Rattle.vhdl_cycle_resolve.proofs.function.resolve_function.Goals as goal

pub returns-clause-frame : goal.returns-clause-frame
returns-clause-frame c =
    let f = c.args.function.now in
    let frames = frames_in c.args.funs.now in
    let vars = c.in_ok-vars.vars in
    let value = c.in_ok-value.value in
    let body = map stmt_of c.in_ok-body.body in
    let slots : slots_in vars.slots ≡ slots_of (frame_vars f) = fun_ext c.in_ok-vars.ensures.slots in
    of_three (λ (k : Known). (fun_of k.fun.value).from ≡ c.args.store.now) (λ k. (fun_of k.fun.value).size ≡ vars.bits)
    (λ k. (n : ℕ) (own : Bits) → (fun_of k.fun.value).run.value n own ≡ (expr_of value.expr).value n (in_order body n own))
    (λ k. IsFrameOf frames c.args.store.now f (fun_of k.fun.value)) c.known.result
    (λ k from size run. record {
      begins = from;
      fills = size ∙ c.in_ok-vars.ensures.bits;
      gives = λ n own.
          let after : Slots → Bits = λ s. stmts_mean Bits f.body (function_world_over s frames n) own in
          let done : in_order body n own ≡ after (slots_in vars.slots) =
          c.in_ok-body.ensures.after n own ∙ ap (λ (b : List VStmt). stmts_mean Bits b (function_world_over (slots_in vars.slots) frames n) own) c.as_slice.ensures in
          run n own ∙ c.in_ok-value.ensures n (in_order body n own) ∙ ap (λ (b : Bits). means f.result (scope_over (slots_in vars.slots) frames n b)) done
          ∙ ap (λ (s : Slots). means f.result (scope_over s frames n (after s))) slots;
    }) c.known.ensures.from c.known.ensures.size c.known.ensures.run
