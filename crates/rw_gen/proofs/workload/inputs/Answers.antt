-- The jump stands where the draws of the source end, and each draw is one input.
use Rattle.std.proofs.Common.{◌≡◌, ◌+◌, ◌*◌, ◌==◌, [], ◌∷◌, ◌++◌, ap, sym, ◌∙◌, arith}
use Rattle.rand_pcg.specs.Lcg.{state_after, advance}
use Rattle.rand_pcg.specs.Pcg.{multiplier_64}
use Rattle.rw_gen.specs.Workload.{generator_at, draw, inputs_below, input_list}
use Rattle.rw_gen.proofs.Steps.{inputs_below-more, inputs_below-none}
use Rattle.rw_gen.proofs.workload.inputs.Goals as goal

pub loop-init : goal.loop-init
unfolding generator_at state_after
loop-init c =
    let n : 2 * c.from.result ≡ 2 * c.args.size + 0 = omega arith in
    record {
      at = c.advance.ensures ∙ ap (λ n. advance 64 multiplier_64 n c.generator-rng.result) n ∙ ap (advance 64 multiplier_64 (2 * c.args.size + 0)) c.generator-rng.ensures;
      so_far = c.new-inputs.ensures.items ∙ sym (inputs_below-none c.args.number c.args.size);
    }

pub loop-preserved : goal.loop-preserved
loop-preserved c =
    let at = 2 * c.args.size + c.loop.counter in
    let n : at + 1 ≡ 2 * c.args.size + (c.loop.counter + 1) = omega arith in
    record {
      at = c.draw_below.ensures.moved c.args.number at c.loop.invariant.at ∙ ap (generator_at c.args.number) n;
      so_far = c.in_ok-push.ensures.items ∙ ap (λ w. c.loop.inputs.items ++ (w == 1) ∷ []) (c.draw_below.ensures.value c.args.number at c.loop.invariant.at)
          ∙ ap (λ front. front ++ (draw c.args.number at 2 == 1) ∷ []) c.loop.invariant.so_far ∙ sym (inputs_below-more c.args.number c.args.size c.loop.counter);
    }

pub returns : goal.returns
unfolding input_list
returns c = let n : c.loop.counter ≡ 1000 = omega arith in c.loop.invariant.so_far ∙ ap (inputs_below c.args.number c.args.size) n
