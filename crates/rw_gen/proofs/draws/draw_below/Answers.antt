-- The word is that of the generator where it stands, which then stands one further.
use Rattle.std.proofs.Common.{ℕ, ◌%◌, ap, ◌∙◌}
use Rattle.rand_pcg.specs.Lcg.{Lcg}
use Rattle.rand_pcg.specs.Pcg.{pcg32}
use Rattle.rw_gen.specs.Workload.{draw}
use Rattle.rw_gen.proofs.Steps.{generator_at-more}
use Rattle.rw_gen.proofs.draws.draw_below.Goals as goal

pub returns-clause-value : goal.returns-clause-value
unfolding draw
returns-clause-value c number at h =
    ap (λ w. w % c.args.below) (ap (λ (p : ℕ × Lcg). p.0) c.next_word.ensures ∙ ap (λ (g : Lcg). (pcg32 g).0) h)

pub returns-clause-moved : goal.returns-clause-moved
returns-clause-moved c number at h =
    ap (λ (p : ℕ × Lcg). p.1) c.next_word.ensures ∙ ap (λ (g : Lcg). (pcg32 g).1) h ∙ generator_at-more number at
