-- One word more of the generator, one piece more of a text, one input more.
use Rattle.std.proofs.Common.{◌≡◌, ℕ, zero, suc, ◌+◌, ◌*◌, ◌==◌, List, [], ◌∷◌, ◌++◌, codes, add-one, refl, ap, sym, ◌∙◌, append_assoc}
use Rattle.rand_pcg.specs.Lcg.{Lcg, next_state, state_after, started, increment_of}
use Rattle.rand_pcg.specs.Pcg.{multiplier_64, pcg32}
use Rattle.rw_gen.specs.Workload.{generator_at, draw, named, states_to, inputs_below}

pub state_after-more : (w m p n s : ℕ) → state_after w m p (suc n) s ≡ next_state w m p (state_after w m p n s)
unfolding state_after
state_after-more w m p zero s = refl
state_after-more w m p (suc n) s = state_after-more w m p n (next_state w m p s)

-- after one more word the generator is one step further
pub generator_at-more : (number at : ℕ) → (pcg32 (generator_at number at)).1 ≡ generator_at number (at + 1)
unfolding generator_at
generator_at-more number at =
    let g = started 64 multiplier_64 number (increment_of 64 0) in
    ap (λ s. let h : Lcg = record { state = s; increment = g.increment } in h) (sym (ap (λ n. state_after 64 multiplier_64 g.increment n g.state) (add-one at) ∙ state_after-more 64 multiplier_64 g.increment at g.state))

-- what a text has behind what it had, with one piece more
pub pushed_more : (old so_far text new piece : List ℕ) → text ≡ old ++ so_far → new ≡ text ++ piece → new ≡ old ++ (so_far ++ piece)
pushed_more old so_far text new piece e f = f ∙ ap (λ t. t ++ piece) e ∙ append_assoc old so_far piece

-- a state more, with a bar before it
pub states_to-more : (n m : ℕ) → m ≡ suc n → states_to m ≡ states_to n ++ codes " | " ++ named (codes "S") m
states_to-more n m e = rw e refl

pub inputs_below-more : (number size i : ℕ) → inputs_below number size (i + 1) ≡ inputs_below number size i ++ (draw number (2 * size + i) 2 == 1) ∷ []
unfolding inputs_below
inputs_below-more number size i = ap (inputs_below number size) (add-one i)

pub inputs_below-none : (number size : ℕ) → inputs_below number size 0 ≡ []
unfolding inputs_below
inputs_below-none number size = refl
