-- What goes as a test says: after what is evaluated, and one after the other.
use Rattle.std.proofs.Common.{◌≡◌, refl, ℕ, Bool, true, false, ◌&&◌, List, Option, Some}
use Rattle.rw_scope_rules.specs.declared.binding.Bound.{Bound}
use Rattle.rw_tree.specs.Declarations.{Declaration}
use Rattle.rw_core.specs.Eventually.{Reaches}
use Rattle.rw_core.proofs.Eventually.{mapped, mapped_two}
use Rattle.rw_cover_matrix.specs.Values.{Values}
use Rattle.rw_meaning.specs.Options.{Tried, passed_over, taken, and_try, tried}
use Rattle.rw_meaning.specs.Results.{Outcome, Thunks, joined}
use Rattle.rw_meaning_matching.specs.Standing.{values_joined}
use Rattle.rw_meaning_matching.specs.Matching.{GoesAs}
use Rattle.rw_meaning_matching.proofs.Standing.{stand_joined}

-- one after the other, with what both take
abbrev pub one_and_other : Tried Thunks → Tried Thunks → Tried Thunks
one_and_other x y = and_try x (λ xs. and_try y (λ ys. taken (joined xs ys)))

both_taken : (x y : Tried Thunks) (xs ys : Thunks) → x ≡ taken xs → y ≡ taken ys → one_and_other x y ≡ taken (joined xs ys)
both_taken x y xs ys e h = rw e (rw h refl)

first_over : (x y : Tried Thunks) → x ≡ passed_over → one_and_other x y ≡ passed_over
first_over x y e = rw e refl

second_over : (x y : Tried Thunks) (xs : Thunks) → x ≡ taken xs → y ≡ passed_over → one_and_other x y ≡ passed_over
second_over x y xs e h = rw e (rw h refl)

after_result : (x : Option Outcome) (r : Outcome) (f : Outcome → Tried Thunks) (y : Tried Thunks) → x ≡ Some r → f r ≡ y → and_try (tried x) f ≡ y
after_result x r f y e h = rw e h

module _ (program : List (Declaration Bound)) where
  pub both_go : (b c : Bool) (f g : ℕ → Tried Thunks) (seen others : Values) → GoesAs program b f seen → GoesAs program c g others
      → GoesAs program (b && c) (λ n. one_and_other (f n) (g n)) (values_joined seen others)
  both_go true true f g seen others h k =
      (joined h.0 k.0, mapped_two (λ n e i. both_taken (f n) (g n) h.0 k.0 e i) h.1 k.1, stand_joined program h.0 seen k.0 others h.2 k.2)
  both_go true false f g seen others h k = mapped_two (λ n e i. second_over (f n) (g n) h.0 e i) h.1 k
  both_go false c f g seen others h k = mapped (λ n e. first_over (f n) (g n) e) h

  -- what goes on with a result that is reached
  pub result_goes : (b : Bool) (x : ℕ → Option Outcome) (r : Outcome) (f : ℕ → Outcome → Tried Thunks) (seen : Values) → Reaches x r → GoesAs program b (λ n. f n r) seen
      → GoesAs program b (λ n. and_try (tried (x n)) (f n)) seen
  result_goes true x r f seen e h = (h.0, mapped_two (λ n i k. after_result (x n) r (f n) (taken h.0) i k) e h.1, h.2)
  result_goes false x r f seen e h = mapped_two (λ n i k. after_result (x n) r (f n) passed_over i k) e h
