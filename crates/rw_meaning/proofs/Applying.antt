-- The steps of evaluation: what one step gives, and what is applied in two parts.
use Rattle.std.proofs.Common.{◌≡◌, ℕ, zero, suc, ◌+◌, ◌≤◌, nat_le, Bool, true, false, if◌then◌else◌, List, Option, Some, refl, arith, ap, sym, ◌∙◌, subst}
use Rattle.std.proofs.lemmas.Bool.Decides.{nat_tests}
use Rattle.rw_scope_rules.specs.declared.binding.Bound.{Bound}
use Rattle.rw_tree.specs.Declarations.{Declaration}
use Rattle.rw_core.specs.Options.{◌>>=◌}
use Rattle.rw_core.proofs.Options.{bind_some}
use Rattle.rw_core.proofs.Eventually.{always, later, sooner, reached_once}
use Rattle.rw_meaning.specs.Results.{Outcome, datum, waiting_for_more, action, Function, Thunk, Thunks, nothing, and_then, joined, how_many, first_thunks, later_thunks}
use Rattle.rw_meaning.specs.Evaluation.{Task, apply, result_within, arity, entered, applied}
use Rattle.rw_meaning.specs.Steps.{Gives, StepGives}
use Rattle.rw_meaning.proofs.Steps.{result_grows}
use Rattle.rw_meaning.proofs.Lasting.{result_lasts, reached_at}

joined_assoc : (xs ys zs : Thunks) → joined (joined xs ys) zs ≡ joined xs (joined ys zs)
joined_assoc nothing ys zs = refl
joined_assoc (and_then x xs) ys zs = ap (and_then x) (joined_assoc xs ys zs)

joined_nothing : (xs : Thunks) → joined xs nothing ≡ xs
joined_nothing nothing = refl
joined_nothing (and_then x xs) = ap (and_then x) (joined_nothing xs)

how_many-joined : (xs ys : Thunks) → how_many (joined xs ys) ≡ how_many xs + how_many ys
how_many-joined nothing ys = omega arith
how_many-joined (and_then x xs) ys = let h = how_many-joined xs ys in omega arith

first_thunks-joined : (k : ℕ) (xs ys : Thunks) → k ≤ how_many xs → first_thunks k (joined xs ys) ≡ first_thunks k xs
first_thunks-joined zero xs ys h = refl
first_thunks-joined (suc k) nothing ys h = absurd (omega arith)
first_thunks-joined (suc k) (and_then x xs) ys h = ap (and_then x) (first_thunks-joined k xs ys (omega arith))

later_thunks-joined : (k : ℕ) (xs ys : Thunks) → k ≤ how_many xs → later_thunks k (joined xs ys) ≡ joined (later_thunks k xs) ys
later_thunks-joined zero xs ys h = refl
later_thunks-joined (suc k) nothing ys h = absurd (omega arith)
later_thunks-joined (suc k) (and_then x xs) ys h = later_thunks-joined k xs ys (omega arith)

nat_le_refused : (a k : ℕ) → nat_le (suc a) k ≡ false → k ≤ a
nat_le_refused a k e = grind (arith, nat_tests)

nat_le_not : (a k : ℕ) → k ≤ a → nat_le (suc a) k ≡ false
nat_le_not a k e = grind (arith, nat_tests)

module _ (program : List (Declaration Bound)) where
  -- what one step gives, the task gives, and the other way
  pub gives_step : (task : Task) (r : Outcome) → StepGives program task r → Gives program task r
  unfolding result_within
  gives_step task r e = later (λ n. result_within program n task ≡ Some r) e

  pub step_gives : (task : Task) (r : Outcome) → Gives program task r → StepGives program task r
  unfolding result_within
  step_gives task r e = sooner (λ n. result_within program n task ≡ Some r) e

  pub gives_within : (budget : ℕ) (task : Task) (r : Outcome) → result_within program budget task ≡ Some r → Gives program task r
  gives_within budget task r e = reached_at (λ n. result_within program n task) (λ n. result_grows program n task) budget r e

  pub gives_once : (task : Task) (r s : Outcome) → Gives program task r → Gives program task s → r ≡ s
  gives_once task r s a b = reached_once (λ n. result_within program n task) r s a b

  -- what is applied to nothing stays what it is
  pub applied_to_nothing : (f : Outcome) → Gives program (apply f nothing) f
  applied_to_nothing f = gives_step (apply f nothing) f (always (λ n. refl))

  -- == What is applied in two parts ==

  record Split (n : ℕ) (g : Outcome) (xs ts : Thunks) (r : Outcome) : Type 0 where
    middle : Outcome
    first : result_within program n (apply g xs) ≡ Some middle
    second : result_within program n (apply middle ts) ≡ Some r

  lasts_one : (n : ℕ) (task : Task) (r : Outcome) → result_within program n task ≡ Some r → result_within program (suc n) task ≡ Some r
  lasts_one n task r e = let k : 1 + n ≡ suc n = omega arith in subst (λ z. result_within program z task ≡ Some r) k (result_lasts program 1 n task r e)

  abbrev waited : (Task → Option Outcome) → Function → Thunks → Option Outcome
  waited R f X =
      if nat_le (suc (how_many X)) (arity f) then Some (waiting_for_more f X)
      else (do r ← entered program R f (first_thunks (arity f) X); R (apply r (later_thunks (arity f) X)))

  waits_for_nothing : (R : Task → Option Outcome) (f : Function) (X : Thunks) (r : Outcome) → nat_le (suc (how_many X)) (arity f) ≡ true → waited R f (joined X nothing) ≡ Some r
      → Some (waiting_for_more f X) ≡ Some r
  waits_for_nothing R f X r t e = let k : waited R f X ≡ Some r = rw joined_nothing at e in let j : waited R f X ≡ Some (waiting_for_more f X) = rw t refl in sym j ∙ k

  waits_on : (R : Task → Option Outcome) (f : Function) (X ts : Thunks) (r : Outcome) → nat_le (suc (how_many X)) (arity f) ≡ true → waited R f (joined X ts) ≡ Some r
      → applied program R (waiting_for_more f X) ts ≡ Some r
  waits_on R f X nothing r t e = waits_for_nothing R f X r t e
  waits_on R f X (and_then x ts) r t e = e

  entered_on : (R : Task → Option Outcome) (f : Function) (X ts : Thunks) (r : Outcome) → nat_le (suc (how_many X)) (arity f) ≡ false → waited R f (joined X ts) ≡ Some r
      → (s : Outcome) × (entered program R f (first_thunks (arity f) X) ≡ Some s) × (R (apply s (joined (later_thunks (arity f) X) ts)) ≡ Some r)
  entered_on R f X ts r t e =
      let k : arity f ≤ how_many X = nat_le_refused (how_many X) (arity f) t in
      let m : how_many (joined X ts) ≡ how_many X + how_many ts = how_many-joined X ts in
      let n : arity f ≤ how_many (joined X ts) = omega arith in
      let u : nat_le (suc (how_many (joined X ts))) (arity f) ≡ false = nat_le_not (how_many (joined X ts)) (arity f) n in
      let v : (do s ← entered program R f (first_thunks (arity f) (joined X ts)); R (apply s (later_thunks (arity f) (joined X ts)))) ≡ Some r = rw u at e in
      let b = bind_some (entered program R f (first_thunks (arity f) (joined X ts))) (λ s. R (apply s (later_thunks (arity f) (joined X ts)))) r v in
      (b.0, subst (λ z. entered program R f z ≡ Some b.0) (first_thunks-joined (arity f) X ts k) b.1, subst (λ z. R (apply b.0 z) ≡ Some r) (later_thunks-joined (arity f) X ts k) b.2)

  waited_more : (R : Task → Option Outcome) (f : Function) (X : Thunks) (s r : Outcome) → nat_le (suc (how_many X)) (arity f) ≡ false → entered program R f (first_thunks (arity f) X) ≡ Some s
      → R (apply s (later_thunks (arity f) X)) ≡ Some r → waited R f X ≡ Some r
  waited_more R f X s r t e g = rw (t, e, g)

  by_test : (n : ℕ) → ((g : Outcome) (xs ts : Thunks) (r : Outcome) → result_within program n (apply g (joined xs ts)) ≡ Some r → Split n g xs ts r)
      → (f : Function) (before : Thunks) (x : Thunk) (xs ts : Thunks) (r : Outcome) → waited (result_within program n) f (joined (joined before (and_then x xs)) ts) ≡ Some r
      → (b : Bool) → nat_le (suc (how_many (joined before (and_then x xs)))) (arity f) ≡ b → Split (suc n) (waiting_for_more f before) (and_then x xs) ts r
  unfolding result_within
  by_test n ih f before x xs ts r e true t = record {
    middle = waiting_for_more f (joined before (and_then x xs));
    first = rw t refl;
    second = waits_on (result_within program n) f (joined before (and_then x xs)) ts r t e;
  }
  by_test n ih f before x xs ts r e false t =
      let b = entered_on (result_within program n) f (joined before (and_then x xs)) ts r t e in
      let s = ih b.0 (later_thunks (arity f) (joined before (and_then x xs))) ts r b.2 in
      record { middle = s.middle; first = waited_more (result_within program n) f (joined before (and_then x xs)) b.0 s.middle t b.1 s.first; second = lasts_one n (apply s.middle ts) r s.second }

  splits : (n : ℕ) (g : Outcome) (xs ts : Thunks) (r : Outcome) → result_within program n (apply g (joined xs ts)) ≡ Some r → Split n g xs ts r
  unfolding result_within
  splits zero g xs ts r e = absurd (cc)
  splits (suc n) g nothing ts r e = record { middle = g; first = refl; second = e }
  splits (suc n) (datum place fields) (and_then x xs) ts r e = absurd (cc)
  splits (suc n) (action o before) (and_then x xs) ts r e = absurd (cc)
  splits (suc n) (waiting_for_more f before) (and_then x xs) ts r e =
      by_test n (splits n) f before x xs ts r (subst (λ z. waited (result_within program n) f z ≡ Some r) (sym (joined_assoc before (and_then x xs) ts)) e)
      (nat_le (suc (how_many (joined before (and_then x xs)))) (arity f)) refl

  -- what is given to all arguments is given to the first ones, and then to the others
  pub in_parts : (g : Outcome) (xs ts : Thunks) (r : Outcome) → Gives program (apply g (joined xs ts)) r → (m : Outcome) × Gives program (apply g xs) m × Gives program (apply m ts) r
  in_parts g xs ts r e =
      let s = splits e.from g xs ts r (e.holds e.from (omega arith)) in
      (s.middle, gives_within e.from (apply g xs) s.middle s.first, gives_within e.from (apply s.middle ts) r s.second)
