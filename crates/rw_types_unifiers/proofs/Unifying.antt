-- A most general unifier of equations, one equation after the other, each by the first difference of what its sides come to.
use Rattle.std.proofs.Common.{◌≡◌, ◌↔◌, ◌⊎◌, inl, inr, ℕ, zero, suc, ◌<◌, true, false, nat_eq, List, [], ◌∷◌, refl, sym, ◌∙◌, ap, subst, arith}
use Rattle.rw_types_solving.specs.Types.{Ty, var, app, apply, occurs, single, after, Agrees}
use Rattle.rw_types_solving.specs.Tables.{Uses}
use Rattle.rw_types_solving.specs.Inside.{Difference, Same, Clash, At, difference}
use Rattle.rw_types_solving.proofs.Laws.{true_or_false, either, is_same, itself, compose, endless, single_there}
use Rattle.rw_types_solving.proofs.Steps.{agreed, still_open, one_agrees, Step, step_back, step_here, uses_image, uses_single}
use Rattle.rw_types_solving.proofs.Telling.{Tells, seen, told}
use Rattle.rw_types_unifiers.specs.Unifiers.{Unifies, AreWithin, IsMostGeneralUnifier}
use Rattle.rw_types_unifiers.proofs.Open.{open_count, step_falls}

-- a substitution in its own most general form, on the first n variables
record IsSolved (n : ℕ) (s : ℕ → Ty) : Type 0 where
  agrees : Agrees s s
  within : (x : ℕ) → x < n → Uses n (s x)

-- a variable is no type in which it stands
never : (t : ℕ → Ty) (x : ℕ) (u : Ty) → occurs x u ≡ true → ((y : ℕ) → u ≡ var y → y < x) → t x ≡ apply t u → ⊥
never t x (var y) o below e = let l = below y refl in let same = is_same x y o in omega arith
never t x (app h ts) o below e = endless t x h ts o e

-- one step: x, which is open, gets u
module _ (n : ℕ) (s : ℕ → Ty) (k : IsSolved n s) (x : ℕ) (u : Ty) (step : Step s x u) (uses : Uses n u) where
  bound_here : after (single x u) s x ≡ u
  bound_here = ap (apply (single x u)) step.is_open ∙ single_there x u

  -- an instance of the new one is one of the old one, and meets the equation
  instance_meets : (t : ℕ → Ty) → Agrees t (after (single x u) s) → t x ≡ apply t u
  instance_meets t h = h x ∙ ap (apply t) bound_here

  instance_back : (t : ℕ → Ty) → Agrees t (after (single x u) s) → Agrees t s
  instance_back t h y = h y ∙ agreed t (single x u) (s y) (one_agrees t x u (instance_meets t h))

  old_agrees : Agrees (after (single x u) s) s
  old_agrees y = ap (apply (single x u)) (k.agrees y) ∙ compose (single x u) s (s y)

  bound_solved : IsSolved n (after (single x u) s)
  bound_solved = record {
    agrees = step_back s x u (after (single x u) s) old_agrees (step_here s x u x step (itself x));
    within = λ y l. uses_image n (single x u) (s y) (uses_single n x u uses) (k.within y l);
  }

-- what is known after one equation more: the instances of a new one, or none
abbrev Narrowing : ℕ → (ℕ → Ty) → ((ℕ → Ty) → Type 0) → Type 0
Narrowing n s P = ((r : ℕ → Ty) × IsSolved n r × ((t : ℕ → Ty) → Agrees t r ↔ (Agrees t s × P t))) ⊎ ((t : ℕ → Ty) → Agrees t s → P t → ⊥)

module _ (n : ℕ) (a b : Ty) (ua : Uses n a) (ub : Uses n b) where
  abbrev Equal : (ℕ → Ty) → Type 0
  Equal t = apply t a ≡ apply t b

  module _ (s : ℕ → Ty) (k : IsSolved n s) (smaller : (r : ℕ → Ty) → IsSolved n r → open_count r n < open_count s n → Narrowing n r Equal) where
    images : (t : ℕ → Ty) → Agrees t s → apply t a ≡ apply t b → apply t (apply s a) ≡ apply t (apply s b)
    images t h e = agreed t s a h ∙ e ∙ sym (agreed t s b h)

    seen_below : (y : ℕ) → seen (apply s a) (apply s b) y ≡ true → y < n
    seen_below y o = elim (either _ _ o) [
      | inl p ↦ uses_image n s a k.within ua y p
      | inr p ↦ uses_image n s b k.within ub y p
    ]

    seen_open : (y : ℕ) → seen (apply s a) (apply s b) y ≡ true → s y ≡ var y
    seen_open y o = elim (either _ _ o) [
      | inl p ↦ still_open s y a k.agrees p
      | inr p ↦ still_open s y b k.agrees p
    ]

    after_step : (x : ℕ) (u : Ty) (step : Step s x u) (uses : Uses n u) → ((t : ℕ → Ty) → Agrees t s → Equal t → t x ≡ apply t u) → Narrowing n (after (single x u) s) Equal → Narrowing n s Equal
    after_step x u step uses forced (inl (r, solved, exactly)) =
        inl (
          r,
          solved,
          λ t. (
            (λ h. let m = (exactly t).0 h in (instance_back n s k x u step uses t m.0, m.1)),
            (λ h. (exactly t).1 (step_back s x u t h.0 (forced t h.0 h.1), h.1)),
          ),
        )
    after_step x u step uses forced (inr none) = inr (λ t h e. none t (step_back s x u t h (forced t h e)) e)

    stepped : (x : ℕ) (u : Ty) → occurs x u ≡ false → Tells (At x u) (apply s a) (apply s b) → Narrowing n s Equal
    stepped x u absent tells =
        let step : Step s x u = record {
          solved = k.agrees;
          is_open = seen_open x tells.0.here;
          kept = λ y o. seen_open y (tells.0.within y o);
          absent = absent;
        } in
        let uses : Uses n u = λ y o. seen_below y (tells.0.within y o) in
        after_step x u step uses (λ t h e. tells.1 t (images t h e))
        (smaller (after (single x u) s) (bound_solved n s k x u step uses) (step_falls s x u step n (seen_below x tells.0.here)))

    by_difference : (d : Difference) → Tells d (apply s a) (apply s b) → Narrowing n s Equal
    by_difference Same tells =
        inl (s, k, λ t. ((λ h. (h, sym (agreed t s a h) ∙ ap (apply t) tells ∙ agreed t s b h)), (λ h. h.0)))
    by_difference Clash tells = inr (λ t h e. tells t (images t h e))
    by_difference (At x u) tells = elim (true_or_false (occurs x u)) [
      | inl o ↦ inr (λ t h e. never t x u o tells.0.falls (tells.1 t (images t h e)))
      | inr o ↦ stepped x u o tells
    ]

  rounds : (most : ℕ) (s : ℕ → Ty) → IsSolved n s → open_count s n < most → Narrowing n s Equal
  rounds zero s k l = absurd (omega arith)
  rounds (suc most) s k l = by_difference s k (λ r solved m. rounds most r solved (omega arith)) (difference (apply s a) (apply s b)) (told (apply s a) (apply s b))

-- one equation, then the others
then_others : (n : ℕ) (s : ℕ → Ty) (e : Ty × Ty) (es : List (Ty × Ty)) → Narrowing n s (λ t. apply t e.0 ≡ apply t e.1) → ((r : ℕ → Ty) → IsSolved n r → Narrowing n r (λ t. Unifies t es)) → Narrowing n s (λ t. Unifies t (e ∷ es))
then_others n s e es (inr none) rest = inr (λ t h u. none t h u.0)
then_others n s e es (inl (r, solved, exactly)) rest = on (rest r solved)
  where
    on : Narrowing n r (λ t. Unifies t es) → Narrowing n s (λ t. Unifies t (e ∷ es))
    on (inl (q, well, more)) = inl (
      q,
      well,
      λ t. (
        (λ h. let m = (more t).0 h in let o = (exactly t).0 m.0 in (o.0, (o.1, m.1))),
        (λ h. (more t).1 ((exactly t).1 (h.0, h.1.0), h.1.1)),
      ),
    )
    on (inr none) = inr (λ t h u. none t ((exactly t).1 (h, u.0)) u.1)

all : (n : ℕ) (es : List (Ty × Ty)) → AreWithin n es → (s : ℕ → Ty) → IsSolved n s → Narrowing n s (λ t. Unifies t es)
all n [] w s k = inl (s, k, λ t. ((λ h. (h, tt)), (λ h. h.0)))
all n (e ∷ es) w s k = then_others n s e es (rounds n e.0 e.1 w.0 w.1 (suc (open_count s n)) s k (omega arith)) (λ r solved. all n es w.2 r solved)

nothing_bound : (n : ℕ) → IsSolved n var
nothing_bound n = record { agrees = λ x. refl; within = λ x l y o. let same = is_same y x o in omega arith }

pub solved : (n : ℕ) (es : List (Ty × Ty)) → AreWithin n es → ((s : ℕ → Ty) × IsMostGeneralUnifier n es s) ⊎ ((t : ℕ → Ty) → Unifies t es → ⊥)
solved n es w = from (all n es w var (nothing_bound n))
  where
    from : Narrowing n var (λ t. Unifies t es) → ((s : ℕ → Ty) × IsMostGeneralUnifier n es s) ⊎ ((t : ℕ → Ty) → Unifies t es → ⊥)
    from (inl (s, k, exactly)) = inl (
      s,
      record {
        exactly = λ t. ((λ u. (exactly t).1 ((λ x. refl), u)), (λ h. ((exactly t).0 h).1));
        itself = k.agrees;
        within = k.within;
      },
    )
    from (inr none) = inr (λ t u. none t (λ x. refl) u)
