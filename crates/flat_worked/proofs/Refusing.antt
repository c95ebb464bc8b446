-- Programs of one function break a rule first, at its place.
use Rattle.std.proofs.Common.{◌≡◌, ◌∙◌, refl, sym, subst, ℕ, zero, suc, true, false, List, [], ◌∷◌, Some, inl, inr}
use Rattle.rw_base.specs.declared.place.Place.{Place}
use Rattle.rw_base.specs.declared.rule.Rule.TheVariants.{E19, E21, E22}
use Rattle.rw_scope_rules.specs.Names.{is_before}
use Rattle.rw_core_flat.specs.Terms.{FlatTerm, return_term, call_term, no_terms}
use Rattle.rw_core_flat.specs.Programs.{FlatFunction, function_at}
use Rattle.rw_guard_rules.specs.Signals.{Signals, signals_here, signals_left, signals_right, signals_case, signals_let, signals_mark, signals_call, signals_extrude, Step, IsTail, calls_in}
use Rattle.rw_guard_rules.specs.Rules.{AnyByRecursion, Calls, Leads, one_step, more_steps, UnguardedDevice}
use Rattle.rw_guard_rules.specs.Verdict.{AtFunctions, Recurses, RecursesInside, LoopsSilently, GuardsAs, is_device, devices}
use Rattle.flat_worked.specs.Toggle.{loop}
use Rattle.flat_worked.specs.Broken.{only, refused, spin, return_unit, alone, recursing, spinning, returning}

-- the one function there is
the_one : (g f : FlatFunction) (i : ℕ) → function_at i (g ∷ []) ≡ Some f → g ≡ f
the_one g f zero e = cc
the_one g f (suc i) e = absurd (cc)

not_before : (p : Place) → p ≡ only → is_before p only ≡ false
not_before p e = subst (λ z. is_before z only ≡ false) (sym e) refl

-- whatever is broken at a function is broken at its place
one_place : (g : FlatFunction) (P : ℕ → FlatFunction → Type 0) (p : Place) → AtFunctions (alone g) P p → p ≡ g.place
one_place g P p (i, f, e, at, h) = sym at ∙ subst (λ z. f.place ≡ z.place) (sym (the_one g f i e)) refl

pub recurses : GuardsAs recursing (Some (refused E19))
recurses = inl (refl, (0, loop, refl, refl, (refl, one_step (loop, refl, inl (refl, tt)))), λ p h. not_before p (one_place loop _ p h))

-- a program of one device has no function or state action on a cycle
module _ (g : FlatFunction) (is : is_device g.kind ≡ true) where
  no_recursion : (p : Place) → Recurses (alone g) p → ⊥
  no_recursion p (i, f, e, at, (plain, leads)) = both (subst (λ z. is_device z.kind ≡ true) (the_one g f i e) is) plain
    where
      both : is_device f.kind ≡ true → is_device f.kind ≡ false → ⊥
      both h k = absurd (cc)

-- the calls of the one function, on a path as it is asked for
abbrev Held : (List Step → Type 0) → ℕ → FlatFunction → Type 0
Held P j f = AnyByRecursion (λ c. (c.callee ≡ j) × P c.path) (calls_in [] f.body)

moved : (P : List Step → Type 0) (g : FlatFunction) (i j : ℕ) → Calls (g ∷ []) P i j → Held P j g
moved P g i j (f, e, h) = subst (Held P j) (sym (the_one g f i e)) h

-- the call of `spin` is in tail position
at_end : (p : Place) → RecursesInside spinning p → ⊥
at_end p (i, f, e, at, (j, is, calls, cycle)) = out (moved (λ path. IsTail path → ⊥) spin i j calls)
  where
    out : Held (λ path. IsTail path → ⊥) j spin → ⊥
    out (inl h) = h.1 tt
    out (inr h) = h

pub spins : GuardsAs spinning (Some (refused E21))
spins =
    inr (
      no_recursion spin refl,
      inr (
        at_end,
        inl (refl, (0, spin, refl, refl, one_step (refl, (spin, refl, inl (refl, λ k. k)))), λ p h. not_before p (one_place spin _ p h)),
      ),
    )

-- a device that returns calls nothing, and doesn't signal
no_calls : (P : List Step → Type 0) (i j : ℕ) → Calls (return_unit ∷ []) P i j → ⊥
no_calls P i j h = moved P return_unit i j h

no_loop : (i j : ℕ) → Leads (UnguardedDevice (return_unit ∷ []) (devices returning)) i j → ⊥
no_loop i j (one_step h) = no_calls _ i j h.1
no_loop i j (more_steps k h rest) = no_calls _ i k h.1

abbrev IsNoReturn : FlatTerm → Type 0
IsNoReturn (return_term t) = ⊥
IsNoReturn t = Unit {0}

signals_no_return : (functions : List FlatFunction) (t : FlatTerm) → Signals functions t → IsNoReturn t
signals_no_return functions t signals_here = tt
signals_no_return functions t (signals_left h) = tt
signals_no_return functions t (signals_right h) = tt
signals_no_return functions t (signals_case h) = tt
signals_no_return functions t (signals_let h) = tt
signals_no_return functions t (signals_mark h) = tt
signals_no_return functions t (signals_call f e h) = tt
signals_no_return functions t (signals_extrude h) = tt

no_signal : Signals (return_unit ∷ []) (call_term 0 no_terms) → ⊥
no_signal (signals_call f e h) = subst (λ z. IsNoReturn z.body) (sym (the_one return_unit f 0 e)) (signals_no_return (return_unit ∷ []) f.body h)

pub returns_early : GuardsAs returning (Some (refused E22))
returns_early =
    inr (no_recursion return_unit refl, inr ((λ p h. inside p h), inr ((λ p h. around p h), inl (refl, (refl, no_signal), λ p h. not_before p h.0))))
  where
    inside : (p : Place) → RecursesInside returning p → ⊥
    inside p (i, f, e, at, (j, is, calls, cycle)) = no_calls _ i j calls

    around : (p : Place) → LoopsSilently returning p → ⊥
    around p (i, f, e, at, h) = no_loop i i h
