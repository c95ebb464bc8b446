-- Adding equations, one after the other.
use Rattle.std.proofs.Common.{◌≡◌, ◌↔◌, ℕ, List, [], ◌∷◌, ◌++◌, refl, sym, ◌∙◌, ap, subst, Result, Ok, Err, IfOk}
use Rattle.rw_types_solving.specs.declared.term.Head.TheVariants as h
use Rattle.rw_types_solving.specs.Types.{Ty, var, none, more, apply}
use Rattle.rw_types_solving.proofs.Laws.{itself, endless}
use Rattle.rw_types_rules.specs.Words.{function}
use Rattle.rw_types_equations.specs.declared.equation.Equation.{Equation}
use Rattle.rw_types_equations.specs.Equations.{told, Holds, Adds}

holds_before : (t : ℕ → Ty) (es fs : List Equation) → Holds t (es ++ fs) → Holds t es
holds_before t [] fs h = tt
holds_before t (e ∷ es) fs h = (h.0, holds_before t es fs h.1)

holds_after : (t : ℕ → Ty) (es fs : List Equation) → Holds t (es ++ fs) → Holds t fs
holds_after t [] fs h = h
holds_after t (e ∷ es) fs h = holds_after t es fs h.1

holds_both : (t : ℕ → Ty) (es fs : List Equation) → Holds t es → Holds t fs → Holds t (es ++ fs)
holds_both t [] fs h k = k
holds_both t (e ∷ es) fs h k = (h.0, holds_both t es fs h.1 k)

-- one equation at the end
pub adds_one : (old new : List Equation) (e : Equation) → new ≡ old ++ e ∷ [] → Adds old new (λ t. t e.variable ≡ apply t (told e))
adds_one old new e p = record {
  exactly = λ t. (
    (λ h. let k = subst (λ z. Holds t z) p h in (holds_before t old (e ∷ []) k, (holds_after t old (e ∷ []) k).0)),
    (λ h. subst (λ z. Holds t z) (sym p) (holds_both t old (e ∷ []) h.0 (h.1, tt))),
  );
}

-- the same said otherwise
pub adds_as : (old new : List Equation) (P Q : (ℕ → Ty) → Type 0) → Adds old new P → ((t : ℕ → Ty) → P t ↔ Q t) → Adds old new Q
adds_as old new P Q a f = record {
  exactly = λ t. ((λ h. let k = (a.exactly t).0 h in (k.0, (f t).0 k.1)), (λ h. (a.exactly t).1 (h.0, (f t).1 h.1)));
}

pub adds_two : (old mid new : List Equation) (P Q : (ℕ → Ty) → Type 0) → Adds old mid P → Adds mid new Q → Adds old new (λ t. P t × Q t)
adds_two old mid new P Q a b = record {
  exactly = λ t. (
    (λ h. let k = (b.exactly t).0 h in let l = (a.exactly t).0 k.0 in (l.0, (l.1, k.1))),
    (λ h. (b.exactly t).1 ((a.exactly t).1 (h.0, h.1.0), h.1.1)),
  );
}

pub adds_none : (old new : List Equation) → new ≡ old → Adds old new (λ _. Unit {0})
adds_none old new p = record { exactly = λ t. ((λ h. (subst (λ z. Holds t z) p h, tt)), (λ h. subst (λ z. Holds t z) (sym p) h.0)) }

-- what is equal to a function from itself
pub never_holds : (t : ℕ → Ty) (n : ℕ) → t n ≡ function (t n) (t n) → ⊥
never_holds t n e = endless t n h.Fun (more (var n) (more (var n) none)) (rw (itself n) refl) e

pub adds_never : (old new : List Equation) (n : ℕ) (u : Ty) → u ≡ function (var n) (var n) → Adds old new (λ t. t n ≡ apply t u) → Adds old new (λ _. ⊥)
adds_never old new n u p a = adds_as _ _ _ _ a (λ t. ((λ e. never_holds t n (e ∙ ap (apply t) p)), (λ b. absurd b)))

-- a loop over parts: what is added so far, and what is to come, is the whole
pub record Walked (old now : List Equation) (Whole Rest : (ℕ → Ty) → Type 0) : Type 0 where
  pub exactly : (t : ℕ → Ty) → (Holds t now × Rest t) ↔ (Holds t old × Whole t)

pub walked_start : (old now : List Equation) (Whole : (ℕ → Ty) → Type 0) → now ≡ old → Walked old now Whole Whole
walked_start old now Whole p = record { exactly = λ t. ((λ h. (subst (λ z. Holds t z) p h.0, h.1)), (λ h. (subst (λ z. Holds t z) (sym p) h.0, h.1))) }

pub walked_step : (old now next : List Equation) (Whole Rest X Later : (ℕ → Ty) → Type 0) → Walked old now Whole Rest → Adds now next X → ((t : ℕ → Ty) → Rest t ↔ (X t × Later t)) → Walked old next Whole Later
walked_step old now next Whole Rest X Later w a f = record {
  exactly = λ t. (
    (λ h. let k = (a.exactly t).0 h.0 in (w.exactly t).0 (k.0, (f t).1 (k.1, h.1))),
    (λ h. let k = (w.exactly t).1 h in let r = (f t).0 k.1 in ((a.exactly t).1 (k.0, r.0), r.1)),
  );
}

pub walked_done : (old now : List Equation) (Whole Rest : (ℕ → Ty) → Type 0) → Walked old now Whole Rest → ((t : ℕ → Ty) → Rest t) → Adds old now Whole
walked_done old now Whole Rest w f = record { exactly = λ t. ((λ h. (w.exactly t).0 (h, f t)), (λ h. ((w.exactly t).1 h).0)) }

-- the same of a call that may fail
pub ok_as : {E : Type 0} (r : Result (Unit {0}) E) (old new : List Equation) (P Q : (ℕ → Ty) → Type 0) → IfOk r (λ _. Adds old new P) → ((t : ℕ → Ty) → P t ↔ Q t) → IfOk r (λ _. Adds old new Q)
ok_as (Ok x) old new P Q a f = adds_as old new P Q a f
ok_as (Err e) old new P Q a f = tt

-- a fact of what is the same
pub fact_is : {A : Type 0} (F : A → Type 0) (x y : A) → x ≡ y → F x ↔ F y
fact_is F x y e = ((λ h. subst F e h), (λ h. subst F (sym e) h))
