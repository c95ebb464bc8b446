-- The plain form of each variant, and of lists of types.
use Rattle.std.proofs.Common.{◌≡◌, Option, nat_eq, slice_get, option_and_then, Bool, true, false, cond, ◌&&◌, get_or, ◌∙◌, ◌<◌, ◌≤◌, zero, suc, length, drop, arith, ℕ, sym, ap, List, [], ◌∷◌, map, refl}
use Rattle.std.proofs.lemmas.Bool.Decides.{nat_tests}
use Rattle.rw_types_solving.specs.declared.term.Head.{Head}
use Rattle.rw_types_solving.specs.declared.term.Head.TheVariants as h
use Rattle.rw_types_solving.specs.declared.term.Term.{Term}
use Rattle.rw_types_solving.specs.declared.term.Term.TheVariants as w
use Rattle.rw_types_solving.specs.declared.term.Term.TheOpen.{Term-F}
use Rattle.rw_types_solving.specs.declared.term.Term.TheFolds.{fold-roll-Term}
use Rattle.rw_types_solving.specs.Types.{Ty, var, app, none, more, tys, plain_step, plain, plains, apply, apply_in, parts, own, is_known_layer}
use Rattle.rw_types_solving.specs.Tables.{type_at, equation, equations}
use Rattle.rw_types_solving.specs.Inside.{differences, Clash}

pub plain_var : (n : ℕ) → plain (w.Var n) ≡ var n
plain_var n = ap plain (sym (w.rolls-Var n)) ∙ fold-roll-Term Ty plain_step (Term-F.Var n)

pub plain_app : (h : Head) (xs : List Term) → plain (w.App h xs) ≡ app h (tys (plains xs))
plain_app h xs = ap plain (sym (w.rolls-App h xs)) ∙ fold-roll-Term Ty plain_step (Term-F.App h xs)

pub ruleset plain_forms = (plain_var, plain_app)

cond_and_false : (a b : Bool) → b ≡ false → ◌≡◌ {A = ℕ} (cond (a && b) 0 1) 1
cond_and_false true b e = rw e refl
cond_and_false false b e = refl

pub tys_map : (s : ℕ → Ty) (xs : List Ty) → tys (map (apply s) xs) ≡ apply_in s (tys xs)
tys_map s [] = refl
tys_map s (x ∷ xs) = ap (more (apply s x)) (tys_map s xs)

pub parts_tys : (xs : List Term) → parts (tys (plains xs)) ≡ length xs
parts_tys [] = refl
parts_tys (x ∷ xs) = ap suc (parts_tys xs)

longer_none : (us : List Term) (i : ℕ) → i < length us → differences none (tys (plains (drop i us))) ≡ Clash
longer_none [] i k = absurd (omega arith)
longer_none (u ∷ us) zero k = refl
longer_none (u ∷ us) (suc i) k = longer_none us i (omega arith)

pub longer : (ts us : List Term) (i : ℕ) → length ts ≤ i → i < length us → differences (tys (plains (drop i ts))) (tys (plains (drop i us))) ≡ Clash
longer ts [] i h k = absurd (omega arith)
longer [] (u ∷ us) zero h k = refl
longer [] (u ∷ us) (suc i) h k = longer_none us i (omega arith)
longer (t ∷ ts) (u ∷ us) zero h k = absurd (omega arith)
longer (t ∷ ts) (u ∷ us) (suc i) h k = longer ts us i (omega arith) (omega arith)

-- a known layer over one monad is one node with it
pub own_known : (ts : List Term) (d : Term) → length ts ≡ 2 → is_known_layer (plain (get_or ts 0 d)) ≡ true → own h.Layer (tys (plains ts)) ≡ 0
own_known [] d e k = absurd (omega arith)
own_known (x ∷ []) d e k = absurd (omega arith)
own_known (x ∷ y ∷ []) d e k = rw k refl
own_known (x ∷ y ∷ z ∷ ts) d e k = absurd (omega arith)

not_one : (n : ℕ) → nat_eq (suc (suc n)) 1 ≡ false
not_one n = grind (arith, nat_tests)

pub own_other : (ts : List Term) → (length ts ≡ 2 → ⊥) → own h.Layer (tys (plains ts)) ≡ 1
own_other [] e = refl
own_other (x ∷ []) e = cond_and_false (is_known_layer (plain x)) false refl
own_other (x ∷ y ∷ []) e = absurd (e refl)
own_other (x ∷ y ∷ z ∷ ts) e = cond_and_false (is_known_layer (plain x)) _ (not_one _)

pub state_layer : (t : Term) (xs : List Term) → t ≡ w.App h.StateT xs → nat_eq (length xs) 1 ≡ is_known_layer (plain t)
state_layer t xs e = ap (λ n. nat_eq n 1) (sym (parts_tys xs)) ∙ sym (ap is_known_layer (ap plain e ∙ plain_app h.StateT xs))

pub device_layer : (t : Term) (xs : List Term) → t ≡ w.App h.ReT xs → nat_eq (length xs) 2 ≡ is_known_layer (plain t)
device_layer t xs e = ap (λ n. nat_eq n 2) (sym (parts_tys xs)) ∙ sym (ap is_known_layer (ap plain e ∙ plain_app h.ReT xs))

at_entry : (es : List (Option Term)) (x : ℕ) → type_at (equations es) x ≡ option_and_then equation (slice_get es x)
at_entry [] x = refl
at_entry (e ∷ es) zero = refl
at_entry (e ∷ es) (suc x) = at_entry es x

pub at_equation : (es : List (Option Term)) (x : ℕ) (o : Option (Option Term)) → slice_get es x ≡ o → type_at (equations es) x ≡ option_and_then equation o
at_equation es x o e = at_entry es x ∙ ap (option_and_then equation) e
