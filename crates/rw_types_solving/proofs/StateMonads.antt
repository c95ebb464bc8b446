-- An instance that is a state monad comes from a type that may be one.
use Rattle.std.proofs.Common.{◌≡◌, ℕ, Bool, true, false, cond, ◌&&◌, refl, sym, ◌∙◌, ap, List, [], ◌∷◌, length}
use Rattle.rw_types_solving.specs.declared.term.Head.{Head}
use Rattle.rw_types_solving.specs.declared.term.Head.TheVariants as h
use Rattle.rw_types_solving.specs.declared.term.Term.{Term}
use Rattle.rw_types_solving.specs.declared.term.Term.TheVariants as w
use Rattle.rw_types_solving.specs.Types.{tys, plain, plains, Ty, Tys, var, app, none, more, apply, apply_in, parts, Agrees}
use Rattle.rw_types_solving.specs.Conditions.{is_state_layer, is_state_head, is_state_monad, are_stacked, hold, any}
use Rattle.rw_types_solving.proofs.Laws.{parts_apply}
use Rattle.rw_types_solving.proofs.Plains.{plain_app, parts_tys}

pub both : (a b : Bool) → (a && b) ≡ true → (a ≡ true) × (b ≡ true)
both true b e = (refl, e)
both false b e = absurd (cc)

pub and_true : (a b : Bool) → a ≡ true → b ≡ true → (a && b) ≡ true
and_true true b e f = f
and_true false b e f = absurd (cc)

pub layer_app : (v u : ℕ → Bool) (h : Head) (ts us : Tys) → is_state_layer v (app h ts) ≡ is_state_layer u (app h us)
layer_app v u h.StateT ts us = refl
layer_app v u _ ts us = refl

layer_back : (v : ℕ → Bool) (t : ℕ → Ty) (c : Ty) → is_state_layer v (apply t c) ≡ true → is_state_layer any c ≡ true
layer_back v t (var x) e = refl
layer_back v t (app h ts) e = layer_app any v h ts (apply_in t ts) ∙ e

part_back : (v u : ℕ → Bool) (first : Bool) (t : ℕ → Ty) (c : Ty) → (is_state_monad v u (apply t c) ≡ true → is_state_monad any u c ≡ true)
    → cond first (is_state_layer v (apply t c)) (is_state_monad v u (apply t c)) ≡ true → cond first (is_state_layer any c) (is_state_monad any u c) ≡ true
part_back v u true t c i e = layer_back v t c e
part_back v u false t c i e = i e

mutual
  pub state_back : (v u : ℕ → Bool) (t : ℕ → Ty) (c : Ty) → is_state_monad v u (apply t c) ≡ true → is_state_monad any u c ≡ true
  state_back v u t (var x) e = refl
  state_back v u t (app h ts) e =
      let b = both (is_state_head u h (parts (apply_in t ts))) (are_stacked v u true (apply_in t ts)) e in
      and_true (is_state_head u h (parts ts)) (are_stacked any u true ts) (ap (is_state_head u h) (sym (parts_apply t ts)) ∙ b.0) (stacked_back v u t true ts b.1)

  pub stacked_back : (v u : ℕ → Bool) (t : ℕ → Ty) (first : Bool) (ts : Tys) → are_stacked v u first (apply_in t ts) ≡ true → are_stacked any u first ts ≡ true
  stacked_back v u t first none e = refl
  stacked_back v u t first (more c ts) e =
      let b = both (cond first (is_state_layer v (apply t c)) (is_state_monad v u (apply t c))) (are_stacked v u false (apply_in t ts)) e in
      and_true (cond first (is_state_layer any c) (is_state_monad any u c)) (are_stacked any u false ts) (part_back v u first t c (state_back v u t c) b.0) (stacked_back v u t false ts b.1)

-- what an instance meets, the type may meet
pub hold_back : (v u : ℕ → Bool) (t s : ℕ → Ty) (xs : List ℕ) → Agrees t s → hold v u t xs ≡ true → hold any u s xs ≡ true
hold_back v u t s [] a e = refl
hold_back v u t s (x ∷ xs) a e =
    let b = both (is_state_monad v u (t x)) (hold v u t xs) e in
    and_true (is_state_monad any u (s x)) (hold any u s xs) (state_back v u t (s x) (ap (is_state_monad v u) (sym (a x)) ∙ b.0)) (hold_back v u t s xs a b.1)

pub never_holds : (v u : ℕ → Bool) (t s : ℕ → Ty) (xs : List ℕ) → Agrees t s → hold any u s xs ≡ false → hold v u t xs ≡ true → ⊥
never_holds v u t s xs a f e = let b = hold_back v u t s xs a e in let c : true ≡ false = sym b ∙ f in absurd (cc)

-- as the code sees it
pub monad_then : (u : ℕ → Bool) (t : Term) (h : Head) (xs ys : List Term) (n : ℕ) (r : Bool) → t ≡ w.App h xs → n ≡ length xs → is_state_head u h n ≡ true → ys ≡ xs
    → r ≡ are_stacked any u true (tys (plains ys)) → r ≡ is_state_monad any u (plain t)
monad_then u t h xs ys n r is many head same e =
    let p : plain t ≡ app h (tys (plains xs)) = ap plain is ∙ plain_app h xs in
    let yes : is_state_head u h (parts (tys (plains xs))) ≡ true = ap (is_state_head u h) (parts_tys xs ∙ sym many) ∙ head in
    e ∙ ap (λ z. are_stacked any u true (tys (plains z))) same ∙ sym (ap (is_state_monad any u) p ∙ ap (λ b. b && are_stacked any u true (tys (plains xs))) yes)

pub monad_else : (u : ℕ → Bool) (t : Term) (h : Head) (xs : List Term) (n : ℕ) → t ≡ w.App h xs → n ≡ length xs → is_state_head u h n ≡ false → false ≡ is_state_monad any u (plain t)
monad_else u t h xs n is many head =
    let p : plain t ≡ app h (tys (plains xs)) = ap plain is ∙ plain_app h xs in
    let no : is_state_head u h (parts (tys (plains xs))) ≡ false = ap (is_state_head u h) (parts_tys xs ∙ sym many) ∙ head in
    sym (ap (is_state_monad any u) p ∙ ap (λ b. b && are_stacked any u true (tys (plains xs))) no)
