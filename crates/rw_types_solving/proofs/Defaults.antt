-- Closing keeps sorts, meets the conditions that may be met, leaves no variable, and keeps types within the bound.
use Rattle.std.proofs.Common.{◌≡◌, ℕ, zero, suc, ◌+◌, ◌<◌, ◌≤◌, Bool, true, false, cond, ◌&&◌, nat_eq, refl, sym, ◌∙◌, ap, subst, arith, inl, inr, Some, List, [], ◌∷◌, length, slice_get}
use Rattle.rw_types_solving.specs.declared.term.Head.{Head}
use Rattle.rw_types_solving.specs.declared.term.Head.TheVariants as h
use Rattle.rw_types_solving.specs.declared.term.Sort.{Sort}
use Rattle.rw_types_solving.specs.declared.term.Sort.TheVariants as s
use Rattle.rw_types_solving.specs.Types.{Ty, Tys, var, app, none, more, apply, apply_in, nodes, nodes_in, own, parts, is_known_layer, occurs}
use Rattle.rw_types_solving.specs.Sorts.{Heads, HasSort, HasSorts, Fits, part_sort}
use Rattle.rw_types_solving.specs.Tables.{most, Small, Uses}
use Rattle.rw_types_solving.specs.Conditions.{is_state_layer, is_state_monad, are_stacked, hold, any, no_one}
use Rattle.rw_types_solving.specs.Closing.{closed_as, closing_at, closing, sort_of, AreMonads}
use Rattle.rw_types_solving.proofs.Laws.{true_or_false, is_same, same_is, parts_apply, own_apply}
use Rattle.rw_types_solving.proofs.Steps.{comes_from, sort_apply}
use Rattle.rw_types_solving.proofs.StateMonads.{both, and_true, layer_app}
use Rattle.rw_types_solving.proofs.MostGeneral.{none_beyond, in_or_out}

-- a variable of the list is closed by its sort, every other stays
some_sort : (sorts : List Sort) (x : ℕ) → x < length sorts → slice_get sorts x ≡ Some (sort_of sorts x)
some_sort [] x l = absurd (omega arith)
some_sort (o ∷ os) zero l = refl
some_sort (o ∷ os) (suc x) l = some_sort os x (omega arith)

plain_beyond : (sorts : List Sort) (x : ℕ) → length sorts ≤ x → sort_of sorts x ≡ s.Plain
plain_beyond [] x l = refl
plain_beyond (o ∷ os) zero l = absurd (omega arith)
plain_beyond (o ∷ os) (suc x) l = plain_beyond os x (omega arith)

closing_inside : (sorts : List Sort) (x : ℕ) → x < length sorts → closing sorts x ≡ closed_as (sort_of sorts x)
closing_inside sorts x l = ap (closing_at x) (some_sort sorts x l)

closing_beyond : (sorts : List Sort) (x : ℕ) → length sorts ≤ x → closing sorts x ≡ var x
closing_beyond sorts x l = ap (closing_at x) (none_beyond sorts x l)

-- sorts
closed_sort : (v : ℕ → Sort) (w : Heads) (k : Sort) → HasSort v w k (closed_as k)
closed_sort v w s.Plain = (refl, tt)
closed_sort v w s.Monad = (refl, refl)
closed_sort v w s.Layer = (refl, ((refl, tt), refl))

closing_sort : (w : Heads) (sorts : List Sort) (x : ℕ) → HasSort (sort_of sorts) w (sort_of sorts x) (closing sorts x)
closing_sort w sorts x = elim (in_or_out x (length sorts)) [
  | inl l ↦ subst (HasSort (sort_of sorts) w (sort_of sorts x)) (sym (closing_inside sorts x l)) (closed_sort (sort_of sorts) w (sort_of sorts x))
  | inr l ↦ subst (HasSort (sort_of sorts) w (sort_of sorts x)) (sym (closing_beyond sorts x l)) refl
]

pub closed_sorted : (w : Heads) (sorts : List Sort) (r d : ℕ → Ty) → ((x : ℕ) → HasSort (sort_of sorts) w (sort_of sorts x) (r x)) → ((x : ℕ) → d x ≡ apply (closing sorts) (r x))
    → (x : ℕ) → HasSort (sort_of sorts) w (sort_of sorts x) (d x)
closed_sorted w sorts r d g e x =
    subst (HasSort (sort_of sorts) w (sort_of sorts x)) (sym (e x)) (sort_apply (closing sorts) (sort_of sorts) (sort_of sorts) w (sort_of sorts x) (r x) (closing_sort w sorts) (g x))

-- no variable is left
closed_has_none : (k : Sort) (y : ℕ) → occurs y (closed_as k) ≡ false
closed_has_none s.Plain y = refl
closed_has_none s.Monad y = refl
closed_has_none s.Layer y = refl

pub closed_ground : (sorts : List Sort) (n : ℕ) (a d : Ty) → length sorts ≡ n → Uses n a → d ≡ apply (closing sorts) a → (y : ℕ) → occurs y d ≡ false
closed_ground sorts n a d many u e y = elim (true_or_false (occurs y d)) [
  | inl o ↦
      let c = comes_from (closing sorts) y a (ap (occurs y) (sym e) ∙ o) in
      let l : c.0 < n = u c.0 c.1 in
      let no : occurs y (closing sorts c.0) ≡ false = ap (occurs y) (closing_inside sorts c.0 (omega arith)) ∙ closed_has_none (sort_of sorts c.0) y in
      let bad : true ≡ false = sym c.2 ∙ no in absurd (cc)
  | inr o ↦ o
]

-- conditions
abbrev pub is_first : ℕ → Bool
is_first zero = true
is_first (suc i) = false

module _ (r : ℕ → Ty) (v : ℕ → Sort) (w : Heads) (q u : ℕ → Bool) (mo : (x : ℕ) → v x ≡ s.Monad → is_state_monad q u (r x) ≡ true) (la : (x : ℕ) → v x ≡ s.Layer → is_state_layer q (r x) ≡ true) where
  layer_on : (t : Ty) → HasSort v w s.Layer t → is_state_layer any t ≡ true → is_state_layer q (apply r t) ≡ true
  layer_on (var x) g e = la x g
  layer_on (app h ts) g e = layer_app q any h (apply_in r ts) ts ∙ e

  empty_on : (ts : Tys) → nat_eq (parts ts) 0 ≡ true → are_stacked q u true (apply_in r ts) ≡ true
  empty_on none e = refl
  empty_on (more t ts) e = let no = is_same (suc (parts ts)) 0 e in absurd (omega arith)

  part_on : (i : ℕ) (t : Ty) → (HasSort v w s.Monad t → is_state_monad any u t ≡ true → is_state_monad q u (apply r t) ≡ true) → HasSort v w (part_sort h.Layer i) t
      → cond (is_first i) (is_state_layer any t) (is_state_monad any u t) ≡ true → cond (is_first i) (is_state_layer q (apply r t)) (is_state_monad q u (apply r t)) ≡ true
  part_on zero t f g e = layer_on t g e
  part_on (suc i) t f g e = f g e

  mutual
    pub state_on : (t : Ty) → HasSort v w s.Monad t → is_state_monad any u t ≡ true → is_state_monad q u (apply r t) ≡ true
    state_on (var x) g e = mo x g
    state_on (app h.I ts) g e =
        let b = both (nat_eq (parts ts) 0) (are_stacked any u true ts) e in
        and_true (nat_eq (parts (apply_in r ts)) 0) (are_stacked q u true (apply_in r ts)) (ap (λ n. nat_eq n 0) (parts_apply r ts) ∙ b.0) (empty_on ts b.0)
    state_on (app (h.Unknown m) ts) g e =
        let b = both (u m && nat_eq (parts ts) 0) (are_stacked any u true ts) e in
        let c = both (u m) (nat_eq (parts ts) 0) b.0 in
        and_true (u m && nat_eq (parts (apply_in r ts)) 0) (are_stacked q u true (apply_in r ts)) (ap (λ n. u m && nat_eq n 0) (parts_apply r ts) ∙ b.0) (empty_on ts c.1)
    state_on (app h.Layer ts) g e =
        let b = both (nat_eq (parts ts) 2) (are_stacked any u true ts) e in
        and_true (nat_eq (parts (apply_in r ts)) 2) (are_stacked q u true (apply_in r ts)) (ap (λ n. nat_eq n 2) (parts_apply r ts) ∙ b.0) (stacked_on 0 ts g.1 b.1)
    state_on (app _ ts) g e = absurd (cc)

    pub stacked_on : (i : ℕ) (ts : Tys) → HasSorts v w h.Layer i ts → are_stacked any u (is_first i) ts ≡ true → are_stacked q u (is_first i) (apply_in r ts) ≡ true
    stacked_on i none g e = refl
    stacked_on i (more t ts) g e =
        let b = both (cond (is_first i) (is_state_layer any t) (is_state_monad any u t)) (are_stacked any u false ts) e in
        and_true (cond (is_first i) (is_state_layer q (apply r t)) (is_state_monad q u (apply r t))) (are_stacked q u false (apply_in r ts)) (part_on i t (state_on t) g.0 b.0)
        (stacked_on (suc i) ts g.1 b.1)

closed_monad : (u : ℕ → Bool) (sorts : List Sort) (x : ℕ) → sort_of sorts x ≡ s.Monad → is_state_monad no_one u (closing sorts x) ≡ true
closed_monad u sorts x e = elim (in_or_out x (length sorts)) [
  | inl l ↦ ap (is_state_monad no_one u) (closing_inside sorts x l ∙ ap closed_as e)
  | inr l ↦ let c : s.Plain ≡ s.Monad = sym (plain_beyond sorts x l) ∙ e in absurd (cc)
]

closed_layer : (sorts : List Sort) (x : ℕ) → sort_of sorts x ≡ s.Layer → is_state_layer no_one (closing sorts x) ≡ true
closed_layer sorts x e = elim (in_or_out x (length sorts)) [
  | inl l ↦ ap (is_state_layer no_one) (closing_inside sorts x l ∙ ap closed_as e)
  | inr l ↦ let c : s.Plain ≡ s.Layer = sym (plain_beyond sorts x l) ∙ e in absurd (cc)
]

pub closed_holds : (w : Heads) (u : ℕ → Bool) (sorts : List Sort) (r d : ℕ → Ty) (xs : List ℕ) → ((x : ℕ) → HasSort (sort_of sorts) w (sort_of sorts x) (r x))
    → ((x : ℕ) → d x ≡ apply (closing sorts) (r x)) → AreMonads (sort_of sorts) xs → hold any u r xs ≡ true → hold no_one u d xs ≡ true
closed_holds w u sorts r d [] g e a b = refl
closed_holds w u sorts r d (x ∷ xs) g e a b =
    let p = both (is_state_monad any u (r x)) (hold any u r xs) b in
    let of_monad : HasSort (sort_of sorts) w s.Monad (r x) = subst (λ k. HasSort (sort_of sorts) w k (r x)) a.0 (g x) in
    let one = state_on (closing sorts) (sort_of sorts) w no_one u (closed_monad u sorts) (closed_layer sorts) (r x) of_monad p.0 in
    and_true (is_state_monad no_one u (d x)) (hold no_one u d xs) (ap (is_state_monad no_one u) (e x) ∙ one) (closed_holds w u sorts r d xs g e a.1 p.1)

-- nodes
abbrev pub layer_one : Sort → ℕ
layer_one s.Layer = 1
layer_one _ = 0

abbrev pub bare : Ty → Sort → ℕ
bare (var x) k = layer_one k
bare (app h ts) k = 0

bare_zero : (t : Ty) (k : Sort) → layer_one k ≡ 0 → bare t k ≡ 0
bare_zero (var x) k e = e
bare_zero (app h ts) k e = refl

fits_parts : (v : ℕ → Sort) (w : Heads) (g : Head) (i : ℕ) (ts : Tys) → HasSorts v w g i ts → Fits w g (i + parts ts)
fits_parts v w g i none f = subst (Fits w g) (omega arith) f
fits_parts v w g i (more t ts) f = subst (Fits w g) (omega arith) (fits_parts v w g (suc i) ts f.1)

two_parts : (a : ℕ) → suc a ≡ 2 → nat_eq a 1 ≡ true
two_parts a e = same_is a 1 (omega arith)

layer_free : (j : ℕ) → 1 ≤ j → layer_one (part_sort h.Layer j) ≡ 0
layer_free zero l = absurd (omega arith)
layer_free (suc j) l = refl

comp_free : (j : ℕ) → 0 ≤ j → layer_one (part_sort h.Comp j) ≡ 0
comp_free zero l = refl
comp_free (suc j) l = refl

module _ (r : ℕ → Ty) (v : ℕ → Sort) (w : Heads) (one : (x : ℕ) → nodes (r x) ≡ 1 + layer_one (v x)) (known : (x : ℕ) → v x ≡ s.Layer → is_known_layer (r x) ≡ true) where
  layer_nodes : (l : Ty) (ms : Tys) → HasSort v w s.Layer l → HasSorts v w h.Layer 1 ms → nodes (apply r l) ≡ nodes l + bare l s.Layer → nodes_in (apply_in r ms) ≡ nodes_in ms
      → nodes (apply r l) + nodes_in (apply_in r ms) + own h.Layer (more (apply r l) (apply_in r ms)) ≡ nodes l + nodes_in ms + own h.Layer (more l ms)
  layer_nodes (var x) ms g f i j =
      let k = known x g in
      let p = fits_parts v w h.Layer 1 ms f in
      let m = parts_apply r ms in
      let two : nat_eq (parts (apply_in r ms)) 1 ≡ true = ap (λ n. nat_eq n 1) m ∙ two_parts (parts ms) (omega arith) in
      let none_left : own h.Layer (more (r x) (apply_in r ms)) ≡ 0 = rw (k, two) refl in
      omega arith
  layer_nodes (app k us) ms g f i j = let e = own_apply r k us ms in omega arith

  mutual
    pub same_nodes : (k : Sort) (c : Ty) → HasSort v w k c → nodes (apply r c) ≡ nodes c + bare c k
    same_nodes k (var x) g = subst (λ z. nodes (r x) ≡ 1 + layer_one z) g (one x)
    same_nodes k (app h.Layer none) g = omega arith
    same_nodes k (app h.Layer (more l ms)) g =
        let e = layer_nodes l ms g.1.0 g.1.1 (same_nodes s.Layer l g.1.0) (same_parts h.Layer 1 ms layer_free g.1.1) in omega arith
    same_nodes k (app h.Comp ts) g = let e = same_parts h.Comp 0 ts comp_free g.1 in omega arith
    same_nodes k (app h.Tuple ts) g = let e = same_parts h.Tuple 0 ts (λ j l. refl) g.1 in omega arith
    same_nodes k (app h.Fun ts) g = let e = same_parts h.Fun 0 ts (λ j l. refl) g.1 in omega arith
    same_nodes k (app (h.Data m) ts) g = let e = same_parts (h.Data m) 0 ts (λ j l. refl) g.1 in omega arith
    same_nodes k (app h.I ts) g = let e = same_parts h.I 0 ts (λ j l. refl) g.1 in omega arith
    same_nodes k (app h.StateT ts) g = let e = same_parts h.StateT 0 ts (λ j l. refl) g.1 in omega arith
    same_nodes k (app h.ReT ts) g = let e = same_parts h.ReT 0 ts (λ j l. refl) g.1 in omega arith
    same_nodes k (app (h.Unknown m) ts) g = let e = same_parts (h.Unknown m) 0 ts (λ j l. refl) g.1 in omega arith

    pub same_parts : (g : Head) (i : ℕ) (ts : Tys) → ((j : ℕ) → i ≤ j → layer_one (part_sort g j) ≡ 0) → HasSorts v w g i ts → nodes_in (apply_in r ts) ≡ nodes_in ts
    same_parts g i none free f = refl
    same_parts g i (more t ts) free f =
        let a = same_nodes (part_sort g i) t f.0 in
        let z = bare_zero t (part_sort g i) (free i (omega arith)) in
        let b = same_parts g (suc i) ts (λ j l. free j (omega arith)) f.1 in omega arith

closed_one : (k : Sort) → nodes (closed_as k) ≡ 1 + layer_one k
closed_one s.Plain = refl
closed_one s.Monad = refl
closed_one s.Layer = refl

closing_one : (sorts : List Sort) (x : ℕ) → nodes (closing sorts x) ≡ 1 + layer_one (sort_of sorts x)
closing_one sorts x = elim (in_or_out x (length sorts)) [
  | inl l ↦ ap nodes (closing_inside sorts x l) ∙ closed_one (sort_of sorts x)
  | inr l ↦ ap nodes (closing_beyond sorts x l) ∙ sym (ap (λ k. 1 + layer_one k) (plain_beyond sorts x l))
]

closing_known : (sorts : List Sort) (x : ℕ) → sort_of sorts x ≡ s.Layer → is_known_layer (closing sorts x) ≡ true
closing_known sorts x e = elim (in_or_out x (length sorts)) [
  | inl l ↦ ap is_known_layer (closing_inside sorts x l ∙ ap closed_as e)
  | inr l ↦ let c : s.Plain ≡ s.Layer = sym (plain_beyond sorts x l) ∙ e in absurd (cc)
]

layer_most : (k : Sort) → layer_one k ≤ 1
layer_most s.Layer = omega arith
layer_most _ = omega arith

bare_small : (c : Ty) (k : Sort) → nodes c ≤ most → nodes c + bare c k ≤ most
bare_small (var x) k l = let m = layer_most k in omega arith
bare_small (app h ts) k l = omega arith

pub closed_small : (w : Heads) (sorts : List Sort) (n : ℕ) (r d : ℕ → Ty) → ((x : ℕ) → HasSort (sort_of sorts) w (sort_of sorts x) (r x)) → ((x : ℕ) → d x ≡ apply (closing sorts) (r x))
    → Small n r → Small n d
closed_small w sorts n r d g e small x l =
    let a = same_nodes (closing sorts) (sort_of sorts) w (closing_one sorts) (closing_known sorts) (sort_of sorts x) (r x) (g x) in
    let b = bare_small (r x) (sort_of sorts x) (small x l) in
    let c : nodes (d x) ≡ nodes (apply (closing sorts) (r x)) = ap nodes (e x) in omega arith
