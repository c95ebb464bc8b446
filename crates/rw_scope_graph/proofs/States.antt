-- What is known of nodes after what is known of one of them changes, and how much is left to do.
use Rattle.std.proofs.Common.{◌≡◌, ◌≢◌, inl, inr, ℕ, zero, suc, ◌+◌, ◌<◌, true, false, List, [], ◌∷◌, length, set, get_or, refl, sym, ap, ◌∙◌, arith, if◌then◌else◌, get_or-set_other, get_or-set_same}
use Rattle.std.proofs.lemmas.List.{get_or_past}
use Rattle.rw_scope_graph.specs.declared.search.State.{State}
use Rattle.rw_scope_graph.specs.declared.search.State.TheVariants.{New, Held, Free}
use Rattle.rw_scope_graph.specs.Search.{state_at, new_at, held_at, is_new, is_held, is_free, new_work}
use Rattle.rw_scope_graph.proofs.Passing.{in_or_out, clash}

pub held_within : (states : List State) (i : ℕ) → held_at states i ≡ true → i < length states
held_within states i h = elim (in_or_out i (length states)) [
  | inl l ↦ l
  | inr l ↦ clash (held_at states i) h (ap is_held (get_or_past states i Free l))
]

pub new_within : (states : List State) (i : ℕ) → new_at states i ≡ true → i < length states
new_within states i h = elim (in_or_out i (length states)) [
  | inl l ↦ l
  | inr l ↦ clash (new_at states i) h (ap is_new (get_or_past states i Free l))
]

pub there : (states : List State) (i : ℕ) (s : State) → i < length states → state_at (set states i s) i ≡ s
there states i s l = get_or-set_same states i s Free l

pub elsewhere : (states : List State) (i j : ℕ) (s : State) → j ≢ i → state_at (set states i s) j ≡ state_at states j
elsewhere states i j s ne = get_or-set_other states i j s Free ne

-- one state at a time
pub held_not_free : (s : State) → is_held s ≡ true → is_free s ≡ false
held_not_free New h = absurd (cc)
held_not_free Held h = refl
held_not_free Free h = absurd (cc)

pub held_not_new : (s : State) → is_held s ≡ true → is_new s ≡ false
held_not_new New h = absurd (cc)
held_not_new Held h = refl
held_not_new Free h = absurd (cc)

pub free_not_held : (s : State) → is_free s ≡ true → is_held s ≡ false
free_not_held New h = refl
free_not_held Held h = absurd (cc)
free_not_held Free h = refl

pub new_not_held : (s : State) → is_new s ≡ true → is_held s ≡ false
new_not_held New h = refl
new_not_held Held h = absurd (cc)
new_not_held Free h = absurd (cc)

pub new_not_free : (s : State) → is_new s ≡ true → is_free s ≡ false
new_not_free New h = refl
new_not_free Held h = absurd (cc)
new_not_free Free h = absurd (cc)

pub held_or_free : (s : State) → is_new s ≡ false → is_free s ≡ false → is_held s ≡ true
held_or_free New h f = absurd (cc)
held_or_free Held h f = refl
held_or_free Free h f = absurd (cc)

pub free_or_held : (s : State) → is_new s ≡ false → is_held s ≡ false → is_free s ≡ true
free_or_held New h f = absurd (cc)
free_or_held Held h f = absurd (cc)
free_or_held Free h f = refl

-- the work on new nodes, after a node that isn't new gets another state, and after a new one does
pub same_work : (rows : List (List ℕ)) (states : List State) (i : ℕ) (s : State) → new_at states i ≡ false → is_new s ≡ false → new_work rows (set states i s) ≡ new_work rows states
same_work [] states i s h e = refl
same_work (row ∷ rows) [] i s h e = refl
same_work (row ∷ rows) (t ∷ ts) zero s h e = ap (λ b. (if b then length row + 2 else 0) + new_work rows ts) (e ∙ sym h)
same_work (row ∷ rows) (t ∷ ts) (suc i) s h e = ap (λ n. (if is_new t then length row + 2 else 0) + n) (same_work rows ts i s h e)

pub less_work : (rows : List (List ℕ)) (states : List State) (i : ℕ) (s : State) → length states ≡ length rows → new_at states i ≡ true → is_new s ≡ false
    → new_work rows (set states i s) + (length (get_or rows i []) + 2) ≡ new_work rows states
less_work [] [] i s many h e = absurd (cc)
less_work [] (t ∷ ts) i s many h e = absurd (omega arith)
less_work (row ∷ rows) [] i s many h e = absurd (cc)
less_work (row ∷ rows) (t ∷ ts) zero s many h e =
    let now : (if is_new s then length row + 2 else 0) ≡ 0 = ap (λ b. if b then length row + 2 else 0) e in
    let before : (if is_new t then length row + 2 else 0) ≡ length row + 2 = ap (λ b. if b then length row + 2 else 0) h in
    omega (arith, now, before)
less_work (row ∷ rows) (t ∷ ts) (suc i) s many h e =
    let rest = less_work rows ts i s (omega arith) h e in omega (arith, rest)
