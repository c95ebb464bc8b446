-- The slots of inputs, and what their alternatives lead to.
use Rattle.std.proofs.Common.{◌≡◌, ℕ, zero, suc, ◌+◌, ◌<◌, Bool, true, false, cond, not, ◌||◌, List, [], ◌∷◌, ◌++◌, length, get_or, set, replicate, map, Option, Some, None, is_some, refl, sym, ap, ◌∙◌, arith, rules, nat_eq, nat_lt}
use Rattle.std.specs.Prelude.{find, position, ok_or, Result}
use Rattle.std.specs.List.{list_any, position_or_len}
use Rattle.std.specs.Option.{option_map}
use Rattle.std.proofs.lemmas.Bool.Decides.{nat_tests}
use Rattle.rw_base.specs.Answers.{Unread}
use Rattle.rw_base.specs.declared.fail.Failure.TheVariants as fail
use Rattle.explicit_form.specs.Judged.{Judges}
use Rattle.explicit_form.specs.Fit.{entry_for, entries_from}

next_within : (i n : ℕ) → nat_lt i n ≡ nat_lt (1 + i) (suc n)
next_within i n = grind (arith, nat_tests)

within_of : (i n : ℕ) → nat_lt i n ≡ true → i < n
within_of i n h = grind (arith, nat_tests)

-- a list has what passes a test exactly where the place of the first such lies within it
any_within : {A : Type 0} (p : A → Bool) (xs : List A) → list_any p xs ≡ nat_lt (position_or_len p xs) (length xs)
any_within p [] = search (rules, nat_tests)
any_within p (x ∷ xs) =
    let cases : (b : Bool) → (b || list_any p xs) ≡ nat_lt (cond (not b) (1 + position_or_len p xs) 0) (suc (length xs)) =
    λ (b : Bool). elim b as (λ v. (v || list_any p xs) ≡ nat_lt (cond (not v) (1 + position_or_len p xs) 0) (suc (length xs))) [
      | true ↦ search (rules, nat_tests)
      | false ↦ any_within p xs ∙ next_within (position_or_len p xs) (length xs)
    ] in
    cases (p x)

pub place_within : {A : Type 0} (p : A → Bool) (xs : List A) → list_any p xs ≡ true → position_or_len p xs < length xs
place_within p xs h = within_of (position_or_len p xs) (length xs) (sym (any_within p xs) ∙ h)

judged_by : (r : Result ℕ Unread) (any b : Bool) (i : ℕ) → r ≡ ok_or (cond b (Some i) None) (fail.Refused (record {})) → any ≡ b → Judges r any (λ j. j ≡ i)
judged_by r any true i e h = rw e (h, refl)
judged_by r any false i e h = rw e h

pub place_judged : {A : Type 0} (p : A → Bool) (xs : List A) (r : Result ℕ Unread) → r ≡ ok_or (position p xs) (fail.Refused (record {})) → Judges r (list_any p xs) (λ j. j ≡ position_or_len p xs)
place_judged p xs r e = judged_by r (list_any p xs) (nat_lt (position_or_len p xs) (length xs)) (position_or_len p xs) e (any_within p xs)

pub length-entries : (first n : ℕ) (es : List (ℕ × ℕ)) → length (entries_from first n es) ≡ n
length-entries first zero es = refl
length-entries first (suc n) es = ap suc (length-entries (first + 1) n es)

pub no_entries : (first n : ℕ) → entries_from first n [] ≡ replicate n None
no_entries first zero = refl
no_entries first (suc n) = ap (λ l. None ∷ l) (no_entries (first + 1) n)

-- the slot of an input
pub entry_at : (first n j i : ℕ) (es : List (ℕ × ℕ)) → j < n → i ≡ first + j → get_or (entries_from first n es) j None ≡ entry_for i es
entry_at first zero j i es h e = absurd (omega arith)
entry_at first (suc n) zero i es h e = ap (λ k. entry_for k es) (omega arith)
entry_at first (suc n) (suc j) i es h e = entry_at (first + 1) n j i es (omega arith) (omega arith)

-- an entry for another input
entry_beside : (k i t : ℕ) (es : List (ℕ × ℕ)) → nat_eq k i ≡ false → entry_for k (es ++ (i, t) ∷ []) ≡ entry_for k es
entry_beside k i t [] h = rw h
entry_beside k i t (e ∷ es) h =
    let cases : (b : Bool) → option_map (λ (x : ℕ × ℕ). x.1) (cond b (Some e) (find (λ (x : ℕ × ℕ). nat_eq k x.0) (es ++ (i, t) ∷ []))) ≡ option_map (λ (x : ℕ × ℕ). x.1) (cond b (Some e) (find (λ (x : ℕ × ℕ). nat_eq k x.0) es)) =
    λ (b : Bool). elim b as (λ v. option_map (λ (x : ℕ × ℕ). x.1) (cond v (Some e) (find (λ (x : ℕ × ℕ). nat_eq k x.0) (es ++ (i, t) ∷ []))) ≡ option_map (λ (x : ℕ × ℕ). x.1) (cond v (Some e) (find (λ (x : ℕ × ℕ). nat_eq k x.0) es)))
    [ true ↦ refl | false ↦ entry_beside k i t es h ] in
    cases (nat_eq k e.0)

same_number : (i : ℕ) → nat_eq i i ≡ true
same_number i = grind (arith, nat_tests)

other_number : (i k : ℕ) → i < k → nat_eq k i ≡ false
other_number i k h = grind (arith, nat_tests)

smaller_number : (i k : ℕ) → k < i → nat_eq k i ≡ false
smaller_number i k h = grind (arith, nat_tests)

-- the first entry for an input
entry_new : (i t : ℕ) (es : List (ℕ × ℕ)) → entry_for i es ≡ None → entry_for i (es ++ (i, t) ∷ []) ≡ Some t
entry_new i t [] h = rw (same_number i)
entry_new i t (e ∷ es) h =
    let f : ℕ × ℕ → ℕ = λ x. x.1 in
    let rest : Option (ℕ × ℕ) = find (λ (x : ℕ × ℕ). nat_eq i x.0) es in
    let more : Option (ℕ × ℕ) = find (λ (x : ℕ × ℕ). nat_eq i x.0) (es ++ (i, t) ∷ []) in
    let cases : (b : Bool) → option_map (λ (x : ℕ × ℕ). x.1) (cond b (Some e) (find (λ (x : ℕ × ℕ). nat_eq i x.0) es)) ≡ None
    → option_map (λ (x : ℕ × ℕ). x.1) (cond b (Some e) (find (λ (x : ℕ × ℕ). nat_eq i x.0) (es ++ (i, t) ∷ []))) ≡ Some t =
    λ (b : Bool). elim b as (λ v. option_map (λ (x : ℕ × ℕ). x.1) (cond v (Some e) (find (λ (x : ℕ × ℕ). nat_eq i x.0) es)) ≡ None
    → option_map (λ (x : ℕ × ℕ). x.1) (cond v (Some e) (find (λ (x : ℕ × ℕ). nat_eq i x.0) (es ++ (i, t) ∷ []))) ≡ Some t)
    [ true ↦ λ g. absurd (cc) | false ↦ λ g. entry_new i t es g ] in
    cases (nat_eq i e.0) h

entries_beside : (first n i t : ℕ) (es : List (ℕ × ℕ)) → i < first → entries_from first n (es ++ (i, t) ∷ []) ≡ entries_from first n es
entries_beside first zero i t es h = refl
entries_beside first (suc n) i t es h = rw (entry_beside first i t es (other_number i first h), entries_beside (first + 1) n i t es (omega arith))

-- one entry more fills its slot
entries_set : (first n j i t : ℕ) (es : List (ℕ × ℕ)) → j < n → i ≡ first + j → entry_for i es ≡ None
    → entries_from first n (es ++ (i, t) ∷ []) ≡ set (entries_from first n es) j (Some t)
entries_set first zero j i t es h e free = absurd (omega arith)
entries_set first (suc n) zero i t es h e free =
    let here : i ≡ first = omega arith in
    ap (λ k. entry_for k (es ++ (i, t) ∷ []) ∷ entries_from (first + 1) n (es ++ (i, t) ∷ [])) (sym here)
    ∙ ap (λ o. o ∷ entries_from (first + 1) n (es ++ (i, t) ∷ [])) (entry_new i t es free)
    ∙ ap (λ l. Some t ∷ l) (entries_beside (first + 1) n i t es (omega arith))
entries_set first (suc n) (suc j) i t es h e free =
    rw (entry_beside first i t es (smaller_number i first (omega arith)), entries_set (first + 1) n j i t es (omega arith) (omega arith) free)

is_empty : {A : Type 0} (o : Option A) → not (is_some o) ≡ true → o ≡ None
is_empty None h = refl
is_empty (Some a) h = absurd (cc)

pub slots_step : (n i t : ℕ) (es : List (ℕ × ℕ)) (slots : List (Option ℕ)) → slots ≡ entries_from 0 n es → i < n → not (is_some (get_or slots i None)) ≡ true
    → set slots i (Some t) ≡ entries_from 0 n (es ++ (i, t) ∷ [])
slots_step n i t es slots e h free =
    let at : get_or slots i None ≡ entry_for i es = ap (λ l. get_or l i None) e ∙ entry_at 0 n i i es h (omega arith) in
    ap (λ l. set l i (Some t)) e ∙ sym (entries_set 0 n i i t es h (omega arith) (sym at ∙ is_empty _ free))

-- an input has an entry exactly where one is for it
entry_seen : (i : ℕ) (es : List (ℕ × ℕ)) → list_any (nat_eq i) (map (λ e. e.0) es) ≡ is_some (entry_for i es)
entry_seen i [] = refl
entry_seen i (e ∷ es) =
    let cases : (b : Bool) → (b || list_any (nat_eq i) (map (λ (x : ℕ × ℕ). x.0) es)) ≡ is_some (option_map (λ (x : ℕ × ℕ). x.1) (cond b (Some e) (find (λ (x : ℕ × ℕ). nat_eq i x.0) es))) =
    λ (b : Bool). elim b as (λ v. (v || list_any (nat_eq i) (map (λ (x : ℕ × ℕ). x.0) es)) ≡ is_some (option_map (λ (x : ℕ × ℕ). x.1) (cond v (Some e) (find (λ (x : ℕ × ℕ). nat_eq i x.0) es))))
    [ true ↦ refl | false ↦ entry_seen i es ] in
    cases (nat_eq i e.0)

pub slot_seen : (n i : ℕ) (es : List (ℕ × ℕ)) (slots : List (Option ℕ)) → slots ≡ entries_from 0 n es → i < n
    → not (list_any (nat_eq i) (map (λ e. e.0) es)) ≡ not (is_some (get_or slots i None))
slot_seen n i es slots e h =
    ap not (entry_seen i es ∙ ap is_some (sym (ap (λ l. get_or l i None) e ∙ entry_at 0 n i i es h (omega arith))))
