-- Run after run: what one run gives, and what is left to read behind it.
use Rattle.std.proofs.Common.{◌≡◌, ◌∙◌, ℕ, zero, suc, ◌+◌, ◌<◌, ◌≤◌, true, List, [], ◌∷◌, length, length-drop, take, drop, get_or, Option, Some, None, Result, Ok, Err, refl, sym, ap, arith, ◌⊎◌, inl, inr}
use Rattle.std.proofs.lemmas.Bool.{cases_Bool}
use Rattle.std.proofs.lemmas.Grind.{common_steps}
use Rattle.rw_base.specs.declared.place.Place.{Place}
use Rattle.rw_base.specs.Answers.{Fail}
use Rattle.rw_base.specs.declared.fail.Failure.TheVariants as fail
use Rattle.rw_parser_grammar.specs.declared.item.Item.{Item}
use Rattle.rw_parser_grammar.specs.declared.lexeme.Mark.TheVariants as m
use Rattle.rw_parser_grammar.specs.declared.lexeme.Lexeme.{Lexeme}
use Rattle.rw_parser_grammar.specs.Grammar.{whole_run}
use Rattle.rw_parser_grammar.specs.Lexemes.{next_spot}
use Rattle.rw_parser_reading.specs.Read.{sees}
use Rattle.rw_parser_reading.specs.ReadProgram.{run_at, runs_at, items_at}
use Rattle.rw_parser.specs.Shallow.{Kept, with_kept, kept_behind}
use Rattle.rw_parser.proofs.Runs.{whole_taken, one_run, last_run, no_run, runs_left}
use Rattle.rw_parser.specs.Reading.{run_kept, KeepsAll, KeepsRun}
use Rattle.rw_parser.proofs.Spelled.{run_next, run_refused}

-- ---- one run

some_taken : (ts : List Lexeme) (k : ℕ) → k < length ts → ((k ≡ 0) → ⊥) → (take k ts ≡ []) → ⊥
some_taken [] k l some e = absurd (omega arith)
some_taken (x ∷ xs) zero l some e = some refl
some_taken (x ∷ xs) (suc k) l some e = cc

first_taken : (ts : List Lexeme) (k : ℕ) → k < length ts → ((k ≡ 0) → ⊥) → next_spot ts ≡ next_spot (take k ts)
first_taken [] k l some = absurd (omega arith)
first_taken (x ∷ xs) zero l some = absurd (some refl)
first_taken (x ∷ xs) (suc k) l some = refl

pub taken_within : (ts : List Lexeme) (k n : ℕ) → k < length ts → k < n → length (take (k + 1) ts) ≤ n
taken_within ts k n l m = grind (arith, common_steps)

none_taken : (ts : List Lexeme) (k : ℕ) → k ≡ 0 → take k ts ≡ []
none_taken ts k e = rw e refl

-- the token behind a run, by its index
dropped : (ts : List Lexeme) (k : ℕ) (x : Lexeme) → k < length ts → x ≡ get_or ts k x → drop k ts ≡ x ∷ drop (k + 1) ts
dropped ts k x l f = grind (arith, common_steps)

pub index_is : (ts : List Lexeme) (k : ℕ) (x end : Lexeme) → k < length ts → x ≡ get_or ts k x → drop k ts ≡ end ∷ drop (k + 1) ts → x ≡ end
index_is ts k x end l f e = let g = dropped ts k x l f in cc

-- a run of nothing
pub nothing_next : (n : ℕ) (ts : List Lexeme) (k : ℕ) (end : Lexeme) (before : Kept) → k ≡ 0 → KeepsRun n (take k ts, end) before (Ok before)
nothing_next n ts k end before e = λ runs. ap (λ z. kept_behind before (items_at n ((z, end) ∷ runs))) (none_taken ts k e)

module _ (n : ℕ) (ts : List Lexeme) (k : ℕ) (end : Lexeme) (place : Place) (before : Kept) (l : k < length ts) (some : (k ≡ 0) → ⊥) (first : place ≡ (next_spot ts).place) (small : k < n) (e : drop k ts ≡ end ∷ drop (k + 1) ts) where
  pub whole : take (k + 1) ts ≡ whole_run (take k ts) end
  whole = whole_taken ts k end l e

  within : length (whole_run (take k ts) end) ≤ n
  within = let f = ap length whole in let h = taken_within ts k n l small in omega arith

  place_is : place ≡ (next_spot (take k ts)).place
  place_is = first ∙ ap (λ z. z.place) (first_taken ts k l some)

  pub kept_next : (o : Option Item) (after : Kept) → run_kept n (take k ts) end ≡ Some o → after ≡ with_kept before place o → KeepsRun n (take k ts, end) before (Ok after)
  kept_next o after f g = λ runs. run_next n (take k ts) end place before within (some_taken ts k l some) place_is runs o f ∙ ap (λ z. kept_behind z (items_at n runs)) (sym g)

  pub refused_next : run_kept n (take k ts) end ≡ None → (runs : List (List Lexeme × Lexeme)) → kept_behind before (items_at n ((take k ts, end) ∷ runs)) ≡ Err place
  refused_next f runs = run_refused n (take k ts) end place before within (some_taken ts k l some) place_is runs f

-- ---- run after run

-- the tokens from here on are these runs, or no token and no run is left
abbrev pub Left : List Lexeme → List (List Lexeme × Lexeme) → Type 0
Left ts runs = ((ts ≡ []) × (runs ≡ [])) ⊎ ((n : ℕ) × (runs_at n ts ≡ Some runs))

last_rest : (n : ℕ) (ts run : List Lexeme) (end : Lexeme) (rest : List Lexeme) (runs : List (List Lexeme × Lexeme)) → runs_at (suc n) ts ≡ Some runs → run_at 0 ts ≡ Some (run, (end, rest)) → sees m.ClosesBlock (end ∷ []) ≡ true → rest ≡ []
unfolding runs_at
last_rest n ts run end [] runs e r c = refl
last_rest n ts run end (x ∷ rest) runs e r c = let f : None ≡ Some runs = rw (r, c) at e in absurd (cc)

module _ (ts run : List Lexeme) (end : Lexeme) (rest : List Lexeme) (runs : List (List Lexeme × Lexeme)) (r : run_at 0 ts ≡ Some (run, (end, rest))) where
  -- a run, and what is left behind it
  Next : Type 0
  Next = (others : List (List Lexeme × Lexeme)) × (runs ≡ (run, end) ∷ others) × Left rest others

  next_of : (n : ℕ) → runs_at n ts ≡ Some runs → Next
  unfolding Next
  next_of zero e = absurd (runs_left zero ts runs refl e)
  next_of (suc n) e =
      elim (cases_Bool (sees m.ClosesBlock (end ∷ []))) [
        | inl h ↦ ([], last_run n ts run end rest runs e r h, inl (last_rest n ts run end rest runs e r h, refl))
        | inr h ↦ let p = one_run n ts run end rest runs e r h in (p.0, p.1, inr (n, p.2))
      ]

  pub left_next : Left ts runs → (others : List (List Lexeme × Lexeme)) × (runs ≡ (run, end) ∷ others) × Left rest others
  unfolding Next
  left_next (inl h) = absurd (let f : None ≡ Some (run, (end, rest)) = ap (run_at 0) (sym h.0) ∙ r in cc)
  left_next (inr h) = next_of h.0 h.1

pub rest_shorter : (ts rest : List Lexeme) (k n : ℕ) → rest ≡ drop k ts → length ts ≤ n → length rest ≤ n
rest_shorter ts rest k n e l = rw e (omega (arith, length-drop k ts))

-- no run begins: none is left
pub left_none : (ts : List Lexeme) (runs : List (List Lexeme × Lexeme)) → run_at 0 ts ≡ None → Left ts runs → runs ≡ []
left_none ts runs r (inl h) = h.1
left_none ts runs r (inr h) = absurd (no_run h.0 ts runs h.1 r)

-- a run that spells no item
pub left_refused : (n : ℕ) (run : List Lexeme × Lexeme) (before : Kept) (e : Fail) (others : List (List Lexeme × Lexeme)) (found : Result Kept Place) → KeepsRun n run before (Err e) → kept_behind before (items_at n (run ∷ others)) ≡ found → KeepsAll (Err e) found
left_refused n run before (fail.Refused refusal) others found h e = (h.0, sym e ∙ h.1 others)
left_refused n run before fail.OutOfMemory others found h e = tt
