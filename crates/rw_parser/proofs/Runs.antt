-- Runs of tokens, by how many there are in them.
use Rattle.std.proofs.Common.{cond, ◌≡◌, ◌∙◌, ℕ, zero, suc, ◌+◌, ◌-◌, ◌<◌, ◌≤◌, Bool, true, false, List, [], ◌∷◌, ◌++◌, length, take, drop, get_or, is_some, Option, Some, None, Result, Ok, Err, refl, sym, ap, arith, append_assoc, append-nil, add-one, nat_eq, ◌&&◌, inl, inr}
use Rattle.std.proofs.lemmas.Grind.{common_steps}
use Rattle.std.proofs.lemmas.Bool.{cases_Bool}
use Rattle.std.proofs.lemmas.Bool.Decides.{nat_tests}
use Rattle.rw_parser_grammar.specs.declared.lexeme.Mark.{Mark}
use Rattle.rw_parser_grammar.specs.declared.lexeme.Mark.TheVariants as m
use Rattle.rw_parser_grammar.specs.declared.lexeme.Spot.{Spot}
use Rattle.rw_parser_grammar.specs.declared.lexeme.Lexeme.{Lexeme}
use Rattle.rw_parser_grammar.specs.declared.lexeme.Lexeme.TheVariants as t
use Rattle.rw_parser_grammar.specs.Grammar.{whole_run}
use Rattle.rw_parser_reading.specs.Read.{◌>>=◌, same_mark, sees}
use Rattle.rw_parser_reading.proofs.ReadExact.{bind_some, some_is, chosen, is_same}
use Rattle.rw_parser_reading.specs.ReadProgram.{Run, run_before, run_at, is_none, runs_at}
use Rattle.rw_parser.specs.Runs.{depth_after, Ends}

-- tokens before a run
abbrev pub behind : List Lexeme → Option Run → Option Run
behind front None = None
behind front (Some r) = Some (front ++ r.0, r.1)

pub behind_none : (r : Option Run) → behind [] r ≡ r
behind_none None = refl
behind_none (Some r) = refl

pub one_more : (front : List Lexeme) (x : Lexeme) (r : Option Run) → behind (front ++ x ∷ []) r ≡ behind front (run_before x r)
one_more front x None = refl
one_more front x (Some r) = ap (λ z. Some (z, r.1)) (append_assoc front (x ∷ []) r.0)

-- a run and the token that ends it
pub whole_is : (run : List Lexeme) (end : Lexeme) → whole_run run end ≡ run ++ end ∷ []
whole_is [] end = refl
whole_is (x ∷ xs) end = ap (λ z. x ∷ z) (whole_is xs end)

pub whole_taken : (ts : List Lexeme) (k : ℕ) (end : Lexeme) → k < length ts → drop k ts ≡ end ∷ drop (k + 1) ts → take (k + 1) ts ≡ whole_run (take k ts) end
whole_taken ts k end l e =
    let f : take (k + 1) ts ≡ take k ts ++ end ∷ [] = taken_more ts k end l e in
    f ∙ sym (whole_is (take k ts) end)
  where
    taken_more : (ts : List Lexeme) (k : ℕ) (end : Lexeme) → k < length ts → drop k ts ≡ end ∷ drop (k + 1) ts → take (k + 1) ts ≡ take k ts ++ end ∷ []
    taken_more [] k end l e = absurd (omega arith)
    taken_more (x ∷ xs) zero end l e = let f : x ≡ end = cc in ap (λ z. z ∷ []) f
    taken_more (x ∷ xs) (suc k) end l e =
        let s : suc k + 1 ≡ suc (k + 1) = omega arith in
        let h : drop k xs ≡ end ∷ drop (k + 1) xs = e ∙ ap (λ z. end ∷ drop z (x ∷ xs)) s in
        ap (λ z. take z (x ∷ xs)) s ∙ ap (λ z. x ∷ z) (taken_more xs k end (omega arith) h)

-- ---- one token

-- what one token makes of a run
abbrev pub by_depth : Lexeme → List Lexeme → Option ℕ → Option Run
by_depth x ts None = Some ([], (x, ts))
by_depth x ts (Some d) = run_before x (run_at d ts)

not_zero : (d : ℕ) → nat_eq (suc d) 0 ≡ false
not_zero d = grind (arith, nat_tests)

opens_one : (d : ℕ) (w : Spot) (a : Mark) (ts : List Lexeme) → same_mark a m.OpensBlock ≡ true → run_at d (t.Mark w a ∷ ts) ≡ by_depth (t.Mark w a) ts (depth_after d (t.Mark w a))
opens_one d w a ts h = let s : d + 1 ≡ suc d = omega arith in rw (h, s) refl

closes_one : (d : ℕ) (w : Spot) (a : Mark) (ts : List Lexeme) → same_mark a m.OpensBlock ≡ false → same_mark a m.ClosesBlock ≡ true → run_at d (t.Mark w a ∷ ts) ≡ by_depth (t.Mark w a) ts (depth_after d (t.Mark w a))
closes_one zero w a ts h k = let e : a ≡ m.ClosesBlock = is_same a m.ClosesBlock k in rw (h, k) (ap (λ z. Some ([], (t.Mark w z, ts))) (sym e))
closes_one (suc d) w a ts h k =
    let e : a ≡ m.ClosesBlock = is_same a m.ClosesBlock k in
    let s : suc d - 1 ≡ d = omega arith in
    rw (h, k) (ap (λ z. run_before (t.Mark w z) (run_at d ts)) (sym e) ∙ sym (ap (λ z. by_depth (t.Mark w a) ts (cond z None (Some (suc d - 1)))) (not_zero d) ∙ ap (λ z. by_depth (t.Mark w a) ts (Some z)) s))

semicolon_one : (d : ℕ) (w : Spot) (a : Mark) (ts : List Lexeme) → same_mark a m.OpensBlock ≡ false → same_mark a m.ClosesBlock ≡ false → same_mark a m.Semicolon ≡ true → run_at d (t.Mark w a ∷ ts) ≡ by_depth (t.Mark w a) ts (depth_after d (t.Mark w a))
semicolon_one zero w a ts h k j = let e : a ≡ m.Semicolon = is_same a m.Semicolon j in rw (h, k, j) (ap (λ z. Some ([], (t.Mark w z, ts))) (sym e))
semicolon_one (suc d) w a ts h k j =
    let e : a ≡ m.Semicolon = is_same a m.Semicolon j in
    rw (h, k, j) (ap (λ z. run_before (t.Mark w z) (run_at (suc d) ts)) (sym e) ∙ sym (ap (λ z. by_depth (t.Mark w a) ts (cond z None (Some (suc d)))) (not_zero d)))

pub one_token : (d : ℕ) (x : Lexeme) (ts : List Lexeme) → run_at d (x ∷ ts) ≡ by_depth x ts (depth_after d x)
one_token d (t.Variable w name) ts = refl
one_token d (t.Constructor w name) ts = refl
one_token d (t.Operator w name) ts = refl
one_token d (t.Number w digits) ts = refl
one_token d (t.Mark w a) ts =
    elim (cases_Bool (same_mark a m.OpensBlock)) [
      | inl h ↦ opens_one d w a ts h
      | inr h ↦ elim (cases_Bool (same_mark a m.ClosesBlock)) [
        | inl k ↦ closes_one d w a ts h k
        | inr k ↦ elim (cases_Bool (same_mark a m.Semicolon)) [
          | inl j ↦ semicolon_one d w a ts h k j
          | inr j ↦ rw (h, k, j) refl
        ]
      ]
    ]

pub depth_falls : (d n : ℕ) (x : Lexeme) → depth_after d x ≡ Some n → n ≤ d + 1
depth_falls d n (t.Variable w name) e = let f : d ≡ n = some_is d n e in omega (arith, f)
depth_falls d n (t.Constructor w name) e = let f : d ≡ n = some_is d n e in omega (arith, f)
depth_falls d n (t.Operator w name) e = let f : d ≡ n = some_is d n e in omega (arith, f)
depth_falls d n (t.Number w digits) e = let f : d ≡ n = some_is d n e in omega (arith, f)
depth_falls d n (t.Mark w a) e =
    elim (chosen (same_mark a m.OpensBlock) _ _ _ e) [
      | inl h ↦ let f : d + 1 ≡ n = some_is (d + 1) n h.1 in omega (arith, f)
      | inr h ↦ elim (chosen (same_mark a m.ClosesBlock) _ _ _ h.1) [
        | inl k ↦ elim (chosen (nat_eq d 0) _ _ _ k.1) [
          | inl j ↦ absurd (let f : None ≡ Some n = j.1 in cc)
          | inr j ↦ let f : d - 1 ≡ n = some_is (d - 1) n j.1 in omega (arith, f)
        ]
        | inr k ↦ elim (chosen (same_mark a m.Semicolon && nat_eq d 0) _ _ _ k.1) [
          | inl j ↦ absurd (let f : None ≡ Some n = j.1 in cc)
          | inr j ↦ let f : d ≡ n = some_is d n j.1 in omega (arith, f)
        ]
      ]
    ]

-- ---- token after token

abbrev pub left : List Lexeme → ℕ → ℕ → Option Run
left ts i d = behind (take i ts) (run_at d (drop i ts))

taken_next : (ts : List Lexeme) (i : ℕ) (x : Lexeme) → i < length ts → x ≡ get_or ts i x → take (i + 1) ts ≡ take i ts ++ x ∷ []
taken_next ts i x l e = grind (arith, common_steps)

dropped : (ts : List Lexeme) (i : ℕ) (x : Lexeme) → i < length ts → x ≡ get_or ts i x → drop i ts ≡ x ∷ drop (i + 1) ts
dropped ts i x l e = grind (arith, common_steps)

all_dropped : (ts : List Lexeme) (i : ℕ) → length ts ≤ i → drop i ts ≡ []
all_dropped ts i l = grind (arith, common_steps)

pub left_first : (ts : List Lexeme) → left ts 0 0 ≡ run_at 0 ts
left_first ts = behind_none (run_at 0 ts)

pub left_next : (ts : List Lexeme) (i d n : ℕ) (x : Lexeme) → i < length ts → x ≡ get_or ts i x → depth_after d x ≡ Some n → left ts (i + 1) n ≡ left ts i d
left_next ts i d n x l e h =
    ap (λ z. behind z (run_at n (drop (i + 1) ts))) (taken_next ts i x l e) ∙ one_more (take i ts) x (run_at n (drop (i + 1) ts))
    ∙ ap (λ z. behind (take i ts) (by_depth x (drop (i + 1) ts) z)) (sym h) ∙ ap (behind (take i ts)) (sym (one_token d x (drop (i + 1) ts))) ∙ ap (λ z. behind (take i ts) (run_at d z)) (sym (dropped ts i x l e))

pub left_ends : (ts : List Lexeme) (i d : ℕ) (x : Lexeme) → i < length ts → x ≡ get_or ts i x → depth_after d x ≡ None → left ts i d ≡ run_at 0 ts → Ends ts (Some i)
left_ends ts i d x l e h whole =
    let f : left ts i d ≡ Some (take i ts ++ [], (x, drop (i + 1) ts)) =
    ap (λ z. behind (take i ts) (run_at d z)) (dropped ts i x l e) ∙ ap (behind (take i ts)) (one_token d x (drop (i + 1) ts)) ∙ ap (λ z. behind (take i ts) (by_depth x (drop (i + 1) ts) z)) h in
    (l, (x, sym whole ∙ f ∙ ap (λ z. Some (z, (x, drop (i + 1) ts))) (append-nil (take i ts)), dropped ts i x l e))

pub left_none : (ts : List Lexeme) (i d : ℕ) → length ts ≤ i → left ts i d ≡ run_at 0 ts → run_at 0 ts ≡ None
left_none ts i d l whole = sym whole ∙ ap (λ z. behind (take i ts) (run_at d z)) (all_dropped ts i l)

-- ---- reading run after run

-- what is left of runs after one of them
pub one_run : (n : ℕ) (ts run : List Lexeme) (end : Lexeme) (rest : List Lexeme) (runs : List (List Lexeme × Lexeme)) → runs_at (suc n) ts ≡ Some runs → run_at 0 ts ≡ Some (run, (end, rest)) → sees m.ClosesBlock (end ∷ []) ≡ false
    → (others : List (List Lexeme × Lexeme)) × (runs ≡ (run, end) ∷ others) × (runs_at n rest ≡ Some others)
unfolding runs_at
one_run n ts run end rest runs e r c =
    let f : (runs_at n rest >>= (λ q. Some ((run, end) ∷ q))) ≡ Some runs = rw (r, c) at e in
    let b = bind_some (runs_at n rest) _ runs f in
    (b.0, sym (some_is ((run, end) ∷ b.0) runs b.2), b.1)

pub last_run : (n : ℕ) (ts run : List Lexeme) (end : Lexeme) (rest : List Lexeme) (runs : List (List Lexeme × Lexeme)) → runs_at (suc n) ts ≡ Some runs → run_at 0 ts ≡ Some (run, (end, rest)) → sees m.ClosesBlock (end ∷ []) ≡ true
    → runs ≡ (run, end) ∷ []
unfolding runs_at
last_run n ts run end [] runs e r c = let f : Some ((run, end) ∷ []) ≡ Some runs = rw (r, c) at e in sym (some_is ((run, end) ∷ []) runs f)
last_run n ts run end (x ∷ rest) runs e r c = let f : None ≡ Some runs = rw (r, c) at e in absurd (cc)

pub no_run : (n : ℕ) (ts : List Lexeme) (runs : List (List Lexeme × Lexeme)) → runs_at n ts ≡ Some runs → run_at 0 ts ≡ None → ⊥
unfolding runs_at
no_run zero ts runs e r = let f : None ≡ Some runs = e in absurd (cc)
no_run (suc n) ts runs e r = let f : None ≡ Some runs = rw r at e in absurd (cc)

pub runs_left : (n : ℕ) (ts : List Lexeme) (runs : List (List Lexeme × Lexeme)) → n ≡ 0 → runs_at n ts ≡ Some runs → ⊥
unfolding runs_at
runs_left n ts runs z e = let f : None ≡ Some runs = rw z at e in absurd (cc)

-- ---- whether there are runs
pub are_none : (n : ℕ) (ts : List Lexeme) → n ≡ 0 → is_some (runs_at n ts) ≡ false
unfolding runs_at
are_none n ts e = rw e refl

pub are_unended : (n : ℕ) (ts : List Lexeme) → run_at 0 ts ≡ None → is_some (runs_at n ts) ≡ false
unfolding runs_at
are_unended zero ts r = refl
are_unended (suc n) ts r = rw r refl

some_before : (run : List Lexeme × Lexeme) (o : Option (List (List Lexeme × Lexeme))) → is_some (o >>= (λ q. Some (run ∷ q))) ≡ is_some o
some_before run None = refl
some_before run (Some q) = refl

pub are_more : (n k : ℕ) (ts run : List Lexeme) (end : Lexeme) (rest : List Lexeme) → n ≡ k + 1 → run_at 0 ts ≡ Some (run, (end, rest)) → sees m.ClosesBlock (end ∷ []) ≡ false → is_some (runs_at n ts) ≡ is_some (runs_at k rest)
unfolding runs_at
are_more n k ts run end rest e r c = rw (e, add-one k, r, c) (some_before (run, end) (runs_at k rest))

pub are_last : (n k : ℕ) (ts run : List Lexeme) (end : Lexeme) (rest : List Lexeme) → n ≡ k + 1 → run_at 0 ts ≡ Some (run, (end, rest)) → sees m.ClosesBlock (end ∷ []) ≡ true → is_some (runs_at n ts) ≡ is_none rest
unfolding runs_at
are_last n k ts run end [] e r c = rw (e, add-one k, r, c) refl
are_last n k ts run end (x ∷ rest) e r c = rw (e, add-one k, r, c) refl
