-- The frame of a program and the runs of its items are read exactly.
use Rattle.std.proofs.Common.{◌≡◌, ℕ, zero, suc, ◌+◌, ◌≤◌, true, false, List, [], ◌∷◌, length, drop, Option, Some, None, refl, sym, ap, subst, ◌∙◌, arith, ◌⊎◌, inl, inr}
use Rattle.rw_parser_grammar.specs.declared.lexeme.Mark.{Mark}
use Rattle.rw_parser_grammar.specs.declared.lexeme.Mark.TheVariants as m
use Rattle.rw_parser_grammar.specs.declared.lexeme.Spot.{Spot}
use Rattle.rw_parser_grammar.specs.declared.lexeme.Lexeme.{Lexeme}
use Rattle.rw_parser_grammar.specs.declared.lexeme.Lexeme.TheVariants as t
use Rattle.rw_parser_grammar.specs.Lexemes.{next_spot}
use Rattle.rw_parser_grammar.specs.Declarations.{IsExports}
use Rattle.rw_parser_grammar.specs.Grammar.{IsHeader, no_header, a_header, is_inside, IsRun, ends_by_semicolon, ends_by_brace, opens_braces, closes_braces, stays_in_braces, goes_on, IsRuns, the_last_run, another_run, IsFrame, a_frame, whole_run}
use Rattle.rw_parser_reading.specs.Read.{same_mark, sees, after}
use Rattle.rw_parser_reading.specs.ReadDeclarations.{module_name_at, exports_at}
use Rattle.rw_parser_reading.specs.ReadProgram.{header_at, Run, run_before, closed_run, semicolon_run, run_at, is_none, runs_at, frame_at}
use Rattle.rw_parser_reading.proofs.ReadExact.{bind_some, chosen, some_is, moved, is_same, seen_is, after_is, after_mark}
use Rattle.rw_parser_laws.proofs.ReadImports.{module_exact, exports_runs}
use Rattle.rw_parser_laws.proofs.Frames.{header_complete, run_read, brace_closes, semicolon_stays}

-- ---- headers
header_sound : (ts rest : List Lexeme) → header_at ts ≡ Some rest → IsHeader ts rest
unfolding header_at
header_sound ts rest e =
    elim (chosen (sees m.Module ts) _ _ _ e) [
      | inl h ↦ let p = bind_some (module_name_at (drop 1 ts)) _ rest h.1 in
          let x = bind_some (exports_at p.0.1) _ rest p.2 in
          let w : x.0.1 ≡ t.Mark (next_spot x.0.1) m.Where ∷ rest = after_is m.Where x.0.1 rest x.2 in
          let d = subst (IsExports p.0.1 x.0.0) w (exports_runs.sound p.0.1 x.0 x.1) in
          subst (λ z. IsHeader z rest) (sym (seen_is m.Module ts h.0)) (a_header (next_spot ts) (next_spot x.0.1) (drop 1 ts) p.0.1 rest p.0.0 x.0.0 (module_exact.sound (drop 1 ts) p.0 p.1) d)
      | inr h ↦ subst (IsHeader ts) (some_is ts rest h.1) (no_header ts)
    ]

header_no_longer : {ts rest : List Lexeme} → IsHeader ts rest → length rest ≤ length ts
header_no_longer (no_header ts) = omega arith
header_no_longer (a_header v w ts mid rest names listing d k) =
    let h = module_exact.shorter ts names mid d in let g = exports_runs.shorter mid listing (t.Mark w m.Where ∷ rest) k in omega arith

-- ---- runs
before_some : (x : Lexeme) (o : Option Run) (r : Run) → run_before x o ≡ Some r → (s : Run) × (o ≡ Some s) × ((x ∷ s.0, s.1) ≡ r)
before_some x None r e = absurd (cc)
before_some x (Some s) r e = (s, refl, some_is (x ∷ s.0, s.1) r e)

abbrev Found : ℕ → List Lexeme → Run → Type 0
Found d ts r = IsRun d ts r.0 r.1.0 r.1.1

outside_mark : (a : Mark) (w : Spot) → same_mark a m.OpensBlock ≡ false → same_mark a m.ClosesBlock ≡ false → same_mark a m.Semicolon ≡ false → is_inside (t.Mark w a) ≡ true
unfolding same_mark
outside_mark m.OpensBlock w h k s = absurd (cc)
outside_mark m.ClosesBlock w h k s = absurd (cc)
outside_mark m.Semicolon w h k s = absurd (cc)
outside_mark a w h k s = refl

inside_found : (d : ℕ) (x : Lexeme) (ts : List Lexeme) (r : Run) → is_inside x ≡ true → ((s : Run) → run_at d ts ≡ Some s → Found d ts s) → run_before x (run_at d ts) ≡ Some r → Found d (x ∷ ts) r
inside_found d x ts r h found e = let s = before_some x (run_at d ts) r e in subst (Found d (x ∷ ts)) s.2 (goes_on d x ts s.0.0 s.0.1.1 s.0.1.0 h (found s.0 s.1))

opens_found : (d : ℕ) (w : Spot) (ts : List Lexeme) (r : Run) → ((s : Run) → run_at (suc d) ts ≡ Some s → Found (suc d) ts s) → run_before (t.Mark w m.OpensBlock) (run_at (suc d) ts) ≡ Some r
    → Found d (t.Mark w m.OpensBlock ∷ ts) r
opens_found d w ts r found e =
    let s = before_some (t.Mark w m.OpensBlock) (run_at (suc d) ts) r e in subst (Found d (t.Mark w m.OpensBlock ∷ ts)) s.2 (opens_braces d w ts s.0.0 s.0.1.1 s.0.1.0 (found s.0 s.1))

closes_found : (d : ℕ) (w : Spot) (ts : List Lexeme) (r : Run) → ((k : ℕ) (s : Run) → run_at k ts ≡ Some s → Found k ts s) → closed_run w d ts (λ k. run_at k ts) ≡ Some r → Found d (t.Mark w m.ClosesBlock ∷ ts) r
closes_found zero w ts r found e = moved (Found zero (t.Mark w m.ClosesBlock ∷ ts)) _ r e (ends_by_brace w ts)
closes_found (suc d) w ts r found e =
    let s = before_some (t.Mark w m.ClosesBlock) (run_at d ts) r e in subst (Found (suc d) (t.Mark w m.ClosesBlock ∷ ts)) s.2 (closes_braces d w ts s.0.0 s.0.1.1 s.0.1.0 (found d s.0 s.1))

semicolon_found : (d : ℕ) (w : Spot) (ts : List Lexeme) (r : Run) → ((k : ℕ) (s : Run) → run_at k ts ≡ Some s → Found k ts s) → semicolon_run w d ts (λ k. run_at k ts) ≡ Some r
    → Found d (t.Mark w m.Semicolon ∷ ts) r
semicolon_found zero w ts r found e = moved (Found zero (t.Mark w m.Semicolon ∷ ts)) _ r e (ends_by_semicolon w ts)
semicolon_found (suc d) w ts r found e =
    let s = before_some (t.Mark w m.Semicolon) (run_at (suc d) ts) r e in subst (Found (suc d) (t.Mark w m.Semicolon ∷ ts)) s.2 (stays_in_braces d w ts s.0.0 s.0.1.1 s.0.1.0 (found (suc d) s.0 s.1))

mark_found : (d : ℕ) (w : Spot) (a : Mark) (ts : List Lexeme) (r : Run) → ((k : ℕ) (s : Run) → run_at k ts ≡ Some s → Found k ts s) → run_at d (t.Mark w a ∷ ts) ≡ Some r → Found d (t.Mark w a ∷ ts) r
mark_found d w a ts r found e =
    elim (chosen (same_mark a m.OpensBlock) _ _ _ e) [
      | inl h ↦ let same = is_same a m.OpensBlock h.0 in
          subst (λ z. Found d (t.Mark w z ∷ ts) r) (sym same) (opens_found d w ts r (found (suc d)) (subst (λ z. run_before (t.Mark w z) (run_at (suc d) ts) ≡ Some r) same h.1))
      | inr h ↦ elim (chosen (same_mark a m.ClosesBlock) _ _ _ h.1) [
        | inl k ↦ subst (λ z. Found d (t.Mark w z ∷ ts) r) (sym (is_same a m.ClosesBlock k.0)) (closes_found d w ts r found k.1)
        | inr k ↦ elim (chosen (same_mark a m.Semicolon) _ _ _ k.1) [
          | inl s ↦ subst (λ z. Found d (t.Mark w z ∷ ts) r) (sym (is_same a m.Semicolon s.0)) (semicolon_found d w ts r found s.1)
          | inr s ↦ inside_found d (t.Mark w a) ts r (outside_mark a w h.0 k.0 s.0) (found d) s.1
        ]
      ]
    ]

run_sound : (ts : List Lexeme) (d : ℕ) (r : Run) → run_at d ts ≡ Some r → Found d ts r
run_sound [] d r e = absurd (cc)
run_sound (t.Mark w a ∷ ts) d r e = mark_found d w a ts r (run_sound ts) e
run_sound (t.Variable w name ∷ ts) d r e = inside_found d (t.Variable w name) ts r refl (run_sound ts d) e
run_sound (t.Constructor w name ∷ ts) d r e = inside_found d (t.Constructor w name) ts r refl (run_sound ts d) e
run_sound (t.Operator w name ∷ ts) d r e = inside_found d (t.Operator w name) ts r refl (run_sound ts d) e
run_sound (t.Number w digits ∷ ts) d r e = inside_found d (t.Number w digits) ts r refl (run_sound ts d) e

-- what ends a run
run_end : {d : ℕ} {ts run : List Lexeme} {end : Lexeme} {rest : List Lexeme} → IsRun d ts run end rest → ((w : Spot) × (end ≡ t.Mark w m.ClosesBlock)) ⊎ ((w : Spot) × (end ≡ t.Mark w m.Semicolon))
run_end (ends_by_semicolon w rest) = inr (w, refl)
run_end (ends_by_brace w rest) = inl (w, refl)
run_end (opens_braces d w ts run rest end r) = run_end r
run_end (closes_braces d w ts run rest end r) = run_end r
run_end (stays_in_braces d w ts run rest end r) = run_end r
run_end (goes_on d x ts run rest end h r) = run_end r

-- a run, its end and the rest are all the tokens
pub run_length : {d : ℕ} {ts run : List Lexeme} {end : Lexeme} {rest : List Lexeme} → IsRun d ts run end rest → length ts ≡ suc (length run) + length rest
run_length (ends_by_semicolon w rest) = omega arith
run_length (ends_by_brace w rest) = omega arith
run_length (opens_braces d w ts run rest end r) = let h = run_length r in omega arith
run_length (closes_braces d w ts run rest end r) = let h = run_length r in omega arith
run_length (stays_in_braces d w ts run rest end r) = let h = run_length r in omega arith
run_length (goes_on d x ts run rest end h r) = let h = run_length r in omega arith

nothing_is : {A : Type 0} (xs : List A) → is_none xs ≡ true → xs ≡ []
nothing_is [] h = refl
nothing_is (x ∷ xs) h = absurd (cc)

last_found : (ts : List Lexeme) (r : Run) → IsRun 0 ts r.0 r.1.0 r.1.1 → sees m.ClosesBlock (r.1.0 ∷ []) ≡ true → is_none r.1.1 ≡ true → IsRuns ts ((r.0, r.1.0) ∷ [])
last_found ts r d c h =
    elim (run_end d) [
      | inl k ↦ subst (λ z. IsRuns ts ((r.0, z) ∷ [])) (sym k.1) (the_last_run k.0 ts r.0 (subst (IsRun 0 ts r.0 (t.Mark k.0 m.ClosesBlock)) (nothing_is r.1.1 h) (subst (λ z. IsRun 0 ts r.0 z r.1.1) k.1 d)))
      | inr k ↦ absurd (let f : true ≡ false = sym c ∙ ap (λ z. sees m.ClosesBlock (z ∷ [])) k.1 ∙ semicolon_stays k.0 in cc)
    ]

more_found : (ts : List Lexeme) (r : Run) (others : List (List Lexeme × Lexeme)) → IsRun 0 ts r.0 r.1.0 r.1.1 → sees m.ClosesBlock (r.1.0 ∷ []) ≡ false → IsRuns r.1.1 others → IsRuns ts ((r.0, r.1.0) ∷ others)
more_found ts r others d c ds =
    elim (run_end d) [
      | inl k ↦ absurd (let f : true ≡ false = sym (brace_closes k.0) ∙ ap (λ z. sees m.ClosesBlock (z ∷ [])) (sym k.1) ∙ c in cc)
      | inr k ↦ subst (λ z. IsRuns ts ((r.0, z) ∷ others)) (sym k.1) (another_run k.0 ts r.0 r.1.1 others (subst (λ z. IsRun 0 ts r.0 z r.1.1) k.1 d) ds)
    ]

runs_sound : (n : ℕ) (ts : List Lexeme) (rs : List (List Lexeme × Lexeme)) → runs_at n ts ≡ Some rs → IsRuns ts rs
unfolding runs_at
runs_sound zero ts rs e = absurd (cc)
runs_sound (suc n) ts rs e =
    let r = bind_some (run_at 0 ts) _ rs e in
    let d = run_sound ts 0 r.0 r.1 in
    elim (chosen (sees m.ClosesBlock (r.0.1.0 ∷ [])) _ _ _ r.2) [
      | inl c ↦ elim (chosen (is_none r.0.1.1) _ _ _ c.1) [
        | inl h ↦ moved (IsRuns ts) _ rs h.1 (last_found ts r.0 d c.0 h.0)
        | inr h ↦ absurd (let f : None ≡ Some rs = h.1 in cc)
      ]
      | inr c ↦ let q = bind_some (runs_at n r.0.1.1) _ rs c.1 in moved (IsRuns ts) _ rs q.2 (more_found ts r.0 q.0 d c.0 (runs_sound n r.0.1.1 q.0 q.1))
    ]

last_runs_read : (n : ℕ) (w : Spot) (ts run : List Lexeme) → run_at 0 ts ≡ Some (run, (t.Mark w m.ClosesBlock, [])) → runs_at (suc n) ts ≡ Some ((run, t.Mark w m.ClosesBlock) ∷ [])
unfolding runs_at
last_runs_read n w ts run h = rw (h, brace_closes w)

more_runs_read : (n : ℕ) (w : Spot) (ts run rest : List Lexeme) (others : List (List Lexeme × Lexeme)) → run_at 0 ts ≡ Some (run, (t.Mark w m.Semicolon, rest)) → runs_at n rest ≡ Some others
    → runs_at (suc n) ts ≡ Some ((run, t.Mark w m.Semicolon) ∷ others)
unfolding runs_at
more_runs_read n w ts run rest others h g = rw (h, semicolon_stays w, g)

runs_read : {ts : List Lexeme} {rs : List (List Lexeme × Lexeme)} → IsRuns ts rs → (n : ℕ) → length ts ≤ n → runs_at n ts ≡ Some rs
runs_read (the_last_run w ts run r) zero h = let k = run_length r in absurd (omega arith)
runs_read (the_last_run w ts run r) (suc n) h = last_runs_read n w ts run (run_read r)
runs_read (another_run w ts run rest others r rs) zero h = let k = run_length r in absurd (omega arith)
runs_read (another_run w ts run rest others r rs) (suc n) h = let k = run_length r in more_runs_read n w ts run rest others (run_read r) (runs_read rs n (omega arith))

-- ---- the frame
pub frame_sound : (ts : List Lexeme) (rs : List (List Lexeme × Lexeme)) → frame_at ts ≡ Some rs → IsFrame ts rs
unfolding frame_at
frame_sound ts rs e =
    let r = bind_some (header_at ts) _ rs e in
    let x = bind_some (after m.OpensBlock r.0) _ rs r.2 in
    a_frame (next_spot r.0) ts x.0 rs (subst (IsHeader ts) (after_is m.OpensBlock r.0 x.0 x.1) (header_sound ts r.0 r.1)) (runs_sound (length x.0) x.0 rs x.2)

opened_frame : (ts rest : List Lexeme) (w : Spot) → header_at ts ≡ Some (t.Mark w m.OpensBlock ∷ rest) → frame_at ts ≡ runs_at (length rest) rest
unfolding frame_at
opened_frame ts rest w h = rw (h, after_mark m.OpensBlock w rest)

pub frame_read : {ts : List Lexeme} {rs : List (List Lexeme × Lexeme)} → IsFrame ts rs → frame_at ts ≡ Some rs
frame_read (a_frame w ts rest rs h r) = opened_frame ts rest w (header_complete ts _ h w rest refl) ∙ runs_read r (length rest) (omega arith)

-- ---- no run is longer than the tokens
abbrev pub AllWithin : ℕ → List (List Lexeme × Lexeme) → Type 0
AllWithin n [] = Unit {0}
AllWithin n (r ∷ rs) = (length (whole_run r.0 r.1) ≤ n) × AllWithin n rs

pub whole_length : (run : List Lexeme) (end : Lexeme) → length (whole_run run end) ≡ suc (length run)
whole_length [] end = omega arith
whole_length (x ∷ run) end = let h = whole_length run end in omega arith

runs_within : {ts : List Lexeme} {rs : List (List Lexeme × Lexeme)} → IsRuns ts rs → (n : ℕ) → length ts ≤ n → AllWithin n rs
runs_within (the_last_run w ts run r) n h = (let k = run_length r in let g = whole_length run (t.Mark w m.ClosesBlock) in omega arith, tt)
runs_within (another_run w ts run rest others r rs) n h =
    let k = run_length r in (let g = whole_length run (t.Mark w m.Semicolon) in omega arith, runs_within rs n (omega arith))

pub frame_within : {ts : List Lexeme} {rs : List (List Lexeme × Lexeme)} → IsFrame ts rs → (n : ℕ) → length ts ≤ n → AllWithin n rs
frame_within (a_frame w ts rest rs h r) n k = let g = header_no_longer h in runs_within r n (omega arith)
