-- Whole programs are read exactly, and so is the place where tokens spell none.
use Rattle.std.proofs.Common.{◌≡◌, ℕ, ◌+◌, ◌≤◌, Bool, true, false, ◌&&◌, nat_eq, List, [], ◌∷◌, length, Option, Some, None, Result, Ok, Err, refl, sym, ap, subst, ◌∙◌, arith, ◌⊎◌, inl, inr}
use Rattle.std.proofs.lemmas.Bool.{eq-eqb}
use Rattle.rw_base.specs.declared.place.Place.{Place}
use Rattle.rw_base.specs.declared.place.Span.{Span}
use Rattle.rw_tree.specs.declared.program.Program.{Program}
use Rattle.rw_lex.specs.declared.token.Token.{Token}
use Rattle.rw_lex.proofs.Tools.{same_number}
use Rattle.rw_parser_grammar.specs.declared.item.Item.{Item}
use Rattle.rw_parser_grammar.specs.declared.lexeme.Mark.{Mark}
use Rattle.rw_parser_grammar.specs.declared.lexeme.Spot.{Spot}
use Rattle.rw_parser_grammar.specs.declared.lexeme.Lexeme.{Lexeme}
use Rattle.rw_parser_grammar.specs.declared.lexeme.Lexeme.TheVariants as t
use Rattle.rw_parser_grammar.specs.Lexemes.{lexemes_from, lexemes, next_spot}
use Rattle.rw_parser_grammar.specs.Grammar.{IsItem, IsFrame, whole_run, AreItems, no_items, nothing, something, item_groups, declarations_of, Spells, spells, SpellsNone, FirstBroken, here, behind_nothing, behind_item, first_place, IsNotOfTheGrammar, broken_frame, broken_item}
use Rattle.rw_parser_reading.specs.ReadClauses.{ends_entry}
use Rattle.rw_parser_reading.specs.ReadDeclarations.{item_at}
use Rattle.rw_parser_reading.specs.ReadProgram.{same_spot, is_mark_at, is_last, item_of, item_before, items_at, program_of, framed, program_at, frame_at}
use Rattle.rw_parser_reading.proofs.ReadExact.{bind_some, chosen, some_is, is_same, same_self}
use Rattle.rw_parser_laws.proofs.ReadItems.{item_exact}
use Rattle.rw_parser_laws.proofs.Frames.{AllEnd, frame_ends, no_item}
use Rattle.rw_parser_laws.proofs.ReadRuns.{AllWithin, frame_sound, frame_read, frame_within}
use Rattle.rw_parser_laws.proofs.Narrow.{item_narrow}

-- ---- the last token
both : (a b : Bool) → (a && b) ≡ true → (a ≡ true) × (b ≡ true)
both true true e = (refl, refl)
both true false e = absurd (cc)
both false b e = absurd (cc)

number_self : (n : ℕ) → nat_eq n n ≡ true
number_self n = eq-eqb n n refl

spot_is : (v w : Spot) → same_spot v w ≡ true → v ≡ w
spot_is v w e =
    let h = both _ _ e in
    let k = both _ _ h.1 in
    let n = same_number _ _ h.0 in
    let l = same_number _ _ k.0 in
    let c = same_number _ _ k.1 in
    λ i. record { place = record { line = l i; column = c i }; number = n i }

spot_self : (v : Spot) → same_spot v v ≡ true
spot_self v = rw (number_self v.number, number_self v.place.line, number_self v.place.column)

mark_at_is : (v : Spot) (a : Mark) (x : Lexeme) → is_mark_at v a x ≡ true → x ≡ t.Mark v a
mark_at_is v a (t.Mark w b) e = let h = both _ _ e in ap (λ z. t.Mark z b) (sym (spot_is v w h.0)) ∙ ap (t.Mark v) (sym (is_same a b h.1))
mark_at_is v a (t.Variable w name) e = absurd (cc)
mark_at_is v a (t.Constructor w name) e = absurd (cc)
mark_at_is v a (t.Operator w name) e = absurd (cc)
mark_at_is v a (t.Number w digits) e = absurd (cc)

last_is : (end : Lexeme) (rest : List Lexeme) → is_last end rest ≡ true → rest ≡ end ∷ []
last_is (t.Mark v a) [] e = absurd (cc)
last_is (t.Mark v a) (x ∷ []) e = ap (λ z. z ∷ []) (mark_at_is v a x e)
last_is (t.Mark v a) (x ∷ next ∷ xs) e = absurd (cc)
last_is (t.Variable w name) rest e = absurd (cc)
last_is (t.Constructor w name) rest e = absurd (cc)
last_is (t.Operator w name) rest e = absurd (cc)
last_is (t.Number w digits) rest e = absurd (cc)

last_self : (end : Lexeme) → ends_entry (end ∷ []) ≡ true → is_last end (end ∷ []) ≡ true
last_self (t.Mark v a) e = rw (number_self v.number, number_self v.place.line, number_self v.place.column, same_self a)
last_self (t.Variable w name) e = absurd (cc)
last_self (t.Constructor w name) e = absurd (cc)
last_self (t.Operator w name) e = absurd (cc)
last_self (t.Number w digits) e = absurd (cc)

-- ---- one item
pub item_sound : (n : ℕ) (run : List Lexeme) (end : Lexeme) (item : Item) → item_of n (run, end) ≡ Some item → IsItem n (whole_run run end) item (end ∷ [])
unfolding item_of
item_sound n run end item e =
    let p = bind_some (item_at n (whole_run run end)) _ item e in
    elim (chosen (is_last end p.0.1) _ _ _ p.2) [
      | inl h ↦ subst (λ z. IsItem n (whole_run run end) z (end ∷ [])) (some_is p.0.0 item h.1) (subst (IsItem n (whole_run run end) p.0.0) (last_is end p.0.1 h.0) ((item_exact n).sound (whole_run run end) p.0 p.1))
      | inr h ↦ absurd (let f : None ≡ Some item = h.1 in cc)
    ]

item_read_on : (n : ℕ) (run : List Lexeme) (end : Lexeme) (item : Item) → item_at n (whole_run run end) ≡ Some (item, end ∷ []) → is_last end (end ∷ []) ≡ true → item_of n (run, end) ≡ Some item
unfolding item_of
item_read_on n run end item h k = rw (h, k)

item_read : (k n : ℕ) (run : List Lexeme) (end : Lexeme) (item : Item) → length (whole_run run end) ≤ n → ends_entry (end ∷ []) ≡ true → IsItem k (whole_run run end) item (end ∷ [])
    → item_of n (run, end) ≡ Some item
item_read k n run end item h s d = item_read_on n run end item ((item_exact n).complete (whole_run run end) item (end ∷ []) (item_narrow k n (whole_run run end) item (end ∷ []) h d) s) (last_self end s)

-- ---- the items of runs
before_ok : (at : Place) (o : Option Item) (others : Result (List Item) Place) (items : List Item) → item_before at o others ≡ Ok items
    → (item : Item) × (more : List Item) × (o ≡ Some item) × (others ≡ Ok more) × ((item ∷ more) ≡ items)
before_ok at None others items e = absurd (cc)
before_ok at (Some item) (Err later) items e = absurd (cc)
before_ok at (Some item) (Ok more) items e = (item, more, refl, refl, cc)

pub items_sound : (n : ℕ) (rs : List (List Lexeme × Lexeme)) (items : List Item) → items_at n rs ≡ Ok items → AreItems rs items
items_sound n [] items e = let h : [] ≡ items = cc in subst (AreItems []) h no_items
items_sound n (([], end) ∷ rs) items e = nothing end rs items (items_sound n rs items e)
items_sound n ((x ∷ xs, end) ∷ rs) items e =
    let b = before_ok (next_spot (x ∷ xs)).place (item_of n (x ∷ xs, end)) (items_at n rs) items e in
    subst (AreItems ((x ∷ xs, end) ∷ rs)) b.4 (something n (x ∷ xs) end rs b.0 b.1 (item_sound n (x ∷ xs) end b.0 b.2) (items_sound n rs b.1 b.3))

one_before : (n : ℕ) (x : Lexeme) (xs : List Lexeme) (end : Lexeme) (rs : List (List Lexeme × Lexeme)) (item : Item) → item_of n (x ∷ xs, end) ≡ Some item
    → items_at n ((x ∷ xs, end) ∷ rs) ≡ item_before (next_spot (x ∷ xs)).place (Some item) (items_at n rs)
one_before n x xs end rs item h = ap (λ z. item_before (next_spot (x ∷ xs)).place z (items_at n rs)) h

items_read : {rs : List (List Lexeme × Lexeme)} {items : List Item} → AreItems rs items → (n : ℕ) → AllWithin n rs → AllEnd rs → items_at n rs ≡ Ok items
items_read no_items n w s = refl
items_read (nothing end rs items d) n w s = items_read d n w.1 s.1
items_read (something k [] end rs item items x d) n w s = no_item k end item x
items_read (something k (y ∷ ys) end rs item items x d) n w s =
    one_before n y ys end rs item (item_read k n (y ∷ ys) end item w.0 s.0 x) ∙ ap (item_before (next_spot (y ∷ ys)).place (Some item)) (items_read d n w.1 s.1)

-- ---- the first that is none
none_spelled : (n : ℕ) (x : Lexeme) (xs : List Lexeme) (end : Lexeme) → length (whole_run (x ∷ xs) end) ≤ n → ends_entry (end ∷ []) ≡ true → item_of n (x ∷ xs, end) ≡ None → SpellsNone (x ∷ xs, end)
none_spelled n x xs end h s e = λ k item d. let f : None ≡ Some item = sym e ∙ item_read k n (x ∷ xs) end item h s d in cc

none_read : (n : ℕ) (x : Lexeme) (xs : List Lexeme) (end : Lexeme) → SpellsNone (x ∷ xs, end) → item_of n (x ∷ xs, end) ≡ None
none_read n x xs end none = go (item_of n (x ∷ xs, end)) refl
  where
    go : (o : Option Item) → item_of n (x ∷ xs, end) ≡ o → item_of n (x ∷ xs, end) ≡ None
    go None e = e
    go (Some item) e = absurd (none n item (item_sound n (x ∷ xs) end item e))

before_err : (at place : Place) (o : Option Item) (others : Result (List Item) Place) → item_before at o others ≡ Err place
    → ((o ≡ None) × (at ≡ place)) ⊎ ((item : Item) × (o ≡ Some item) × (others ≡ Err place))
before_err at place None others e = inl (refl, cc)
before_err at place (Some item) (Err later) e = inr (item, refl, e)
before_err at place (Some item) (Ok more) e = absurd (cc)

broken_sound : (n : ℕ) (rs : List (List Lexeme × Lexeme)) (at : Place) → AllWithin n rs → AllEnd rs → items_at n rs ≡ Err at → FirstBroken rs at
broken_sound n [] at w s e = absurd (cc)
broken_sound n (([], end) ∷ rs) at w s e = behind_nothing end rs at (broken_sound n rs at w.1 s.1 e)
broken_sound n ((x ∷ xs, end) ∷ rs) at w s e =
    elim (before_err (next_spot (x ∷ xs)).place at (item_of n (x ∷ xs, end)) (items_at n rs) e) [
      | inl h ↦ subst (FirstBroken ((x ∷ xs, end) ∷ rs)) h.1 (here (x ∷ xs) end rs (none_spelled n x xs end w.0 s.0 h.0))
      | inr h ↦ behind_item n (x ∷ xs) end rs h.0 at (item_sound n (x ∷ xs) end h.0 h.1) (broken_sound n rs at w.1 s.1 h.2)
    ]

broken_read : {rs : List (List Lexeme × Lexeme)} {at : Place} → FirstBroken rs at → (n : ℕ) → AllWithin n rs → AllEnd rs → items_at n rs ≡ Err at
broken_read (here [] end rs none) n w s = absurd none
broken_read (here (x ∷ xs) end rs none) n w s = ap (λ z. item_before (next_spot (x ∷ xs)).place z (items_at n rs)) (none_read n x xs end none)
broken_read (behind_nothing end rs at d) n w s = broken_read d n w.1 s.1
broken_read (behind_item k [] end rs item at x d) n w s = no_item k end item x
broken_read (behind_item k (y ∷ ys) end rs item at x d) n w s =
    one_before n y ys end rs item (item_read k n (y ∷ ys) end item w.0 s.0 x) ∙ ap (item_before (next_spot (y ∷ ys)).place (Some item)) (broken_read d n w.1 s.1)

-- ---- programs
pub count_from : (n : ℕ) (tokens : List Token) → length (lexemes_from n tokens) ≡ length tokens
count_from n [] = refl
count_from n (x ∷ xs) = let h = count_from (n + 1) xs in omega arith

program_ok : (r : Result (List Item) Place) (q : Program Span) → program_of r ≡ Ok q → (items : List Item) × (r ≡ Ok items) × (record { decls = declarations_of (item_groups items) } ≡ q)
program_ok (Ok items) q e = (items, refl, cc)
program_ok (Err at) q e = absurd (cc)

program_err : (r : Result (List Item) Place) (at : Place) → program_of r ≡ Err at → r ≡ Err at
program_err (Ok items) at e = absurd (cc)
program_err (Err place) at e = cc

framed_ok : (n : ℕ) (tokens : List Token) (o : Option (List (List Lexeme × Lexeme))) (q : Program Span) → frame_at (lexemes tokens) ≡ o → framed n (lexemes tokens) o ≡ Ok q → Spells tokens q
framed_ok n tokens None q f e = absurd (cc)
framed_ok n tokens (Some rs) q f e =
    let p = program_ok (items_at n rs) q e in subst (Spells tokens) p.2 (spells tokens rs p.0 (frame_sound (lexemes tokens) rs f) (items_sound n rs p.0 p.1))

framed_err : (n : ℕ) (tokens : List Token) (o : Option (List (List Lexeme × Lexeme))) (at : Place) → length tokens ≤ n → frame_at (lexemes tokens) ≡ o → framed n (lexemes tokens) o ≡ Err at
    → IsNotOfTheGrammar tokens at
framed_err n tokens None at h f e =
    let same : first_place (lexemes tokens) ≡ at = cc in
    subst (IsNotOfTheGrammar tokens) same (broken_frame tokens (λ rs d. let g : None ≡ Some rs = sym f ∙ frame_read d in cc))
framed_err n tokens (Some rs) at h f e =
    let c = count_from 0 tokens in
    let d = frame_sound (lexemes tokens) rs f in
    broken_item tokens rs at d (broken_sound n rs at (frame_within d n (omega arith)) (frame_ends d) (program_err (items_at n rs) at e))

pub program_sound : (n : ℕ) (tokens : List Token) (q : Program Span) → program_at n tokens ≡ Ok q → Spells tokens q
unfolding program_at
program_sound n tokens q e = framed_ok n tokens (frame_at (lexemes tokens)) q refl e

pub place_sound : (n : ℕ) (tokens : List Token) (at : Place) → length tokens ≤ n → program_at n tokens ≡ Err at → IsNotOfTheGrammar tokens at
unfolding program_at
place_sound n tokens at h e = framed_err n tokens (frame_at (lexemes tokens)) at h refl e

pub unframed : (n : ℕ) (tokens : List Token) (o : Option (List (List Lexeme × Lexeme))) → frame_at (lexemes tokens) ≡ o → program_at n tokens ≡ framed n (lexemes tokens) o
unfolding program_at
unframed n tokens o e = ap (framed n (lexemes tokens)) e

no_frame : (ts : List Lexeme) → ((rs : List (List Lexeme × Lexeme)) → IsFrame ts rs → ⊥) → frame_at ts ≡ None
no_frame ts none = go (frame_at ts) refl
  where
    go : (o : Option (List (List Lexeme × Lexeme))) → frame_at ts ≡ o → frame_at ts ≡ None
    go None e = e
    go (Some rs) e = absurd (none rs (frame_sound ts rs e))

pub program_read : (n : ℕ) (tokens : List Token) (q : Program Span) → length tokens ≤ n → Spells tokens q → program_at n tokens ≡ Ok q
program_read n _ _ h (spells tokens rs items f d) =
    let c = count_from 0 tokens in unframed n tokens (Some rs) (frame_read f) ∙ ap program_of (items_read d n (frame_within f n (omega arith)) (frame_ends f))

pub place_read : (n : ℕ) (tokens : List Token) (at : Place) → length tokens ≤ n → IsNotOfTheGrammar tokens at → program_at n tokens ≡ Err at
place_read n _ _ h (broken_frame tokens none) = unframed n tokens None (no_frame (lexemes tokens) none)
place_read n _ _ h (broken_item tokens rs at f d) =
    let c = count_from 0 tokens in unframed n tokens (Some rs) (frame_read f) ∙ ap program_of (broken_read d n (frame_within f n (omega arith)) (frame_ends f))

-- ---- one answer
pub one_answer : (tokens : List Token) → ((q : Program Span) × Spells tokens q) ⊎ ((at : Place) × IsNotOfTheGrammar tokens at)
one_answer tokens = go (program_at (length tokens) tokens) refl
  where
    go : (r : Result (Program Span) Place) → program_at (length tokens) tokens ≡ r → ((q : Program Span) × Spells tokens q) ⊎ ((at : Place) × IsNotOfTheGrammar tokens at)
    go (Ok q) e = inl (q, program_sound (length tokens) tokens q e)
    go (Err at) e = inr (at, place_sound (length tokens) tokens at (omega arith) e)

pub no_two_answers : (tokens : List Token) (q : Program Span) (at : Place) → Spells tokens q → IsNotOfTheGrammar tokens at → ⊥
no_two_answers tokens q at s b =
    let e = sym (program_read (length tokens) tokens q (omega arith) s) ∙ place_read (length tokens) tokens at (omega arith) b in cc

err_is : (a b : Place) (r : Result (Program Span) Place) → r ≡ Err a → r ≡ Err b → a ≡ b
err_is a b r e d = let f = sym e ∙ d in cc

pub one_place_of : (tokens : List Token) (a b : Place) → IsNotOfTheGrammar tokens a → IsNotOfTheGrammar tokens b → a ≡ b
one_place_of tokens a b x y = err_is a b (program_at (length tokens) tokens) (place_read (length tokens) tokens a (omega arith) x) (place_read (length tokens) tokens b (omega arith) y)
