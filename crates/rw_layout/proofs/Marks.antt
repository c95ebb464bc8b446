-- All that is inserted is braces and semicolons at the place of the next token.
use Rattle.std.proofs.Common.{◌≡◌, ℕ, zero, suc, ◌+◌, List, [], ◌∷◌, ◌++◌, length, Option, Some, None, Result, Ok, Err, Bool, true, false, cond, refl, sym, ap, ◌∙◌, subst, append_assoc}
use Rattle.std.specs.Prelude.{replicate, nat_lt, drop, if◌then◌else◌}
use Rattle.std.specs.List.{slice_get, prefix_len}
use Rattle.std.proofs.lemmas.List.{append-nil}
use Rattle.std.specs.Option.{option_map, option_and_then}
use Rattle.rw_base.specs.declared.place.Place.{Place}
use Rattle.rw_base.specs.declared.fail.Refusal.{Refusal}
use Rattle.rw_lex.specs.declared.token.Token.{Token}
use Rattle.rw_layout.specs.declared.entry.Entry.{Entry}
use Rattle.rw_layout.specs.declared.entry.Entry.TheVariants as e
use Rattle.rw_layout.specs.declared.role.Role.{Role}
use Rattle.rw_layout.specs.declared.role.Role.TheVariants as r
use Rattle.rw_layout.specs.declared.role.Before.{Before}
use Rattle.rw_layout.specs.declared.role.Before.TheVariants as b
use Rattle.rw_layout.specs.Layout.{Turn, opening, semicolon, closing, before_step, pushed, line_start, at_line_start, opened, open_block, placed_as, placed, in_behind, acted, asked, role_of, turn_of, lowest_opener, opened_at_end, in_front, goes_on, layout_from, has_parts_at, is_deeper, nearest, is_opener, enclosing, closed_by_in, closed_by_comma, known_as, blocks_of, reopened, closed_at_end}
use Rattle.rw_layout.specs.Laws.{next_place, IsFilled}

-- these tokens are braces and semicolons that were inserted at this place
pub data AreMarks (at : Place) : List Token → Type 0 where
  no_more : AreMarks at []
  an_opening : (tokens : List Token) → AreMarks at tokens → AreMarks at (opening at ∷ tokens)
  a_semicolon : (tokens : List Token) → AreMarks at tokens → AreMarks at (semicolon at ∷ tokens)
  a_closing : (tokens : List Token) → AreMarks at tokens → AreMarks at (closing at ∷ tokens)

closings : (n : ℕ) (at : Place) (tokens : List Token) → AreMarks at tokens → AreMarks at (replicate n (closing at) ++ tokens)
closings zero at tokens m = m
closings (suc n) at tokens m = a_closing (replicate n (closing at) ++ tokens) (closings n at tokens m)

joined : {at : Place} (xs ys : List Token) → AreMarks at xs → AreMarks at ys → AreMarks at (xs ++ ys)
joined xs ys no_more m = m
joined xs ys (an_opening zs k) m = an_opening (zs ++ ys) (joined zs ys k m)
joined xs ys (a_semicolon zs k) m = a_semicolon (zs ++ ys) (joined zs ys k m)
joined xs ys (a_closing zs k) m = a_closing (zs ++ ys) (joined zs ys k m)

only_closings : (n : ℕ) (at : Place) → AreMarks at (replicate n (closing at))
only_closings zero at = no_more
only_closings (suc n) at = a_closing (replicate n (closing at)) (only_closings n at)

-- whichever is chosen
pub chosen : {A : Type 0} (P : A → Type 0) (b : Bool) (x y : A) → P x → P y → P (cond b x y)
chosen P true x y p q = p
chosen P false x y p q = q

-- a step that is there inserts such tokens alone
abbrev pub Inserts : Place → Option (List Token × List Entry) → Type 0
Inserts at None = Unit {0}
Inserts at (Some step) = AreMarks at step.0

line_start_marks : (at : Place) (stack : List Entry) → AreMarks at (line_start at stack).0
line_start_marks at stack =
    let deeper = prefix_len (is_deeper at.column) stack in
    closings deeper at (if has_parts_at at (slice_get stack deeper) then semicolon at ∷ [] else []) (chosen (AreMarks at) (has_parts_at at (slice_get stack deeper)) (semicolon at ∷ []) [] (a_semicolon [] no_more) no_more)

at_line_start_marks : (first : Bool) (role : Role) (at : Place) (stack : List Entry) → AreMarks at (at_line_start first role at stack).0
at_line_start_marks first r.In at stack = no_more
at_line_start_marks first role at stack = chosen (λ (step : List Token × List Entry). AreMarks at step.0) first (line_start at stack) ([], stack) (line_start_marks at stack) no_more

open_block_marks : (of_let : Bool) (role : Role) (at : Place) (stack : List Entry) → Inserts at (open_block of_let role at stack)
open_block_marks of_let role at stack =
    let block = e.Block at.column of_let in
    chosen (Inserts at) (nat_lt (enclosing stack) at.column) (option_map (λ (es : List Entry). let step : List Token × List Entry = (opening at ∷ [], es) in step) (pushed block stack)) (Some (before_step (opening at ∷ closing at ∷ []) (at_line_start true role at stack)))
    (chosen (λ (p : Option (List Entry)). Inserts at (option_map (λ (es : List Entry). let step : List Token × List Entry = (opening at ∷ [], es) in step) p)) (nat_lt (length stack) 128) (Some (block ∷ stack)) None (an_opening [] no_more) tt)
    (an_opening (closing at ∷ (at_line_start true role at stack).0) (a_closing (at_line_start true role at stack).0 (at_line_start_marks true role at stack)))

placed_as_marks : (opens : Option Bool) (role : Role) (token : Token) (stack : List Entry) → Inserts token.at (placed_as opens role token stack)
placed_as_marks (Some of_let) role token stack = open_block_marks of_let role token.at stack
placed_as_marks None role token stack = at_line_start_marks token.first role token.at stack

in_behind_marks : (before : Before) (at : Place) (stack : List Entry) → AreMarks at (in_behind before at stack).0
in_behind_marks b.LetEnd at stack = no_more
in_behind_marks before at stack = only_closings (closed_by_in stack) at

acted_marks : (role : Role) (before : Before) (at : Place) (stack : List Entry) → Inserts at (acted role before at stack)
acted_marks (r.Opens opener) before at stack = chosen (λ (p : Option (List Entry)). Inserts at (option_map (λ (es : List Entry). let step : List Token × List Entry = ([], es) in step) p)) (nat_lt (length stack) 128) (Some (e.Open (known_as opener before) at ∷ stack)) None no_more tt
acted_marks (r.Closes opener) before at stack = chosen (Inserts at) (is_opener opener (nearest stack)) (Some (replicate (blocks_of stack) (closing at), reopened opener at (drop (blocks_of stack + 1) stack))) None (only_closings (blocks_of stack) at) tt
acted_marks r.Comma before at stack = only_closings (closed_by_comma stack) at
acted_marks r.In before at stack = in_behind_marks before at stack
acted_marks role before at stack = no_more

-- a turn that is there ends with its token, behind such tokens
abbrev pub EndsWith : Token → Option Turn → Type 0
EndsWith token None = Unit {0}
EndsWith token (Some turn) = (marks : List Token) × (AreMarks token.at marks) × (turn.tokens ≡ marks ++ (token ∷ []))

second_marks : (token : Token) (marks : List Token) (ask : Before) (act : Option (List Token × List Entry)) → AreMarks token.at marks → Inserts token.at act → EndsWith token (option_map (λ (q : List Token × List Entry). let turn : Turn = record { tokens = marks ++ (q.0 ++ token ∷ []); before = ask; stack = q.1 } in turn) act)
second_marks token marks ask None m i = tt
second_marks token marks ask (Some (more, stack)) m i = (marks ++ more, joined marks more m i, sym (append_assoc marks more (token ∷ [])))

first_marks : (token : Token) (ask : List Entry → Before) (act : List Entry → Option (List Token × List Entry)) (place : Option (List Token × List Entry)) → Inserts token.at place → ((stack : List Entry) → Inserts token.at (act stack))
    → EndsWith token (option_and_then (λ (p : List Token × List Entry). option_map (λ (q : List Token × List Entry). let turn : Turn = record { tokens = p.0 ++ (q.0 ++ token ∷ []); before = ask p.1; stack = q.1 } in turn) (act p.1)) place)
first_marks token ask act None m i = tt
first_marks token ask act (Some (marks, stack)) m i = second_marks token marks (ask stack) (act stack) m (i stack)

turn_marks : (before : Before) (token : Token) (stack : List Entry) → EndsWith token (turn_of before token stack)
turn_marks before token stack = first_marks token (asked (role_of token)) (acted (role_of token) before token.at) (placed before token stack) (placed_as_marks (opened before (role_of token)) (role_of token) token stack) (acted_marks (role_of token) before token.at)

-- what stands behind these tokens, where both together are there
pub front_ok : (front : List Token) (found : Result (List Token) Refusal) (filled : List Token) → in_front front found ≡ Ok filled → (others : List Token) × (found ≡ Ok others) × (front ++ others ≡ filled)
front_ok front (Ok others) filled is = (others, refl, cc)
front_ok front (Err refusal) filled is = absurd (cc)

marks_filled : (last : Place) (tokens marks filled : List Token) → AreMarks (next_place last tokens) marks → IsFilled last tokens filled → IsFilled last tokens (marks ++ filled)
marks_filled last tokens marks filled no_more f = f
marks_filled last tokens marks filled (an_opening others m) f = IsFilled.an_opening tokens (others ++ filled) (marks_filled last tokens others filled m f)
marks_filled last tokens marks filled (a_semicolon others m) f = IsFilled.a_semicolon tokens (others ++ filled) (marks_filled last tokens others filled m f)
marks_filled last tokens marks filled (a_closing others m) f = IsFilled.a_closing tokens (others ++ filled) (marks_filled last tokens others filled m f)

turn_filled : (last : Place) (token : Token) (tokens filled : List Token) (follows : Before → List Entry → Result (List Token) Refusal) (turn : Option Turn) → EndsWith token turn → ((before : Before) (stack : List Entry) (others : List Token) → follows before stack ≡ Ok others → IsFilled last tokens others)
    → goes_on token.at follows turn ≡ Ok filled → IsFilled last (token ∷ tokens) filled
turn_filled last token tokens filled follows None m f is = absurd (cc)
turn_filled last token tokens filled follows (Some turn) (marks, m, ends) f is =
    let parts = front_ok turn.tokens (follows turn.before turn.stack) filled is in
    let rest = f turn.before turn.stack parts.0 parts.1 in
    let whole : marks ++ (token ∷ parts.0) ≡ filled = sym (append_assoc marks (token ∷ []) parts.0) ∙ (ap (λ (ts : List Token). ts ++ parts.0) (sym ends) ∙ parts.2) in
    subst (IsFilled last (token ∷ tokens)) whole (marks_filled last (token ∷ tokens) marks (token ∷ parts.0) m (IsFilled.a_token token tokens parts.0 rest))

opened_marks : (before : Before) (at : Place) → AreMarks at (opened_at_end before at)
opened_marks b.Nothing at = an_opening (closing at ∷ []) (a_closing [] no_more)
opened_marks (b.Word of_let) at = an_opening (closing at ∷ []) (a_closing [] no_more)
opened_marks before at = no_more

end_filled : (last : Place) (before : Before) (stack : List Entry) (opener : Option Place) (filled : List Token) → closed_at_end last before stack opener ≡ Ok filled → IsFilled last [] filled
end_filled last before stack None filled is =
    let all = opened_at_end before last ++ replicate (length stack) (closing last) in
    let same : all ++ [] ≡ filled = append-nil all ∙ cc in
    subst (IsFilled last []) same (marks_filled last [] all [] (joined (opened_at_end before last) (replicate (length stack) (closing last)) (opened_marks before last) (only_closings (length stack) last)) IsFilled.the_end)
end_filled last before stack (Some opener) filled is = absurd (cc)

pub filled_from : (last : Place) (tokens : List Token) (before : Before) (stack : List Entry) (filled : List Token) → layout_from last tokens before stack ≡ Ok filled → IsFilled last tokens filled
unfolding layout_from
filled_from last [] before stack filled is = end_filled last before stack (lowest_opener stack) filled is
filled_from last (token ∷ tokens) before stack filled is = turn_filled last token tokens filled (layout_from last tokens) (turn_of before token stack) (turn_marks before token stack) (filled_from last tokens) is
