-- One turn, and what follows it.
use Rattle.std.proofs.Common.{◌≡◌, ℕ, suc, ◌+◌, ◌<◌, List, [], ◌∷◌, ◌++◌, length, get_or, take, drop, Option, Some, None, Result, Ok, Err, true, refl, sym, ap, ◌∙◌, subst, append_assoc, arith}
use Rattle.std.specs.Prelude.{replicate}
use Rattle.std.specs.List.{slice_get}
use Rattle.std.specs.Option.{option_map, option_and_then}
use Rattle.std.proofs.lemmas.List.{drop-drop}
use Rattle.std.proofs.Math.Seq.{drop-cons}
use Rattle.std.proofs.lemmas.Grind.{common_steps}
use Rattle.rw_base.specs.declared.place.Place.{Place}
use Rattle.rw_base.specs.declared.fail.Refusal.{Refusal}
use Rattle.rw_base.specs.Answers.{Fail}
use Rattle.rw_base.specs.declared.fail.Failure.TheVariants as fail
use Rattle.rw_base.specs.declared.rule.Rule.TheVariants.{E04}
use Rattle.rw_lex.specs.declared.token.Token.{Token}
use Rattle.rw_base.specs.Answers.{Answers}
use Rattle.rw_layout.specs.declared.entry.Opener.{Opener}
use Rattle.rw_layout.specs.declared.entry.Entry.{Entry}
use Rattle.rw_layout.specs.declared.role.Role.{Role}
use Rattle.rw_layout.specs.declared.role.Before.{Before}
use Rattle.rw_layout.specs.Layout.{Turn, closing, before_step, blocks_of, nearest, is_opener, reopened, close_to, placed, placed_as, opened, acted, asked, role_of, turn_of, broken_at, in_front, goes_on, layout_from, ended, closed_at_end, lowest_opener, last_place}
use Rattle.rw_layout.specs.Steps.{turn_behind, Leaves}

-- the blocks above an opener are closed, and it is popped
pub close_found : (opener : Opener) (at : Place) (stack rest : List Entry) (out new : List Token) (blocks : ℕ) → blocks ≡ blocks_of stack → is_opener opener (slice_get stack blocks) ≡ true → new ≡ out ++ replicate blocks (closing at) → rest ≡ reopened opener at (drop 1 (drop blocks stack))
    → option_map (before_step out) (close_to opener at stack) ≡ Some (new, rest)
close_found opener at stack rest out new blocks same is put left =
    let deep : drop 1 (drop (blocks_of stack) stack) ≡ drop (blocks_of stack + 1) stack = grind (arith, drop-drop {A = Entry}) in
    let met : is_opener opener (nearest stack) ≡ true = subst (λ n. is_opener opener (slice_get stack n) ≡ true) same is in
    let new_is : new ≡ out ++ replicate (blocks_of stack) (closing at) = subst (λ n. new ≡ out ++ replicate n (closing at)) same put in
    let rest_is : rest ≡ reopened opener at (drop (blocks_of stack + 1) stack) = subst (λ n. rest ≡ reopened opener at (drop 1 (drop n stack))) same left ∙ ap (reopened opener at) deep in
    rw (met, new_is, rest_is) refl

same_some : {A : Type 0} {a b : A} → Some a ≡ Some b → a ≡ b
same_some e = cc

second_step : (act : List Entry → Option (List Token × List Entry)) (ask : List Entry → Before) (token : Token) (xs : List Token) (stack : List Entry) (out out2 : List Token) (stack2 : List Entry) (acts : Option (List Token × List Entry)) → option_map (before_step (out ++ xs)) acts ≡ Some (out2, stack2)
    → option_map (turn_behind out) (option_map (λ (q : List Token × List Entry). let turn : Turn = record { tokens = xs ++ (q.0 ++ token ∷ []); before = ask stack; stack = q.1 } in turn) acts) ≡ Some (record { tokens = out2 ++ token ∷ []; before = ask stack; stack = stack2 })
second_step act ask token xs stack out out2 stack2 None done = absurd (cc)
second_step act ask token xs stack out out2 stack2 (Some (ys, rest)) done =
    let emitted : (out ++ xs) ++ ys ≡ out2 = ap (λ (p : List Token × List Entry). p.0) (same_some done) in
    let left : rest ≡ stack2 = ap (λ (p : List Token × List Entry). p.1) (same_some done) in
    let regroup : out ++ (xs ++ (ys ++ token ∷ [])) ≡ ((out ++ xs) ++ ys) ++ token ∷ [] = simp append_assoc in
    rw (regroup, emitted, left) refl

-- what is inserted where a token stands, then what is inserted for what it is, then the token
two_steps : (act : List Entry → Option (List Token × List Entry)) (ask : List Entry → Before) (token : Token) (place : Option (List Token × List Entry)) (out out1 out2 : List Token) (stack1 stack2 : List Entry)
    → option_map (before_step out) place ≡ Some (out1, stack1) → option_map (before_step out1) (act stack1) ≡ Some (out2, stack2)
    → option_map (turn_behind out) (option_and_then (λ (p : List Token × List Entry). option_map (λ (q : List Token × List Entry). let turn : Turn = record { tokens = p.0 ++ (q.0 ++ token ∷ []); before = ask p.1; stack = q.1 } in turn) (act p.1)) place)
    ≡ Some (record { tokens = out2 ++ token ∷ []; before = ask stack1; stack = stack2 })
two_steps act ask token None out out1 out2 stack1 stack2 first second = absurd (cc)
two_steps act ask token (Some (xs, stack)) out out1 out2 stack1 stack2 first second =
    let emitted : out ++ xs ≡ out1 = ap (λ (p : List Token × List Entry). p.0) (same_some first) in
    let left : stack ≡ stack1 = ap (λ (p : List Token × List Entry). p.1) (same_some first) in
    let done : option_map (before_step (out ++ xs)) (act stack) ≡ Some (out2, stack2) = rw (emitted, left) second in
    rw (← left) (second_step act ask token xs stack out out2 stack2 (act stack) done)

pub turn_found : (before : Before) (token : Token) (stack stack1 stack2 : List Entry) (out out1 out2 : List Token) → option_map (before_step out) (placed before token stack) ≡ Some (out1, stack1) → option_map (before_step out1) (acted (role_of token) before token.at stack1) ≡ Some (out2, stack2)
    → option_map (turn_behind out) (turn_of before token stack) ≡ Some (record { tokens = out2 ++ token ∷ []; before = asked (role_of token) stack1; stack = stack2 })
turn_found before token stack stack1 stack2 out out1 out2 first second = two_steps (acted (role_of token) before token.at) (asked (role_of token)) token (placed before token stack) out out1 out2 stack1 stack2 first second

-- the same as the code has it
pub turn_made : (role : Role) (before before1 asks : Before) (token copy : Token) (stack stack1 stack2 : List Entry) (out out1 out2 out3 : List Token) → role ≡ role_of token → before1 ≡ before
    → option_map (before_step out) (placed_as (opened before role) role token stack) ≡ Some (out1, stack1) → option_map (before_step out1) (acted role before1 token.at stack1) ≡ Some (out2, stack2) → asks ≡ asked role stack1 → copy ≡ token → out3 ≡ out2 ++ copy ∷ []
    → option_map (turn_behind out) (turn_of before token stack) ≡ Some (record { tokens = out3; before = asks; stack = stack2 })
turn_made role before before1 asks token copy stack stack1 stack2 out out1 out2 out3 same kept first second asks_it is emitted =
    let first1 : option_map (before_step out) (placed before token stack) ≡ Some (out1, stack1) = subst (λ (r : Role). option_map (before_step out) (placed_as (opened before r) r token stack) ≡ Some (out1, stack1)) same first in
    let second1 : option_map (before_step out1) (acted (role_of token) before token.at stack1) ≡ Some (out2, stack2) =
    subst (λ (r : Role). option_map (before_step out1) (acted r before token.at stack1) ≡ Some (out2, stack2)) same (subst (λ (b : Before). option_map (before_step out1) (acted role b token.at stack1) ≡ Some (out2, stack2)) kept second) in
    let asks_is : asks ≡ asked (role_of token) stack1 = asks_it ∙ ap (λ (r : Role). asked r stack1) same in
    let out_is : out3 ≡ out2 ++ token ∷ [] = emitted ∙ ap (λ (t : Token). out2 ++ t ∷ []) is in
    rw (asks_is, out_is) (turn_found before token stack stack1 stack2 out out1 out2 first1 second1)

-- ---- what follows a turn
in_front-none : (r : Result (List Token) Refusal) → in_front [] r ≡ r
in_front-none (Ok tokens) = refl
in_front-none (Err refusal) = refl

in_front-in_front : (xs ys : List Token) (r : Result (List Token) Refusal) → in_front xs (in_front ys r) ≡ in_front (xs ++ ys) r
in_front-in_front xs ys (Ok tokens) = ap Ok (sym (append_assoc xs ys tokens))
in_front-in_front xs ys (Err refusal) = refl

goes_found : (out : List Token) (at : Place) (follows : Before → List Entry → Result (List Token) Refusal) (turn : Option Turn) (new : Turn) → option_map (turn_behind out) turn ≡ Some new → in_front out (goes_on at follows turn) ≡ in_front new.tokens (follows new.before new.stack)
goes_found out at follows None new e = absurd (cc)
goes_found out at follows (Some turn) new e = in_front-in_front out turn.tokens (follows turn.before turn.stack) ∙ ap (λ (t : Option Turn). elim t [ None ↦ in_front [] (follows new.before new.stack) | Some u ↦ in_front u.tokens (follows u.before u.stack) ]) e

goes_nowhere : (out : List Token) (at : Place) (follows : Before → List Entry → Result (List Token) Refusal) (turn : Option Turn) → option_map (turn_behind out) turn ≡ None → in_front out (goes_on at follows turn) ≡ Err (broken_at at)
goes_nowhere out at follows None e = refl
goes_nowhere out at follows (Some turn) e = absurd (cc)

pub turn_on : (last : Place) (before : Before) (stack : List Entry) (token : Token) (tokens : List Token) (out : List Token) (new : Turn) → option_map (turn_behind out) (turn_of before token stack) ≡ Some new → in_front new.tokens (layout_from last tokens new.before new.stack) ≡ in_front out (layout_from last (token ∷ tokens) before stack)
unfolding layout_from
turn_on last before stack token tokens out new e = sym (goes_found out token.at (layout_from last tokens) (turn_of before token stack) new e)

pub turn_fails : (last : Place) (before : Before) (stack : List Entry) (token : Token) (tokens : List Token) (out : List Token) → option_map (turn_behind out) (turn_of before token stack) ≡ None → in_front out (layout_from last (token ∷ tokens) before stack) ≡ Err (broken_at token.at)
unfolding layout_from
turn_fails last before stack token tokens out e = goes_nowhere out token.at (layout_from last tokens) (turn_of before token stack) e

pub turn_ends : (last : Place) (before : Before) (stack : List Entry) (out : List Token) → in_front out (layout_from last [] before stack) ≡ in_front out (ended last before stack)
unfolding layout_from
turn_ends last before stack out = refl

pub turn_begins : (r : Result (List Token) Refusal) → in_front [] r ≡ r
turn_begins r = in_front-none r

-- ---- the tokens one by one
pub next_token : (tokens : List Token) (i : ℕ) (token : Token) → i < length tokens → token ≡ get_or tokens i token → drop i tokens ≡ token ∷ drop (i + 1) tokens
next_token tokens i token within is =
    let next : i + 1 ≡ suc i = omega arith in
    rw next (drop-cons tokens i token within ∙ ap (λ (t : Token). t ∷ drop (suc i) tokens) (sym is))

pub last_more : (tokens : List Token) (i : ℕ) (token : Token) → i < length tokens → token ≡ get_or tokens i token → token.at ≡ last_place (take (i + 1) tokens)
last_more tokens i token within is = grind (arith, common_steps)

-- a refusal of the turn is that of the whole
pub fails_on : {X : Type 0} (view : X → List Token) (failure : Fail) (at : Place) (new : Turn) (found : Option Turn) (whole : Result (List Token) Refusal) → Leaves (Err failure) at new found → (found ≡ None → whole ≡ Err (broken_at at)) → Answers view (Err failure) whole
fails_on view (fail.Refused refusal) at new found whole gives then = then gives.0 ∙ ap Err (sym gives.1)
fails_on view fail.OutOfMemory at new found whole gives then = tt

-- ---- refusals
in_front-err : (front : List Token) (found : Result (List Token) Refusal) (refusal : Refusal) → in_front front found ≡ Err refusal → found ≡ Err refusal
in_front-err front (Ok others) refusal is = absurd (cc)
in_front-err front (Err other) refusal is = is

turn_refuses : (at : Place) (follows : Before → List Entry → Result (List Token) Refusal) (turn : Option Turn) (refusal : Refusal) → ((before : Before) (stack : List Entry) → follows before stack ≡ Err refusal → refusal.rule ≡ E04) → goes_on at follows turn ≡ Err refusal → refusal.rule ≡ E04
turn_refuses at follows None refusal f is = let same : broken_at at ≡ refusal = cc in sym (ap (λ (r : Refusal). r.rule) same)
turn_refuses at follows (Some turn) refusal f is = f turn.before turn.stack (in_front-err turn.tokens (follows turn.before turn.stack) refusal is)

end_refuses : (last : Place) (before : Before) (stack : List Entry) (opener : Option Place) (refusal : Refusal) → closed_at_end last before stack opener ≡ Err refusal → refusal.rule ≡ E04
end_refuses last before stack None refusal is = absurd (cc)
end_refuses last before stack (Some opener) refusal is = let same : broken_at opener ≡ refusal = cc in sym (ap (λ (r : Refusal). r.rule) same)

-- each is by E04
pub refuses_from : (last : Place) (tokens : List Token) (before : Before) (stack : List Entry) (refusal : Refusal) → layout_from last tokens before stack ≡ Err refusal → refusal.rule ≡ E04
unfolding layout_from
refuses_from last [] before stack refusal is = end_refuses last before stack (lowest_opener stack) refusal is
refuses_from last (token ∷ tokens) before stack refusal is = turn_refuses token.at (layout_from last tokens) (turn_of before token stack) refusal (λ before1 stack1. refuses_from last tokens before1 stack1 refusal) is
