-- What is open behind what is emitted is what the stack has of brackets, a block being a brace.
use Rattle.std.proofs.Common.{◌≡◌, ℕ, zero, suc, ◌+◌, ◌≤◌, List, [], ◌∷◌, ◌++◌, length, Option, Some, None, Result, Ok, Bool, true, false, cond, refl, sym, ap, ◌∙◌, subst, arith}
use Rattle.std.specs.Prelude.{replicate, nat_lt, drop, if◌then◌else◌}
use Rattle.std.specs.List.{slice_get, prefix_len}
use Rattle.std.specs.Option.{option_map, option_and_then}
use Rattle.std.proofs.lemmas.List.{drop_all}
use Rattle.rw_base.specs.declared.place.Place.{Place}
use Rattle.rw_base.specs.declared.fail.Refusal.{Refusal}
use Rattle.rw_lex.specs.declared.token.Token.{Token}
use Rattle.rw_layout.specs.declared.entry.Opener.{Opener}
use Rattle.rw_layout.specs.declared.entry.Opener.TheVariants as o
use Rattle.rw_layout.specs.declared.entry.Entry.{Entry}
use Rattle.rw_layout.specs.declared.entry.Entry.TheVariants as e
use Rattle.rw_layout.specs.declared.role.Role.{Role}
use Rattle.rw_layout.specs.declared.role.Role.TheVariants as r
use Rattle.rw_layout.specs.declared.role.Before.{Before}
use Rattle.rw_layout.specs.declared.role.Before.TheVariants as b
use Rattle.rw_layout.specs.Layout.{Turn, opening, semicolon, closing, before_step, pushed, line_start, at_line_start, opened, open_block, placed_as, placed, in_behind, acted, asked, role_of, turn_of, lowest_opener, opened_at_end, goes_on, layout_from, has_parts_at, is_block, is_plain, is_deeper, nearest, is_opener, is_let_block, enclosing, closed_by_in, closed_by_comma, known_as, blocks_of, reopened, closed_at_end}
use Rattle.rw_layout.specs.Laws.{inside, outside, behind_token, open_behind}
use Rattle.rw_layout.proofs.Stacks.{drop_get}
use Rattle.rw_layout.proofs.Marks.{chosen, front_ok}

-- the brackets of a stack
abbrev pub brackets_of : List Entry → List Opener
brackets_of [] = []
brackets_of (e.Block n of_let ∷ stack) = o.Brace ∷ brackets_of stack
brackets_of (e.Open opener at ∷ stack) = inside opener (brackets_of stack)

-- ---- what is open behind tokens
open-append : (xs ys : List Token) (open_ones : List Opener) → open_behind open_ones (xs ++ ys) ≡ option_and_then (λ (others : List Opener). open_behind others ys) (open_behind open_ones xs)
open-append [] ys open_ones = refl
open-append (x ∷ xs) ys open_ones = after (behind_token (role_of x) open_ones) (open-append xs ys)
  where
    after : (found : Option (List Opener)) → ((others : List Opener) → open_behind others (xs ++ ys) ≡ option_and_then (λ (more : List Opener). open_behind more ys) (open_behind others xs))
        → option_and_then (λ (others : List Opener). open_behind others (xs ++ ys)) found ≡ option_and_then (λ (more : List Opener). open_behind more ys) (option_and_then (λ (others : List Opener). open_behind others xs) found)
    after None f = refl
    after (Some others) f = f others

both : (a b c : List Opener) (xs ys : List Token) → open_behind a xs ≡ Some b → open_behind b ys ≡ Some c → open_behind a (xs ++ ys) ≡ Some c
both a b c xs ys first second = open-append xs ys a ∙ (ap (option_and_then (λ (others : List Opener). open_behind others ys)) first ∙ second)

one_token : (token : Token) (role : Role) (open_ones others : List Opener) → role_of token ≡ role → behind_token role open_ones ≡ Some others → open_behind open_ones (token ∷ []) ≡ Some others
one_token token role open_ones others is found = ap (λ (r : Role). option_and_then (λ (more : List Opener). open_behind more []) (behind_token r open_ones)) is ∙ ap (option_and_then (λ (more : List Opener). open_behind more [])) found

-- ---- blocks that are closed
closes_blocks : (n : ℕ) (stack : List Entry) (at : Place) → n ≤ prefix_len is_block stack → open_behind (brackets_of stack) (replicate n (closing at)) ≡ Some (brackets_of (drop n stack))
closes_blocks zero stack at few = refl
closes_blocks (suc n) [] at few = absurd (omega arith)
closes_blocks (suc n) (e.Block m of_let ∷ stack) at few = closes_blocks n stack at (omega arith)
closes_blocks (suc n) (e.Open opener place ∷ stack) at few = absurd (omega arith)

longer : (b c : Bool) (m n : ℕ) → (b ≡ true → c ≡ true) → m ≤ n → cond b (1 + m) 0 ≤ cond c (1 + n) 0
longer true true m n h few = omega arith
longer true false m n h few = let no : false ≡ true = h refl in absurd (cc)
longer false c m n h few = omega arith

within_blocks : (p : Entry → Bool) → ((entry : Entry) → p entry ≡ true → is_block entry ≡ true) → (stack : List Entry) → prefix_len p stack ≤ prefix_len is_block stack
within_blocks p h [] = omega arith
within_blocks p h (entry ∷ stack) = longer (p entry) (is_block entry) (prefix_len p stack) (prefix_len is_block stack) (h entry) (within_blocks p h stack)

deeper_block : (column : ℕ) (entry : Entry) → is_deeper column entry ≡ true → is_block entry ≡ true
deeper_block column (e.Block n of_let) is = refl
deeper_block column (e.Open opener at) is = absurd (cc)

-- ---- where a token stands: a step that is there opens and closes as the stack does
abbrev pub Keeps : List Entry → Option (List Token × List Entry) → Type 0
Keeps stack None = Unit {0}
Keeps stack (Some step) = open_behind (brackets_of stack) step.0 ≡ Some (brackets_of step.1)

line_start_keeps : (at : Place) (stack : List Entry) → open_behind (brackets_of stack) (line_start at stack).0 ≡ Some (brackets_of (line_start at stack).1)
line_start_keeps at stack =
    let deeper = prefix_len (is_deeper at.column) stack in
    let rest = brackets_of (drop deeper stack) in
    both (brackets_of stack) rest rest (replicate deeper (closing at)) (if has_parts_at at (slice_get stack deeper) then semicolon at ∷ [] else []) (closes_blocks deeper stack at (within_blocks (is_deeper at.column) (deeper_block at.column) stack))
    (chosen (λ (ts : List Token). open_behind rest ts ≡ Some rest) (has_parts_at at (slice_get stack deeper)) (semicolon at ∷ []) [] refl refl)

at_line_start_keeps : (first : Bool) (role : Role) (at : Place) (stack : List Entry) → open_behind (brackets_of stack) (at_line_start first role at stack).0 ≡ Some (brackets_of (at_line_start first role at stack).1)
at_line_start_keeps first r.In at stack = refl
at_line_start_keeps first role at stack = chosen (λ (step : List Token × List Entry). open_behind (brackets_of stack) step.0 ≡ Some (brackets_of step.1)) first (line_start at stack) ([], stack) (line_start_keeps at stack) refl

open_block_keeps : (of_let : Bool) (role : Role) (at : Place) (stack : List Entry) → Keeps stack (open_block of_let role at stack)
open_block_keeps of_let role at stack =
    let block = e.Block at.column of_let in
    chosen (Keeps stack) (nat_lt (enclosing stack) at.column) (option_map (λ (es : List Entry). let step : List Token × List Entry = (opening at ∷ [], es) in step) (pushed block stack)) (Some (before_step (opening at ∷ closing at ∷ []) (at_line_start true role at stack)))
    (chosen (λ (p : Option (List Entry)). Keeps stack (option_map (λ (es : List Entry). let step : List Token × List Entry = (opening at ∷ [], es) in step) p)) (nat_lt (length stack) 128) (Some (block ∷ stack)) None refl tt) (at_line_start_keeps true role at stack)

placed_as_keeps : (opens : Option Bool) (role : Role) (token : Token) (stack : List Entry) → Keeps stack (placed_as opens role token stack)
placed_as_keeps (Some of_let) role token stack = open_block_keeps of_let role token.at stack
placed_as_keeps None role token stack = at_line_start_keeps token.first role token.at stack

-- ---- what a token is: the same of a step and the token behind it
abbrev pub Acts : Token → List Entry → Option (List Token × List Entry) → Type 0
Acts token stack None = Unit {0}
Acts token stack (Some step) = open_behind (brackets_of stack) (step.0 ++ token ∷ []) ≡ Some (brackets_of step.1)

chosen_by : {A : Type 0} (P : A → Type 0) (b : Bool) (x y : A) → (b ≡ true → P x) → P y → P (cond b x y)
chosen_by P true x y p q = p refl
chosen_by P false x y p q = q

known_inside : (opener : Opener) (before : Before) (open_ones : List Opener) → inside opener open_ones ≡ inside (known_as opener before) open_ones
known_inside o.Brace (b.Word true) open_ones = refl
known_inside opener before open_ones = refl

no_opener : (opener : Opener) → is_opener opener None ≡ false
no_opener o.Paren = refl
no_opener opener = refl

closer_keeps : (opener : Opener) (entry : Entry) (rest : List Entry) (at : Place) → is_opener opener (Some entry) ≡ true → outside opener (brackets_of (entry ∷ rest)) ≡ Some (brackets_of (reopened opener at rest))
closer_keeps o.Paren (e.Open o.Paren place) rest at is = refl
closer_keeps o.Brace (e.Open o.Brace place) rest at is = refl
closer_keeps o.Brace (e.Open o.LetBrace place) rest at is = refl
closer_keeps o.Case (e.Open o.Case place) rest at is = refl
closer_keeps o.If (e.Open o.If place) rest at is = refl
closer_keeps o.Then (e.Open o.Then place) rest at is = refl
closer_keeps opener entry rest at is = absurd (cc)

closes_opener : (token : Token) (opener : Opener) (at : Place) (stack : List Entry) (entry : Option Entry) → role_of token ≡ r.Closes opener → nearest stack ≡ entry → is_opener opener entry ≡ true
    → open_behind (brackets_of stack) (replicate (blocks_of stack) (closing at) ++ token ∷ []) ≡ Some (brackets_of (reopened opener at (drop (blocks_of stack + 1) stack)))
closes_opener token opener at stack None role here met = let no : is_opener opener None ≡ false = no_opener opener in absurd (cc)
closes_opener token opener at stack (Some entry) role here met =
    let n = blocks_of stack in
    let rest = drop (suc n) stack in
    let below : drop n stack ≡ entry ∷ rest = drop_get stack n entry here in
    let next : n + 1 ≡ suc n = omega arith in
    let closed : outside opener (brackets_of (drop n stack)) ≡ Some (brackets_of (reopened opener at (drop (n + 1) stack))) = ap (λ (es : List Entry). outside opener (brackets_of es)) below ∙ (closer_keeps opener entry rest at met ∙ ap (λ (k : ℕ). Some (brackets_of (reopened opener at (drop k stack)))) (sym next)) in
    both (brackets_of stack) (brackets_of (drop n stack)) (brackets_of (reopened opener at (drop (n + 1) stack))) (replicate n (closing at)) (token ∷ []) (closes_blocks n stack at (omega arith)) (one_token token (r.Closes opener) (brackets_of (drop n stack)) (brackets_of (reopened opener at (drop (n + 1) stack))) role closed)

closes_acts : (token : Token) (role : Role) (n : ℕ) (at : Place) (stack : List Entry) → role_of token ≡ role → ((open_ones : List Opener) → behind_token role open_ones ≡ Some open_ones) → n ≤ prefix_len is_block stack → open_behind (brackets_of stack) (replicate n (closing at) ++ token ∷ []) ≡ Some (brackets_of (drop n stack))
closes_acts token role n at stack is word few = both (brackets_of stack) (brackets_of (drop n stack)) (brackets_of (drop n stack)) (replicate n (closing at)) (token ∷ []) (closes_blocks n stack at few) (one_token token role (brackets_of (drop n stack)) (brackets_of (drop n stack)) is (word (brackets_of (drop n stack))))

comma_few : (stack : List Entry) → closed_by_comma stack ≤ prefix_len is_block stack
comma_few stack = chosen (λ (n : ℕ). n ≤ prefix_len is_block stack) (is_opener o.Paren (nearest stack)) (blocks_of stack) 0 (omega arith) (omega arith)

one_more : (n : ℕ) → 1 + n ≡ suc n
one_more n = omega arith

let_within : (stack : List Entry) → is_let_block (slice_get stack (prefix_len is_plain stack)) ≡ true → prefix_len is_plain stack + 1 ≤ prefix_len is_block stack
let_within [] is = absurd (cc)
let_within (e.Block n true ∷ stack) is = omega arith
let_within (e.Block n false ∷ stack) is =
    let more = let_within stack (subst (λ (k : ℕ). is_let_block (slice_get (e.Block n false ∷ stack) k) ≡ true) (one_more (prefix_len is_plain stack)) is) in omega arith
let_within (e.Open opener at ∷ stack) is = absurd (cc)

in_few : (stack : List Entry) → closed_by_in stack ≤ prefix_len is_block stack
in_few stack = chosen_by (λ (n : ℕ). n ≤ prefix_len is_block stack) (is_let_block (slice_get stack (prefix_len is_plain stack))) (prefix_len is_plain stack + 1) 0 (let_within stack) (omega arith)

in_acts : (token : Token) (before : Before) (at : Place) (stack : List Entry) → role_of token ≡ r.In → open_behind (brackets_of stack) ((in_behind before at stack).0 ++ token ∷ []) ≡ Some (brackets_of (in_behind before at stack).1)
in_acts token b.LetEnd at stack is = one_token token r.In (brackets_of stack) (brackets_of stack) is refl
in_acts token before at stack is = closes_acts token r.In (closed_by_in stack) at stack is (λ open_ones. refl) (in_few stack)

acts_on : (token : Token) (role : Role) (before : Before) (at : Place) (stack : List Entry) → role_of token ≡ role → Acts token stack (acted role before at stack)
acts_on token (r.Opens opener) before at stack is =
    chosen (λ (p : Option (List Entry)). Acts token stack (option_map (λ (es : List Entry). let step : List Token × List Entry = ([], es) in step) p)) (nat_lt (length stack) 128) (Some (e.Open (known_as opener before) at ∷ stack)) None
    (one_token token (r.Opens opener) (brackets_of stack) (inside (known_as opener before) (brackets_of stack)) is (ap Some (known_inside opener before (brackets_of stack)))) tt
acts_on token (r.Closes opener) before at stack is =
    chosen_by (Acts token stack) (is_opener opener (nearest stack)) (Some (replicate (blocks_of stack) (closing at), reopened opener at (drop (blocks_of stack + 1) stack))) None (closes_opener token opener at stack (nearest stack) is refl) tt
acts_on token r.Comma before at stack is = closes_acts token r.Comma (closed_by_comma stack) at stack is (λ open_ones. refl) (comma_few stack)
acts_on token r.In before at stack is = in_acts token before at stack is
acts_on token role before at stack is = one_token token role (brackets_of stack) (brackets_of stack) is refl

-- ---- a turn, and the whole
abbrev pub Turns : List Entry → Option Turn → Type 0
Turns stack None = Unit {0}
Turns stack (Some turn) = open_behind (brackets_of stack) turn.tokens ≡ Some (brackets_of turn.stack)

second_keeps : (token : Token) (marks : List Token) (ask : Before) (stack mid : List Entry) (act : Option (List Token × List Entry)) → open_behind (brackets_of stack) marks ≡ Some (brackets_of mid) → Acts token mid act
    → Turns stack (option_map (λ (q : List Token × List Entry). let turn : Turn = record { tokens = marks ++ (q.0 ++ token ∷ []); before = ask; stack = q.1 } in turn) act)
second_keeps token marks ask stack mid None k a = tt
second_keeps token marks ask stack mid (Some (more, rest)) k a = both (brackets_of stack) (brackets_of mid) (brackets_of rest) marks (more ++ token ∷ []) k a

first_keeps : (token : Token) (ask : List Entry → Before) (act : List Entry → Option (List Token × List Entry)) (stack : List Entry) (place : Option (List Token × List Entry)) → Keeps stack place → ((mid : List Entry) → Acts token mid (act mid))
    → Turns stack (option_and_then (λ (p : List Token × List Entry). option_map (λ (q : List Token × List Entry). let turn : Turn = record { tokens = p.0 ++ (q.0 ++ token ∷ []); before = ask p.1; stack = q.1 } in turn) (act p.1)) place)
first_keeps token ask act stack None k a = tt
first_keeps token ask act stack (Some (marks, mid)) k a = second_keeps token marks (ask mid) stack mid (act mid) k (a mid)

turn_keeps : (before : Before) (token : Token) (stack : List Entry) → Turns stack (turn_of before token stack)
turn_keeps before token stack =
    first_keeps token (asked (role_of token)) (acted (role_of token) before token.at) stack (placed before token stack) (placed_as_keeps (opened before (role_of token)) (role_of token) token stack) (λ mid. acts_on token (role_of token) before token.at mid refl)

turn_balanced : (token : Token) (stack : List Entry) (filled : List Token) (follows : Before → List Entry → Result (List Token) Refusal) (turn : Option Turn) → Turns stack turn → ((before : Before) (rest : List Entry) (others : List Token) → follows before rest ≡ Ok others → open_behind (brackets_of rest) others ≡ Some [])
    → goes_on token.at follows turn ≡ Ok filled → open_behind (brackets_of stack) filled ≡ Some []
turn_balanced token stack filled follows None t f is = absurd (cc)
turn_balanced token stack filled follows (Some turn) t f is =
    let parts = front_ok turn.tokens (follows turn.before turn.stack) filled is in
    subst (λ (ts : List Token). open_behind (brackets_of stack) ts ≡ Some []) parts.2 (both (brackets_of stack) (brackets_of turn.stack) [] turn.tokens parts.0 t (f turn.before turn.stack parts.0 parts.1))

all_blocks : (stack : List Entry) → lowest_opener stack ≡ None → length stack ≤ prefix_len is_block stack
all_blocks [] none = omega arith
all_blocks (e.Block n of_let ∷ stack) none = let more = all_blocks stack none in omega arith
all_blocks (e.Open opener at ∷ stack) none = absurd (cc)

opened_nothing : (before : Before) (at : Place) (open_ones : List Opener) → open_behind open_ones (opened_at_end before at) ≡ Some open_ones
opened_nothing b.Nothing at open_ones = refl
opened_nothing (b.Word of_let) at open_ones = refl
opened_nothing before at open_ones = refl

end_balanced : (last : Place) (before : Before) (stack : List Entry) (opener : Option Place) (filled : List Token) → lowest_opener stack ≡ opener → closed_at_end last before stack opener ≡ Ok filled → open_behind (brackets_of stack) filled ≡ Some []
end_balanced last before stack None filled none is =
    let closers = replicate (length stack) (closing last) in
    let closed : open_behind (brackets_of stack) closers ≡ Some [] = closes_blocks (length stack) stack last (all_blocks stack none) ∙ ap (λ (es : List Entry). Some (brackets_of es)) (drop_all (length stack) stack (omega arith)) in
    let same : opened_at_end before last ++ closers ≡ filled = cc in
    subst (λ (ts : List Token). open_behind (brackets_of stack) ts ≡ Some []) same (both (brackets_of stack) (brackets_of stack) [] (opened_at_end before last) closers (opened_nothing before last (brackets_of stack)) closed)
end_balanced last before stack (Some opener) filled none is = absurd (cc)

pub balanced_from : (last : Place) (tokens : List Token) (before : Before) (stack : List Entry) (filled : List Token) → layout_from last tokens before stack ≡ Ok filled → open_behind (brackets_of stack) filled ≡ Some []
unfolding layout_from
balanced_from last [] before stack filled is = end_balanced last before stack (lowest_opener stack) filled refl is
balanced_from last (token ∷ tokens) before stack filled is = turn_balanced token stack filled (layout_from last tokens) (turn_of before token stack) (turn_keeps before token stack) (balanced_from last tokens) is
