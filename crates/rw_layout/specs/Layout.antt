-- Layout: where braces and semicolons are inserted between tokens (Haskell 2010 Report, section 10.3, in this
-- project's profile). The tokens are taken from left to right, with a stack of what is open around the next one: blocks
-- with their columns, and openers. The stack is a list, its top first. At each token the parts of the rule are applied in
-- order; each is a function from the stack to the tokens that are inserted and the stack that is left. Where one gives nothing,
-- the rule E04 is broken at that token. `layout_of`, at the end, is the whole.
use Rattle.std.specs.Prelude.{ℕ, ◌+◌, Bool, true, false, not, nat_eq, nat_lt, List, [], ◌∷◌, ◌++◌, length, drop, replicate, fold, codes, unwrap_or, Option, Some, None, Result, Ok, Err, if◌then◌else◌}
use Rattle.std.specs.List.{prefix_len, slice_get}
use Rattle.std.specs.Option.{option_map, option_and_then}
use Rattle.std.specs.Str.{bytes_eq}
use Rattle.rw_base.specs.declared.place.Place.{Place}
use Rattle.rw_base.specs.declared.fail.Refusal.{Refusal}
use Rattle.rw_base.specs.declared.rule.Rule.TheVariants.{E04}
use Rattle.rw_base.specs.Places.{place_after}
use Rattle.rw_lex.specs.declared.token.TokenKind.{TokenKind}
use Rattle.rw_lex.specs.declared.token.TokenKind.TheVariants as kind
use Rattle.rw_lex.specs.declared.token.Token.{Token}
use Rattle.rw_layout.specs.declared.entry.Opener.{Opener}
use Rattle.rw_layout.specs.declared.entry.Opener.TheVariants as o
use Rattle.rw_layout.specs.declared.entry.Entry.{Entry}
use Rattle.rw_layout.specs.declared.entry.Entry.TheVariants as e
use Rattle.rw_layout.specs.declared.role.Role.{Role}
use Rattle.rw_layout.specs.declared.role.Role.TheVariants as r
use Rattle.rw_layout.specs.declared.role.Before.{Before}
use Rattle.rw_layout.specs.declared.role.Before.TheVariants as b

-- ---- what the rule sees of a token

-- the keywords that the rule knows
abbrev pub keywords : List (List ℕ × Role)
keywords = (codes "module", r.Module) ∷ (codes "where", r.Begins false) ∷ (codes "do", r.Begins false) ∷ (codes "let", r.Begins true) ∷ (codes "case", r.Opens o.Case) ∷ (codes "if", r.Opens o.If)
    ∷ (codes "of", r.Closes o.Case) ∷ (codes "then", r.Closes o.If) ∷ (codes "else", r.Closes o.Then) ∷ (codes "in", r.In) ∷ []

-- the special characters that it knows
abbrev pub specials : List (List ℕ × Role)
specials = (codes "(", r.Opens o.Paren) ∷ (codes "{", r.Opens o.Brace) ∷ (codes ")", r.Closes o.Paren) ∷ (codes "}", r.Closes o.Brace) ∷ (codes ",", r.Comma) ∷ []

-- what a table says of a text
abbrev pub role_in : List (List ℕ × Role) → List ℕ → Role
role_in [] text = r.Other
role_in (row ∷ rows) text = if bytes_eq text row.0 then row.1 else role_in rows text

-- the role of a token of this kind and text
abbrev pub role_as : TokenKind → List ℕ → Role
role_as kind.Keyword text = role_in keywords text
role_as kind.Special text = role_in specials text
role_as _ text = r.Other

-- the role of a token
abbrev pub role_of : Token → Role
role_of token = role_as token.kind token.text

-- ---- what is inserted

-- an inserted brace or semicolon; it stands where the next written token does
abbrev pub inserted : List ℕ → Place → Token
inserted text at = record { kind = kind.Special; text = text; at = at; first = false }

-- `{`, `;` and `}`
abbrev pub opening : Place → Token
opening at = inserted (codes "{") at

abbrev pub semicolon : Place → Token
semicolon at = inserted (codes ";") at

abbrev pub closing : Place → Token
closing at = inserted (codes "}") at

-- what is done before a token: the tokens that are inserted, and the stack that is left
abbrev pub Step : Type 0
Step = List Token × List Entry

-- so many blocks on top of the stack are closed, with a `}` for each
abbrev pub close : ℕ → Place → List Entry → Step
close n at stack = (replicate n (closing at), drop n stack)

-- these tokens before those of a step
abbrev pub before_step : List Token → Step → Step
before_step tokens step = (tokens ++ step.0, step.1)

-- ---- the stack

-- a push, unless it makes the stack higher than 128
abbrev pub pushed : Entry → List Entry → Option (List Entry)
pushed entry stack = if nat_lt (length stack) 128 then Some (entry ∷ stack) else None

-- a block
abbrev pub is_block : Entry → Bool
is_block (e.Block n of_let) = true
is_block (e.Open opener at) = false

-- a block that is not of a `let`
abbrev pub is_plain : Entry → Bool
is_plain (e.Block n of_let) = not of_let
is_plain (e.Open opener at) = false

-- a block whose column is greater than this
abbrev pub is_deeper : ℕ → Entry → Bool
is_deeper column (e.Block n of_let) = nat_lt column n
is_deeper column (e.Open opener at) = false

-- how many blocks are on top, above the nearest other entry or the end
abbrev pub blocks_of : List Entry → ℕ
blocks_of stack = prefix_len is_block stack

-- the nearest entry that is no block, if there is one
abbrev pub nearest : List Entry → Option Entry
nearest stack = slice_get stack (blocks_of stack)

-- the column of the nearest block, 0 if a written brace comes first or there is none
abbrev pub enclosing : List Entry → ℕ
enclosing [] = 0
enclosing (e.Block n of_let ∷ stack) = n
enclosing (e.Open o.Brace at ∷ stack) = 0
enclosing (e.Open o.LetBrace at ∷ stack) = 0
enclosing (e.Open o.Paren at ∷ stack) = enclosing stack
enclosing (e.Open o.Case at ∷ stack) = enclosing stack
enclosing (e.Open o.If at ∷ stack) = enclosing stack
enclosing (e.Open o.Then at ∷ stack) = enclosing stack

-- ---- 2. Line start. At the first token of a line, but never at `in`: as long as a block is on top whose column is greater
-- than the token's, it is popped and `}` inserted. If a block is then on top whose column is the token's, `;` is inserted. If
-- something else is on top, nothing happens.

-- this entry is a block of this column
abbrev pub has_parts_at : Place → Option Entry → Bool
has_parts_at at (Some (e.Block n of_let)) = nat_eq n at.column
has_parts_at at entry = false

-- the deeper blocks on top are closed, and a `;` divides the parts of the block then on top, if it has this column
abbrev pub line_start : Place → List Entry → Step
line_start at stack =
    let deeper = prefix_len (is_deeper at.column) stack in
    let separator = if has_parts_at at (slice_get stack deeper) then semicolon at ∷ [] else [] in
    (replicate deeper (closing at) ++ separator, drop deeper stack)

-- nothing is done where the token isn't the first of its line, or is `in`
abbrev pub at_line_start : Bool → Role → Place → List Entry → Step
at_line_start first r.In at stack = ([], stack)
at_line_start first role at stack = if first then line_start at stack else ([], stack)

-- ---- 1. Opening. Before the first token a block opens, unless it is `module` or `{`; behind `where`, `let`, `do` and `of`
-- one opens, unless `{` follows. If the next token's column is greater than that of the nearest block around it (0 if a written
-- brace is nearer, or there is none), `{` is inserted and the block pushed, and part 2 is left out. Else `{` and `}` are inserted, and
-- the token counts as the first of its line.

-- whether a block opens before a token, and whether it is then of a `let`
abbrev pub opened : Before → Role → Option Bool
opened b.Nothing r.Module = None
opened b.Nothing (r.Opens o.Brace) = None
opened b.Nothing role = Some false
opened (b.Word of_let) (r.Opens o.Brace) = None
opened (b.Word of_let) role = Some of_let
opened b.LetEnd role = None
opened b.Other role = None

-- the block that opens at a token
abbrev pub open_block : Bool → Role → Place → List Entry → Option Step
open_block of_let role at stack =
    if nat_lt (enclosing stack) at.column then option_map (λ stack. (opening at ∷ [], stack)) (pushed (e.Block at.column of_let) stack)
    else Some (before_step (opening at ∷ closing at ∷ []) (at_line_start true role at stack))

-- parts 1 and 2: what is inserted on account of where a token stands
abbrev pub placed_as : Option Bool → Role → Token → List Entry → Option Step
placed_as (Some of_let) role token stack = open_block of_let role token.at stack
placed_as None role token stack = Some (at_line_start token.first role token.at stack)

abbrev pub placed : Before → Token → List Entry → Option Step
placed before token stack = placed_as (opened before (role_of token)) (role_of token) token stack

-- ---- 3. Openers. `(`, `{`, `case` and `if` are pushed.

-- a `{` behind `let` is remembered as such
abbrev pub known_as : Opener → Before → Opener
known_as o.Brace (b.Word true) = o.LetBrace
known_as opener before = opener

-- ---- 4. Closers. `)`, `}`, `of`, `then` and `else` close the blocks on top, with a `}` for each, down to the `(`, `{`, `case`,
-- `if` or `then` that they belong to, and pop it. If another entry or the end of the stack comes first, the rule is broken.
-- `then` is pushed; behind `of` a block opens.

-- the entry is the opener that is wanted
abbrev pub is_opener : Opener → Option Entry → Bool
is_opener o.Paren (Some (e.Open o.Paren at)) = true
is_opener o.Brace (Some (e.Open o.Brace at)) = true
is_opener o.Brace (Some (e.Open o.LetBrace at)) = true
is_opener o.Case (Some (e.Open o.Case at)) = true
is_opener o.If (Some (e.Open o.If at)) = true
is_opener o.Then (Some (e.Open o.Then at)) = true
is_opener opener entry = false

-- `then` closes `if` and opens anew
abbrev pub reopened : Opener → Place → List Entry → List Entry
reopened o.If at stack = e.Open o.Then at ∷ stack
reopened opener at stack = stack

-- the blocks above the opener are closed, and it is popped
abbrev pub close_to : Opener → Place → List Entry → Option Step
close_to opener at stack =
    if is_opener opener (nearest stack) then Some (replicate (blocks_of stack) (closing at), reopened opener at (drop (blocks_of stack + 1) stack)) else None

-- ---- 5. Comma. If the nearest entry that is no block is `(`, the blocks above it are closed, with a `}` for each.

-- how many blocks a comma closes
abbrev pub closed_by_comma : List Entry → ℕ
closed_by_comma stack = if is_opener o.Paren (nearest stack) then blocks_of stack else 0

-- ---- 6. `in`. It closes the blocks down to the nearest one of a `let`, and that one, with a `}` for each. If an opener or the
-- end of the stack comes first, nothing is closed; nor behind a written `}` that closed the braces of a `let`.

-- the entry is a block of a `let`
abbrev pub is_let_block : Option Entry → Bool
is_let_block (Some (e.Block n of_let)) = of_let
is_let_block entry = false

-- how many blocks it closes
abbrev pub closed_by_in : List Entry → ℕ
closed_by_in stack = let plain = prefix_len is_plain stack in if is_let_block (slice_get stack plain) then plain + 1 else 0

-- what it does, by what stands before it
abbrev pub in_behind : Before → Place → List Entry → Step
in_behind b.LetEnd at stack = ([], stack)
in_behind before at stack = close (closed_by_in stack) at stack

-- ---- parts 3 to 6: what is inserted on account of what a token is
abbrev pub acted : Role → Before → Place → List Entry → Option Step
acted (r.Opens opener) before at stack = option_map (λ stack. ([], stack)) (pushed (e.Open (known_as opener before) at) stack)
acted (r.Closes opener) before at stack = close_to opener at stack
acted r.Comma before at stack = Some (close (closed_by_comma stack) at stack)
acted r.In before at stack = Some (in_behind before at stack)
acted role before at stack = Some ([], stack)

-- ---- one token

-- the entry is the written brace of a `let`
abbrev pub is_let_brace : Option Entry → Bool
is_let_brace (Some (e.Open o.LetBrace at)) = true
is_let_brace entry = false

-- what a token asks of the next one; the stack is that on which it acts
abbrev pub asked : Role → List Entry → Before
asked (r.Begins of_let) stack = b.Word of_let
asked (r.Closes o.Case) stack = b.Word false
asked (r.Closes o.Brace) stack = if is_let_brace (nearest stack) then b.LetEnd else b.Other
asked role stack = b.Other

-- a token with what is inserted before it, what it asks of the next one, and the stack that it leaves
pub record Turn : Type 0 where
  pub tokens : List Token
  pub before : Before
  pub stack : List Entry

-- a token behind two steps, of which the first is made on account of where it stands
abbrev pub turn_with : Token → Step → Step → Turn
turn_with token place act = record { tokens = place.0 ++ (act.0 ++ token ∷ []); before = asked (role_of token) place.1; stack = act.1 }

-- a token behind all that is inserted before it
abbrev pub turn_of : Before → Token → List Entry → Option Turn
turn_of before token stack = option_and_then (λ (place : Step). option_map (turn_with token place) (acted (role_of token) before token.at place.1)) (placed before token stack)

-- ---- 7. End. A block that is to open is empty. All blocks are closed, with a `}` for each. If an opener is left, the rule is
-- broken at the lowest one.

-- the place of the lowest opener
abbrev pub lowest_opener : List Entry → Option Place
lowest_opener [] = None
lowest_opener (e.Block n of_let ∷ stack) = lowest_opener stack
lowest_opener (e.Open opener at ∷ stack) = Some (unwrap_or (lowest_opener stack) at)

-- the empty block that opens at the end
abbrev pub opened_at_end : Before → Place → List Token
opened_at_end b.Nothing at = opening at ∷ closing at ∷ []
opened_at_end (b.Word of_let) at = opening at ∷ closing at ∷ []
opened_at_end before at = []

-- the rule E04, broken at a place
abbrev pub broken_at : Place → Refusal
broken_at at = record { rule = E04; place = at }

-- what is inserted at the end, by the lowest opener, if one is left
abbrev pub closed_at_end : Place → Before → List Entry → Option Place → Result (List Token) Refusal
closed_at_end at before stack None = Ok (opened_at_end before at ++ replicate (length stack) (closing at))
closed_at_end at before stack (Some opener) = Err (broken_at opener)

abbrev pub ended : Place → Before → List Entry → Result (List Token) Refusal
ended at before stack = closed_at_end at before stack (lowest_opener stack)

-- ---- the whole

-- these tokens before what follows
abbrev pub in_front : List Token → Result (List Token) Refusal → Result (List Token) Refusal
in_front tokens (Ok others) = Ok (tokens ++ others)
in_front tokens (Err refusal) = Err refusal

-- a turn and what follows it; where there is no turn, the rule is broken at the token
abbrev pub goes_on : Place → (Before → List Entry → Result (List Token) Refusal) → Option Turn → Result (List Token) Refusal
goes_on at follows None = Err (broken_at at)
goes_on at follows (Some turn) = in_front turn.tokens (follows turn.before turn.stack)

-- the layout from a token on; what is inserted at the end stands at `last`
unfoldable pub layout_from : Place → List Token → Before → List Entry → Result (List Token) Refusal
layout_from last [] before stack = ended last before stack
layout_from last (token ∷ tokens) before stack = goes_on token.at (layout_from last tokens) (turn_of before token stack)

-- the place of the last token, 1:1 if there is none
abbrev pub last_place : List Token → Place
last_place tokens = fold (λ at token. token.at) (place_after []) tokens

-- the tokens with braces and semicolons, or where the rule E04 is broken
abbrev pub layout_of : List Token → Result (List Token) Refusal
layout_of tokens = layout_from (last_place tokens) tokens b.Nothing []
