-- Where all blocks are written, the stack has no block, and nothing is inserted.
use Rattle.std.proofs.Common.{◌≡◌, ℕ, List, [], ◌∷◌, ◌++◌, length, Option, Some, None, Result, Ok, Bool, true, false, refl, sym, ap, ◌∙◌}
use Rattle.std.specs.Prelude.{nat_lt, not, ◌&&◌, ◌||◌}
use Rattle.std.specs.Option.{option_map, option_and_then}
use Rattle.rw_base.specs.declared.place.Place.{Place}
use Rattle.rw_base.specs.declared.fail.Refusal.{Refusal}
use Rattle.rw_lex.specs.declared.token.Token.{Token}
use Rattle.rw_layout.specs.declared.entry.Opener.{Opener}
use Rattle.rw_layout.specs.declared.entry.Opener.TheVariants as o
use Rattle.rw_layout.specs.declared.entry.Entry.{Entry}
use Rattle.rw_layout.specs.declared.entry.Entry.TheVariants as e
use Rattle.rw_layout.specs.declared.role.Role.{Role}
use Rattle.rw_layout.specs.declared.role.Role.TheVariants as r
use Rattle.rw_layout.specs.declared.role.Before.{Before}
use Rattle.rw_layout.specs.declared.role.Before.TheVariants as b
use Rattle.rw_layout.specs.Layout.{Step, Turn, line_start, at_line_start, opened, placed_as, placed, close, close_to, closed_by_comma, closed_by_in, in_behind, acted, asked, role_of, turn_with, turn_of, lowest_opener, closed_at_end, goes_on, layout_from, last_place, layout_of, nearest, is_opener, is_let_brace, known_as, reopened}
use Rattle.rw_layout.specs.Laws.{is_module, is_brace, begins_block, has_braces, is_explicit}
use Rattle.rw_layout.proofs.Marks.{chosen, front_ok}

-- no entry is a block
abbrev pub NoBlocks : List Entry → Type 0
NoBlocks [] = Unit {0}
NoBlocks (e.Block n of_let ∷ stack) = ⊥
NoBlocks (e.Open opener at ∷ stack) = NoBlocks stack

-- nothing is inserted, and no block is left
abbrev pub IsBare : Step → Type 0
IsBare step = (step.0 ≡ []) × NoBlocks step.1

abbrev pub IfBare : Option Step → Type 0
IfBare None = Unit {0}
IfBare (Some step) = IsBare step

line_bare : (at : Place) (stack : List Entry) → NoBlocks stack → IsBare (line_start at stack)
line_bare at [] bare = (refl, tt)
line_bare at (e.Block n of_let ∷ stack) bare = absurd bare
line_bare at (e.Open opener place ∷ stack) bare = (refl, bare)

at_line_bare : (first : Bool) (role : Role) (at : Place) (stack : List Entry) → NoBlocks stack → IsBare (at_line_start first role at stack)
at_line_bare first r.In at stack bare = (refl, bare)
at_line_bare first role at stack bare = chosen IsBare first (line_start at stack) ([], stack) (line_bare at stack bare) (refl, bare)

placed_bare : (opens : Option Bool) (role : Role) (token : Token) (stack : List Entry) → opens ≡ None → NoBlocks stack → IfBare (placed_as opens role token stack)
placed_bare None role token stack none bare = at_line_bare token.first role token.at stack bare
placed_bare (Some of_let) role token stack none bare = absurd (cc)

reopened_bare : (opener : Opener) (at : Place) (stack : List Entry) → NoBlocks stack → NoBlocks (reopened opener at stack)
reopened_bare o.If at stack bare = bare
reopened_bare opener at stack bare = bare

close_to_bare : (opener : Opener) (at : Place) (stack : List Entry) → NoBlocks stack → IfBare (close_to opener at stack)
close_to_bare opener at [] bare = chosen IfBare (is_opener opener None) (Some ([], reopened opener at [])) None (refl, reopened_bare opener at [] tt) tt
close_to_bare opener at (e.Block n of_let ∷ stack) bare = absurd bare
close_to_bare opener at (e.Open other place ∷ stack) bare = chosen IfBare (is_opener opener (Some (e.Open other place))) (Some ([], reopened opener at stack)) None (refl, reopened_bare opener at stack bare) tt

comma_bare : (at : Place) (stack : List Entry) → NoBlocks stack → IsBare (close (closed_by_comma stack) at stack)
comma_bare at [] bare = (refl, tt)
comma_bare at (e.Block n of_let ∷ stack) bare = absurd bare
comma_bare at (e.Open opener place ∷ stack) bare = chosen (λ (n : ℕ). IsBare (close n at (e.Open opener place ∷ stack))) (is_opener o.Paren (Some (e.Open opener place))) 0 0 (refl, bare) (refl, bare)

in_bare : (at : Place) (stack : List Entry) → NoBlocks stack → IsBare (close (closed_by_in stack) at stack)
in_bare at [] bare = (refl, tt)
in_bare at (e.Block n of_let ∷ stack) bare = absurd bare
in_bare at (e.Open opener place ∷ stack) bare = (refl, bare)

in_behind_bare : (before : Before) (at : Place) (stack : List Entry) → NoBlocks stack → IsBare (in_behind before at stack)
in_behind_bare b.LetEnd at stack bare = (refl, bare)
in_behind_bare before at stack bare = in_bare at stack bare

acted_bare : (role : Role) (before : Before) (at : Place) (stack : List Entry) → NoBlocks stack → IfBare (acted role before at stack)
acted_bare (r.Opens opener) before at stack bare = chosen (λ (p : Option (List Entry)). IfBare (option_map (λ (es : List Entry). let step : Step = ([], es) in step) p)) (nat_lt (length stack) 128) (Some (e.Open (known_as opener before) at ∷ stack)) None (refl, bare) tt
acted_bare (r.Closes opener) before at stack bare = close_to_bare opener at stack bare
acted_bare r.Comma before at stack bare = comma_bare at stack bare
acted_bare r.In before at stack bare = in_behind_bare before at stack bare
acted_bare role before at stack bare = (refl, bare)

-- the token before is a word behind which a block opens
abbrev pub is_word : Before → Bool
is_word (b.Word of_let) = true
is_word before = false

-- a token stands before
abbrev pub IsBehind : Before → Type 0
IsBehind b.Nothing = ⊥
IsBehind before = Unit {0}

asked_behind : (role : Role) (stack : List Entry) → IsBehind (asked role stack)
asked_behind (r.Closes o.Brace) stack = chosen IsBehind (is_let_brace (nearest stack)) b.LetEnd b.Other tt tt
asked_behind role stack = tt

asked_word : (role : Role) (stack : List Entry) → is_word (asked role stack) ≡ begins_block role
asked_word (r.Closes o.Brace) stack = chosen (λ (before : Before). is_word before ≡ false) (is_let_brace (nearest stack)) b.LetEnd b.Other refl refl
asked_word role stack = refl

-- a turn that is there is its token alone
pub record IsAlone (token : Token) (turn : Turn) : Type 0 where
  pub tokens : turn.tokens ≡ token ∷ []
  pub bare : NoBlocks turn.stack
  pub behind : IsBehind turn.before
  pub word : is_word turn.before ≡ begins_block (role_of token)

abbrev pub IfAlone : Token → Option Turn → Type 0
IfAlone token None = Unit {0}
IfAlone token (Some turn) = IsAlone token turn

second_bare : (token : Token) (place : Step) (act : Option Step) → place.0 ≡ [] → IfBare act → IfAlone token (option_map (turn_with token place) act)
second_bare token place None none bare = tt
second_bare token place (Some act) none bare = record {
  tokens = ap (λ (ts : List Token). ts ++ (act.0 ++ token ∷ [])) none ∙ ap (λ (ts : List Token). ts ++ token ∷ []) bare.0;
  bare = bare.1;
  behind = asked_behind (role_of token) place.1;
  word = asked_word (role_of token) place.1;
}

first_bare : (token : Token) (before : Before) (place : Option Step) → IfBare place → IfAlone token (option_and_then (λ (p : Step). option_map (turn_with token p) (acted (role_of token) before token.at p.1)) place)
first_bare token before None bare = tt
first_bare token before (Some place) bare = second_bare token place (acted (role_of token) before token.at place.1) bare.0 (acted_bare (role_of token) before token.at place.1 bare.1)

turn_alone : (before : Before) (token : Token) (stack : List Entry) → opened before (role_of token) ≡ None → NoBlocks stack → IfAlone token (turn_of before token stack)
turn_alone before token stack none bare = first_bare token before (placed before token stack) (placed_bare (opened before (role_of token)) (role_of token) token stack none bare)

-- ---- the whole
both_true : (a c : Bool) → (a && c) ≡ true → (a ≡ true) × (c ≡ true)
both_true true c is = (refl, is)
both_true false c is = absurd (cc)

-- a token behind which all blocks are written opens none
opens_none : (before : Before) (token : Token) (tokens : List Token) → IsBehind before → has_braces (is_word before) (token ∷ tokens) ≡ true → opened before (role_of token) ≡ None
opens_none b.Nothing token tokens behind has = absurd behind
opens_none (b.Word of_let) token tokens behind has = brace_opens_none of_let (role_of token) (both_true (is_brace (role_of token)) (has_braces (begins_block (role_of token)) tokens) has).0
  where
    brace_opens_none : (of_let : Bool) (role : Role) → is_brace role ≡ true → opened (b.Word of_let) role ≡ None
    brace_opens_none of_let (r.Opens o.Brace) is = refl
    brace_opens_none of_let role is = absurd (cc)
opens_none b.LetEnd token tokens behind has = refl
opens_none b.Other token tokens behind has = refl

braces_on : (word : Bool) (token : Token) (tokens : List Token) → has_braces word (token ∷ tokens) ≡ true → has_braces (begins_block (role_of token)) tokens ≡ true
braces_on true token tokens has = (both_true (is_brace (role_of token)) (has_braces (begins_block (role_of token)) tokens) has).1
braces_on false token tokens has = has

end_alone : (last : Place) (before : Before) (stack : List Entry) (filled : List Token) → IsBehind before → NoBlocks stack → not (is_word before) ≡ true → closed_at_end last before stack (lowest_opener stack) ≡ Ok filled → filled ≡ []
end_alone last b.Nothing stack filled behind bare none is = absurd behind
end_alone last (b.Word of_let) stack filled behind bare none is = absurd (cc)
end_alone last before [] filled behind bare none is = cc
end_alone last before (e.Block n of_let ∷ stack) filled behind bare none is = absurd bare
end_alone last before (e.Open opener at ∷ stack) filled behind bare none is = absurd (cc)

turn_stays : (token : Token) (tokens filled : List Token) (follows : Before → List Entry → Result (List Token) Refusal) (turn : Option Turn) → IfAlone token turn → has_braces (begins_block (role_of token)) tokens ≡ true
    → ((before : Before) (stack : List Entry) (others : List Token) → IsBehind before → NoBlocks stack → has_braces (is_word before) tokens ≡ true → follows before stack ≡ Ok others → others ≡ tokens) → goes_on token.at follows turn ≡ Ok filled → filled ≡ token ∷ tokens
turn_stays token tokens filled follows None alone has f is = absurd (cc)
turn_stays token tokens filled follows (Some turn) alone has f is =
    let parts = front_ok turn.tokens (follows turn.before turn.stack) filled is in
    let same = f turn.before turn.stack parts.0 alone.behind alone.bare (ap (λ (word : Bool). has_braces word tokens) alone.word ∙ has) parts.1 in
    sym parts.2 ∙ (ap (λ (ts : List Token). ts ++ parts.0) alone.tokens ∙ ap (λ (ts : List Token). token ∷ ts) same)

stays_from : (last : Place) (tokens : List Token) (before : Before) (stack : List Entry) (filled : List Token) → IsBehind before → NoBlocks stack → has_braces (is_word before) tokens ≡ true → layout_from last tokens before stack ≡ Ok filled → filled ≡ tokens
unfolding layout_from
stays_from last [] before stack filled behind bare has is = end_alone last before stack filled behind bare has is
stays_from last (token ∷ tokens) before stack filled behind bare has is =
    turn_stays token tokens filled (layout_from last tokens) (turn_of before token stack) (turn_alone before token stack (opens_none before token tokens behind has) bare) (braces_on (is_word before) token tokens has) (stays_from last tokens) is

first_opens_none : (role : Role) → (is_module role || is_brace role) ≡ true → opened b.Nothing role ≡ None
first_opens_none r.Module is = refl
first_opens_none (r.Opens o.Brace) is = refl
first_opens_none role is = absurd (cc)

stays_whole : (last : Place) (tokens filled : List Token) → is_explicit tokens ≡ true → layout_from last tokens b.Nothing [] ≡ Ok filled → filled ≡ tokens
unfolding layout_from
stays_whole last [] filled written is = absurd (cc)
stays_whole last (token ∷ tokens) filled written is =
    let parts = both_true (is_module (role_of token) || is_brace (role_of token)) (has_braces (begins_block (role_of token)) tokens) written in
    turn_stays token tokens filled (layout_from last tokens) (turn_of b.Nothing token []) (turn_alone b.Nothing token [] (first_opens_none (role_of token) parts.0) tt) parts.1 (stays_from last tokens) is

pub explicit_whole : (tokens filled : List Token) → is_explicit tokens ≡ true → layout_of tokens ≡ Ok filled → filled ≡ tokens
explicit_whole tokens filled written is = stays_whole (last_place tokens) tokens filled written is
