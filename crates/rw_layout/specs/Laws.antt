-- What holds of every layout: it is the tokens with braces and semicolons put between them, and its brackets match.
use Rattle.std.specs.Prelude.{◌≡◌, Bool, true, false, not, ◌&&◌, ◌||◌, List, [], ◌∷◌, Option, Some, None}
use Rattle.std.specs.Option.{option_and_then}
use Rattle.rw_base.specs.declared.place.Place.{Place}
use Rattle.rw_lex.specs.declared.token.Token.{Token}
use Rattle.rw_layout.specs.declared.entry.Opener.{Opener}
use Rattle.rw_layout.specs.declared.entry.Opener.TheVariants as o
use Rattle.rw_layout.specs.declared.role.Role.{Role}
use Rattle.rw_layout.specs.declared.role.Role.TheVariants as r
use Rattle.rw_layout.specs.Layout.{role_of, opening, semicolon, closing}

-- ---- what a layout keeps

-- the place of the next token, `last` if there is none
abbrev pub next_place : Place → List Token → Place
next_place last [] = last
next_place last (token ∷ tokens) = token.at

-- the second list is the first one, in its order, with braces and semicolons put in; each has the place of the next
-- token of the first list, and those behind the last token have the place `last`
pub data IsFilled (last : Place) : (tokens filled : List Token) → Type 0 where
  the_end : IsFilled last [] []
  a_token : (token : Token) (tokens filled : List Token) → IsFilled last tokens filled → IsFilled last (token ∷ tokens) (token ∷ filled)
  an_opening : (tokens filled : List Token) → IsFilled last tokens filled → IsFilled last tokens (opening (next_place last tokens) ∷ filled)
  a_semicolon : (tokens filled : List Token) → IsFilled last tokens filled → IsFilled last tokens (semicolon (next_place last tokens) ∷ filled)
  a_closing : (tokens filled : List Token) → IsFilled last tokens filled → IsFilled last tokens (closing (next_place last tokens) ∷ filled)

-- ---- brackets

-- what is open inside an opener, the innermost first; a brace is a brace, of a `let` or not, and words are no brackets
abbrev pub inside : Opener → List Opener → List Opener
inside o.Paren open_ones = o.Paren ∷ open_ones
inside o.Brace open_ones = o.Brace ∷ open_ones
inside o.LetBrace open_ones = o.Brace ∷ open_ones
inside opener open_ones = open_ones

-- what is open behind the closer of a parenthesis, if one is the innermost
abbrev pub behind_paren : List Opener → Option (List Opener)
behind_paren (o.Paren ∷ open_ones) = Some open_ones
behind_paren open_ones = None

-- the same of a brace
abbrev pub behind_brace : List Opener → Option (List Opener)
behind_brace (o.Brace ∷ open_ones) = Some open_ones
behind_brace open_ones = None

-- what is open behind a closer, if it closes the innermost; words close no bracket
abbrev pub outside : Opener → List Opener → Option (List Opener)
outside o.Paren open_ones = behind_paren open_ones
outside o.Brace open_ones = behind_brace open_ones
outside opener open_ones = Some open_ones

-- what is open behind a token
abbrev pub behind_token : Role → List Opener → Option (List Opener)
behind_token (r.Opens opener) open_ones = Some (inside opener open_ones)
behind_token (r.Closes opener) open_ones = outside opener open_ones
behind_token role open_ones = Some open_ones

-- what is open behind tokens, if each closer closes the innermost
abbrev pub open_behind : List Opener → List Token → Option (List Opener)
open_behind open_ones [] = Some open_ones
open_behind open_ones (token ∷ tokens) = option_and_then (λ (others : List Opener). open_behind others tokens) (behind_token (role_of token) open_ones)

-- the braces and parentheses match: each closer closes the innermost one, and none is left open
abbrev pub IsBalanced : List Token → Type 0
IsBalanced tokens = open_behind [] tokens ≡ Some []

-- ---- sources whose blocks are all written

-- `module`
abbrev pub is_module : Role → Bool
is_module r.Module = true
is_module role = false

-- `{`
abbrev pub is_brace : Role → Bool
is_brace (r.Opens o.Brace) = true
is_brace role = false

-- `where`, `let`, `do` or `of`
abbrev pub begins_block : Role → Bool
begins_block (r.Begins of_let) = true
begins_block (r.Closes o.Case) = true
begins_block role = false

-- `{` stands behind each of these words; at first it is said whether one of them stands before the tokens
abbrev pub has_braces : Bool → List Token → Bool
has_braces word [] = not word
has_braces true (token ∷ tokens) = is_brace (role_of token) && has_braces (begins_block (role_of token)) tokens
has_braces false (token ∷ tokens) = has_braces (begins_block (role_of token)) tokens

-- all blocks are written: the first token is `module` or `{`, and `{` stands behind each word that begins a block
abbrev pub is_explicit : List Token → Bool
is_explicit [] = false
is_explicit (token ∷ tokens) = (is_module (role_of token) || is_brace (role_of token)) && has_braces (begins_block (role_of token)) tokens
