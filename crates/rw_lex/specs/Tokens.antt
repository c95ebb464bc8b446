-- The token list of a source, and the rule that a source without one breaks (Haskell 2010 Report, sections 2.2
-- to 2.4, in this project's profile). The bytes are pieces, one after another. Each is a gap or a
-- token, and it is the longest that starts at its byte.
use Rattle.std.specs.Prelude.{◌≡◌, ◌≢◌, ℕ, suc, ◌≤◌, Bool, true, false, not, ◌||◌, ◌&&◌, nat_eq, nat_le, List, [], ◌∷◌, ◌++◌, length, codes, Result, Ok, Err, if◌then◌else◌}
use Rattle.std.specs.List.{list_all}
use Rattle.std.specs.Str.{bytes_eq}
use Rattle.rw_base.specs.declared.place.Place.{Place}
use Rattle.rw_base.specs.Answers.{Fail}
use Rattle.rw_base.specs.declared.fail.Failure.TheVariants as fail
use Rattle.rw_base.specs.declared.fail.Refusal.{Refusal}
use Rattle.rw_base.specs.declared.rule.Rule.TheVariants.{E02, E03}
use Rattle.rw_base.specs.Places.{place_after}
use Rattle.rw_lex.specs.declared.bytes.Class.TheVariants as class
use Rattle.rw_lex.specs.declared.bytes.Run.TheVariants as run
use Rattle.rw_lex.specs.declared.token.TokenKind.{TokenKind}
use Rattle.rw_lex.specs.declared.token.TokenKind.TheVariants as kind
use Rattle.rw_lex.specs.declared.token.Token.{Token}
use Rattle.rw_lex.specs.Bytes.{class_of, is_letter_class, is_capital_class, is_run, stops}

-- two bytes that open a block comment: `{` (123) and `-` (45)
abbrev pub opens : ℕ → ℕ → Bool
opens a b = nat_eq a 123 && nat_eq b 45

-- two bytes that close one: `-` (45) and `}` (125)
abbrev pub closes : ℕ → ℕ → Bool
closes a b = nat_eq a 45 && nat_eq b 125

-- the bytes begin with two that open or close one
abbrev pub begins_mark : List ℕ → Bool
begins_mark (a ∷ b ∷ bs) = opens a b || closes a b
begins_mark bs = false

-- bytes that close so many open block comments, the last of them at their end; within, `{-` opens a further one
pub data Closes : ℕ → List ℕ → Type 0 where
  the_last : Closes 1 (45 ∷ 125 ∷ [])
  one_less : (n : ℕ) (bs : List ℕ) → Closes (suc n) bs → Closes (suc (suc n)) (45 ∷ 125 ∷ bs)
  one_more : (n : ℕ) (bs : List ℕ) → Closes (suc n) bs → Closes n (123 ∷ 45 ∷ bs)
  another : (n b : ℕ) (bs : List ℕ) → begins_mark (b ∷ bs) ≡ false → Closes n bs → Closes n (b ∷ bs)

-- two dashes (45) or more, and nothing else
abbrev pub is_dashes : List ℕ → Bool
is_dashes piece = list_all (nat_eq 45) piece && nat_le 2 (length piece)

-- the reserved words that begin declarations
abbrev pub declaration_words : List (List ℕ)
declaration_words = codes "class" ∷ codes "data" ∷ codes "default" ∷ codes "foreign" ∷ codes "import" ∷ codes "infix" ∷ codes "infixl" ∷ codes "infixr" ∷ codes "instance" ∷ codes "newtype" ∷ codes "type" ∷ []

-- the other reserved words
abbrev pub inner_words : List (List ℕ)
inner_words = codes "_" ∷ codes "case" ∷ codes "deriving" ∷ codes "do" ∷ codes "else" ∷ codes "if" ∷ codes "in" ∷ codes "let" ∷ codes "module" ∷ codes "of" ∷ codes "then" ∷ codes "where" ∷ []

-- a word is one of these
abbrev pub is_word_of : List (List ℕ) → List ℕ → Bool
is_word_of [] piece = false
is_word_of (word ∷ words) piece = bytes_eq piece word || is_word_of words piece

-- a word is reserved
abbrev pub is_keyword : List ℕ → Bool
is_keyword piece = is_word_of declaration_words piece || is_word_of inner_words piece

-- a word begins with a letter or an underscore
abbrev pub begins_word : List ℕ → Bool
begins_word [] = false
begins_word (b ∷ bs) = is_letter_class (class_of b)

-- a constructor begins with a capital letter
abbrev pub begins_capital : List ℕ → Bool
begins_capital [] = false
begins_capital (b ∷ bs) = is_capital_class (class_of b)

-- what a word is
abbrev pub word_kind : List ℕ → TokenKind
word_kind piece = if begins_capital piece then kind.Constructor else (if is_keyword piece then kind.Keyword else kind.Variable)

-- no first part of these bytes closes an open block comment
abbrev pub ClosesNever : List ℕ → Type 0
ClosesNever bytes = (inside rest : List ℕ) → Closes 1 inside → inside ++ rest ≢ bytes

-- a piece is a gap, a token of some kind, or a block comment that isn't closed
pub data Sort : Type 0 where
  gap : Sort
  token : TokenKind → Sort
  unclosed : Sort

-- these bytes are a piece of this sort: a line comment is dashes and then nothing, or no operator character and what
-- else the line has; so dashes alone are a comment and no operator
pub data IsPiece : Sort → List ℕ → Type 0 where
  white : (b : ℕ) → class_of b ≡ class.White → IsPiece gap (b ∷ [])
  line_comment : (dashes line : List ℕ) → is_dashes dashes ≡ true → stops run.Symbols line ≡ true → is_run run.Line line ≡ true → IsPiece gap (dashes ++ line)
  block_comment : (inside : List ℕ) → Closes 1 inside → IsPiece gap (123 ∷ 45 ∷ inside)
  open_comment : (inside : List ℕ) → ClosesNever inside → IsPiece unclosed (123 ∷ 45 ∷ inside)
  word : (piece : List ℕ) → begins_word piece ≡ true → is_run run.Word piece ≡ true → IsPiece (token (word_kind piece)) piece
  number : (piece : List ℕ) → piece ≢ [] → is_run run.Digits piece ≡ true → IsPiece (token kind.Number) piece
  operator : (piece : List ℕ) → piece ≢ [] → is_run run.Symbols piece ≡ true → is_dashes piece ≡ false → IsPiece (token kind.Operator) piece
  special : (b : ℕ) → class_of b ≡ class.Special → IsPiece (token kind.Special) (b ∷ [])

-- the longest piece that starts where `piece` does, with `rest` behind it
pub record IsLongest (sort : Sort) (piece rest : List ℕ) : Type 0 where
  pub is : IsPiece sort piece
  pub longest : (other : Sort) (bytes more : List ℕ) → IsPiece other bytes → bytes ++ more ≡ piece ++ rest → length bytes ≤ length piece

-- the token that a piece at this place is; it is the first of its line if the token before it isn't on that line
abbrev pub token_of : TokenKind → List ℕ → Place → ℕ → Token
token_of kind piece at line = record { kind = kind; text = piece; at = at; first = not (nat_eq at.line line) }

-- what stands behind `front` is gaps and tokens, one after another, and these are the tokens; `line` is the line of
-- the token before them, 0 if there is none
pub data IsTokensBehind : (front : List ℕ) (line : ℕ) (bytes : List ℕ) (tokens : List Token) → Type 0 where
  the_end : (front : List ℕ) (line : ℕ) → IsTokensBehind front line [] []
  a_gap : (front piece rest : List ℕ) (line : ℕ) (tokens : List Token) → IsLongest gap piece rest → IsTokensBehind (front ++ piece) line rest tokens → IsTokensBehind front line (piece ++ rest) tokens
  a_token : (front piece rest : List ℕ) (line : ℕ) (kind : TokenKind) (tokens : List Token) → IsLongest (token kind) piece rest → IsTokensBehind (front ++ piece) (place_after front).line rest tokens
      → IsTokensBehind front line (piece ++ rest) (token_of kind piece (place_after front) line ∷ tokens)

-- the token list of a source
abbrev pub IsTokenList : (bytes : List ℕ) → (tokens : List Token) → Type 0
IsTokenList bytes tokens = IsTokensBehind [] 0 bytes tokens

-- no piece starts here
abbrev pub StartsNoPiece : List ℕ → Type 0
StartsNoPiece bytes = (sort : Sort) (piece rest : List ℕ) → IsPiece sort piece → piece ++ rest ≢ bytes

-- what stands behind `front` is gaps and tokens, and then something that breaks this rule at this place
pub data BreaksBehind : (front bytes : List ℕ) (refusal : Refusal) → Type 0 where
  not_a_token : (front : List ℕ) (b : ℕ) (rest : List ℕ) → StartsNoPiece (b ∷ rest) → BreaksBehind front (b ∷ rest) (record { rule = E02; place = place_after front })
  not_closed : (front piece rest : List ℕ) → IsLongest unclosed piece rest → BreaksBehind front (piece ++ rest) (record { rule = E03; place = place_after front })
  after_gap : (front piece rest : List ℕ) (refusal : Refusal) → IsLongest gap piece rest → BreaksBehind (front ++ piece) rest refusal → BreaksBehind front (piece ++ rest) refusal
  after_token : (front piece rest : List ℕ) (kind : TokenKind) (refusal : Refusal) → IsLongest (token kind) piece rest → BreaksBehind (front ++ piece) rest refusal → BreaksBehind front (piece ++ rest) refusal

-- the rule that a source without a token list breaks, and where
abbrev pub Breaks : (bytes : List ℕ) → (refusal : Refusal) → Type 0
Breaks bytes refusal = BreaksBehind [] bytes refusal

-- what a refusal says, if the answer is one
abbrev pub IfRefused : {X : Type 0} → Result X Fail → (Refusal → Type 0) → Type 0
IfRefused (Err (fail.Refused refusal)) says = says refusal
IfRefused _ says = Unit {0}
