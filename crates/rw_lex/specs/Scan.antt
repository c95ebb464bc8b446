-- What the functions inside promise each other: the piece that bytes begin with, and the tokens from a place on,
-- as functions on lists.
use Rattle.std.specs.Prelude.{◌≡◌, ℕ, zero, suc, ◌+◌, ◌-◌, Bool, false, nat_eq, fold, List, [], ◌∷◌, ◌++◌, length, take, drop, Option, Some, None, Result, Ok, Err, if◌then◌else◌}
use Rattle.std.specs.List.{prefix_len}
use Rattle.rw_base.specs.declared.place.Place.{Place}
use Rattle.rw_base.specs.Answers.{Fail}
use Rattle.rw_base.specs.declared.fail.Failure.TheVariants as fail
use Rattle.rw_base.specs.declared.fail.Refusal.{Refusal}
use Rattle.rw_base.specs.declared.rule.Rule.TheVariants.{E02, E03}
use Rattle.rw_base.specs.Places.{next_line, next_column}
use Rattle.rw_lex.specs.declared.bytes.Class.{Class}
use Rattle.rw_lex.specs.declared.bytes.Class.TheVariants as class
use Rattle.rw_lex.specs.declared.bytes.Run.TheVariants as run
use Rattle.rw_lex.specs.declared.token.TokenKind.TheVariants as kind
use Rattle.rw_lex.specs.declared.token.Token.{Token}
use Rattle.rw_lex.specs.declared.piece.Piece.{Piece}
use Rattle.rw_lex.specs.declared.piece.Piece.TheVariants as p
use Rattle.rw_lex.specs.Bytes.{class_of, is_in}
use Rattle.rw_lex.specs.Tokens.{opens, closes, is_dashes, word_kind, token_of}

-- so much further on
abbrev pub further : ℕ → Option ℕ → Option ℕ
further n None = None
further n (Some k) = Some (n + k)

-- how many bytes close so many open comments, where `before` stands in front and belongs to no mark yet
unfoldable pub closing_len : ℕ → ℕ → List ℕ → Option ℕ
closing_len depth before [] = None
closing_len depth before (b ∷ bs) =
    if opens before b then further 1 (closing_len (depth + 1) 0 bs)
    else (if closes before b then (if nat_eq depth 1 then Some 1 else further 1 (closing_len (depth - 1) 0 bs)) else further 1 (closing_len depth b bs))

-- the bytes begin with two that open a block comment
abbrev pub begins_comment : List ℕ → Bool
begins_comment (a ∷ b ∷ bs) = opens a b
begins_comment bs = false

-- the piece of a block comment, whose inside is so long, or never closes it
abbrev pub commented : Option ℕ → Piece
commented None = p.Unclosed
commented (Some n) = p.Gap (n + 2)

-- the piece that begins with a bracket, comma, semicolon or backquote
unfoldable pub special_at : List ℕ → Piece
special_at bytes = if begins_comment bytes then commented (closing_len 1 0 (drop 2 bytes)) else p.Token kind.Special 1

-- a run of symbols of this length
unfoldable pub symbols_at : ℕ → List ℕ → Piece
symbols_at n bytes = if is_dashes (take n bytes) then p.Gap (n + prefix_len (is_in run.Line) (drop n bytes)) else p.Token kind.Operator n

-- a word of this length
unfoldable pub word_at : ℕ → List ℕ → Piece
word_at n bytes = p.Token (word_kind (take n bytes)) n

-- the piece that bytes begin with whose first is of this class
abbrev pub piece_of : Class → List ℕ → Piece
piece_of class.White bytes = p.Gap 1
piece_of class.Small bytes = word_at (prefix_len (is_in run.Word) bytes) bytes
piece_of class.Capital bytes = word_at (prefix_len (is_in run.Word) bytes) bytes
piece_of class.Digit bytes = p.Token kind.Number (prefix_len (is_in run.Digits) bytes)
piece_of class.Symbol bytes = symbols_at (prefix_len (is_in run.Symbols) bytes) bytes
piece_of class.Special bytes = special_at bytes
piece_of class.Other bytes = p.Nothing

-- the piece that bytes begin with
unfoldable pub piece_at : List ℕ → Piece
piece_at [] = p.Nothing
piece_at (b ∷ bs) = piece_of (class_of b) (b ∷ bs)

-- how many bytes a piece has
abbrev pub len_of : Piece → ℕ
len_of (p.Gap n) = n
len_of (p.Token kind n) = n
len_of p.Unclosed = 0
len_of p.Nothing = 0

-- the place behind bytes of which the first stands at `at`
abbrev pub place_from : Place → List ℕ → Place
place_from at bytes = record { line = fold next_line at.line bytes; column = fold next_column at.column bytes }

-- the token of a piece, if it is one
abbrev pub tokens_of : Piece → List ℕ → Place → ℕ → List Token
tokens_of (p.Token kind n) piece at line = token_of kind piece at line ∷ []
tokens_of _ piece at line = []

-- the line of the last token, the piece's own if it is one
abbrev pub last_line : Piece → Place → ℕ → ℕ
last_line (p.Token kind n) at line = at.line
last_line _ at line = line

-- the rule that a piece breaks, if it breaks one
abbrev pub refusal_of : Piece → Place → Option Refusal
refusal_of p.Unclosed at = Some (record { rule = E03; place = at })
refusal_of p.Nothing at = Some (record { rule = E02; place = at })
refusal_of _ at = None

-- these tokens in front of what follows
abbrev pub in_front : List Token → Result (List Token) Refusal → Result (List Token) Refusal
in_front tokens (Ok others) = Ok (tokens ++ others)
in_front tokens (Err refusal) = Err refusal

-- what follows, if no rule is broken before
abbrev pub unless : Option Refusal → Result (List Token) Refusal → Result (List Token) Refusal
unless None after = after
unless (Some refusal) after = Err refusal

-- the tokens from a place on, or the rule that is broken first; the number is at least that of the bytes
unfoldable pub tokens_within : ℕ → Place → ℕ → List ℕ → Result (List Token) Refusal
tokens_within n at line [] = Ok []
tokens_within zero at line (b ∷ bs) = Ok []
tokens_within (suc n) at line (b ∷ bs) =
    let piece = piece_at (b ∷ bs) in
    let text = take (len_of piece) (b ∷ bs) in
    unless (refusal_of piece at) (in_front (tokens_of piece text at line) (tokens_within n (place_from at text) (last_line piece at line) (drop (len_of piece) (b ∷ bs))))

-- the tokens from a place on, or the rule that is broken first
unfoldable pub tokens_from : Place → ℕ → List ℕ → Result (List Token) Refusal
tokens_from at line bytes = tokens_within (length bytes) at line bytes

-- a call refuses exactly by this rule, unless memory ran out
abbrev pub FailsBy : Result (Unit {0}) Fail → Option Refusal → Type 0
FailsBy (Ok done) found = found ≡ None
FailsBy (Err (fail.Refused refusal)) found = found ≡ Some refusal
FailsBy (Err fail.OutOfMemory) found = Unit {0}
