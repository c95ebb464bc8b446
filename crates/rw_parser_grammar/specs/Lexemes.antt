-- The tokens of the grammar: what it knows of each token of a source (Haskell 2010 Report, sections 2.2 to 2.4).
use Rattle.std.specs.Prelude.{ℕ, ◌+◌, Bool, false, nat_eq, List, [], ◌∷◌, codes, Option, Some, None, if◌then◌else◌}
use Rattle.std.specs.Str.{bytes_eq}
use Rattle.rw_base.specs.declared.place.Span.{Span}
use Rattle.rw_lex.specs.declared.token.Token.{Token}
use Rattle.rw_lex.specs.declared.token.TokenKind.{TokenKind}
use Rattle.rw_lex.specs.declared.token.TokenKind.TheVariants as kind
use Rattle.rw_parser_grammar.specs.declared.lexeme.Mark.{Mark}
use Rattle.rw_parser_grammar.specs.declared.lexeme.Mark.TheVariants as m
use Rattle.rw_parser_grammar.specs.declared.lexeme.Spot.{Spot}
use Rattle.rw_parser_grammar.specs.declared.lexeme.Lexeme.{Lexeme}
use Rattle.rw_parser_grammar.specs.declared.lexeme.Lexeme.TheVariants as t

-- the mark that stands beside a text in a table
abbrev pub mark_in : List (List ℕ × Mark) → List ℕ → Option Mark
mark_in [] text = None
mark_in (row ∷ rows) text = if bytes_eq text row.0 then Some row.1 else mark_in rows text

-- the reserved words that stand in rules of the grammar
abbrev pub words : List (List ℕ × Mark)
words =
    (codes "_", m.Underscore) ∷ (codes "case", m.Case) ∷ (codes "data", m.Data) ∷ (codes "deriving", m.Deriving) ∷ (codes "do", m.Do) ∷ (codes "else", m.Else)
    ∷ (codes "if", m.If) ∷ (codes "import", m.Import) ∷ (codes "in", m.In) ∷ (codes "infix", m.Infix) ∷ (codes "infixl", m.Infixl) ∷ (codes "infixr", m.Infixr)
    ∷ (codes "let", m.Let) ∷ (codes "module", m.Module) ∷ (codes "newtype", m.Newtype) ∷ (codes "of", m.Of) ∷ (codes "then", m.Then) ∷ (codes "where", m.Where) ∷ []

-- the reserved operators that stand in rules of the grammar, and two that do not
abbrev pub reserved : List (List ℕ × Mark)
reserved =
    (codes "..", m.Dots) ∷ (codes "::", m.Colons) ∷ (codes "=", m.Equal) ∷ (codes "\\", m.Backslash) ∷ (codes "|", m.Bar) ∷ (codes "<-", m.FromArrow)
    ∷ (codes "->", m.Arrow) ∷ (codes "=>", m.Implies) ∷ (codes "@", m.Unused) ∷ (codes "~", m.Unused) ∷ []

-- brackets, the comma, the semicolon and the backquote
abbrev pub specials : List (List ℕ × Mark)
specials =
    (codes "(", m.Opens) ∷ (codes ")", m.Closes) ∷ (codes ",", m.Comma) ∷ (codes ";", m.Semicolon) ∷ (codes "`", m.Backquote) ∷ (codes "{", m.OpensBlock) ∷ (codes "}", m.ClosesBlock) ∷ []

-- a token of this mark, or of none that the grammar uses
abbrev pub marked : Spot → Option Mark → Lexeme
marked at None = t.Mark at m.Unused
marked at (Some a) = t.Mark at a

-- an operator begins with a colon (58)
abbrev pub begins_colon : List ℕ → Bool
begins_colon [] = false
begins_colon (b ∷ bs) = nat_eq b 58

-- an operator that is not reserved: one that begins with a colon is in no rule of the grammar
abbrev pub operator_of : Spot → List ℕ → Option Mark → Lexeme
operator_of at text None = if begins_colon text then t.Mark at m.Unused else t.Operator at text
operator_of at text (Some a) = t.Mark at a

-- a token of a kind
abbrev pub lexeme_as : Spot → TokenKind → List ℕ → Lexeme
lexeme_as at kind.Variable text = t.Variable at text
lexeme_as at kind.Constructor text = t.Constructor at text
lexeme_as at kind.Number text = t.Number at text
lexeme_as at kind.Operator text = operator_of at text (mark_in reserved text)
lexeme_as at kind.Keyword text = marked at (mark_in words text)
lexeme_as at kind.Special text = marked at (mark_in specials text)

-- the token of this number
abbrev pub lexeme_of : ℕ → Token → Lexeme
lexeme_of number token = lexeme_as (record { place = token.at; number = number }) token.kind token.text

-- the tokens of a source, numbered from here on
abbrev pub lexemes_from : ℕ → List Token → List Lexeme
lexemes_from n [] = []
lexemes_from n (x ∷ xs) = lexeme_of n x ∷ lexemes_from (n + 1) xs

-- the tokens of a source
abbrev pub lexemes : List Token → List Lexeme
lexemes tokens = lexemes_from 0 tokens

-- ---- spans

-- where a token stands
abbrev pub spot_of : Lexeme → Spot
spot_of (t.Mark at a) = at
spot_of (t.Variable at name) = at
spot_of (t.Constructor at name) = at
spot_of (t.Operator at name) = at
spot_of (t.Number at digits) = at

-- the spot of what comes next; behind the last token there is none
abbrev pub next_spot : List Lexeme → Spot
next_spot [] = record { place = record { line = 0; column = 0 }; number = 0 }
next_spot (x ∷ xs) = spot_of x

-- the span of one token, before what follows it
abbrev pub span_at : Spot → List Lexeme → Span
span_at at rest = record { first = at.place; from = at.number; to = (next_spot rest).number }

-- the span of the tokens of ts up to rest, which follows them
abbrev pub span_of : List Lexeme → List Lexeme → Span
span_of ts rest = span_at (next_spot ts) rest

-- the span from the first token of one span to the last of another
abbrev pub span_over : Span → Span → Span
span_over a b = record { first = a.first; from = a.from; to = b.to }
