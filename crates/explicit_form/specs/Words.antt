-- Tokens as words: what a token is and how it is spelled, wherever it stands.
use Rattle.std.specs.Prelude.{ℕ, Bool, false, ◌&&◌, List, [], ◌∷◌, map, bytes_eq}
use denote.Enum.Bare.{sameb}
use Rattle.rw_lex.specs.contracts.token.TokenKind.{the_type}
use Rattle.rw_lex.specs.declared.token.Token.{Token}
use Rattle.rw_lex.specs.declared.token.TokenKind.{TokenKind}
use Rattle.rw_lex.specs.declared.token.TokenKind.TheVariants.{Variable, Constructor, Keyword, Operator, Special}

-- a word: its kind and its bytes
pub record Word : Type 0 where
  pub kind : TokenKind
  pub text : List ℕ

abbrev pub word_of : Token → Word
word_of token = record { kind = token.kind; text = token.text }

abbrev pub words_of : List Token → List Word
words_of = map word_of

abbrev pub variable : List ℕ → Word
variable text = record { kind = Variable; text = text }

abbrev pub constructor : List ℕ → Word
constructor text = record { kind = Constructor; text = text }

abbrev pub keyword : List ℕ → Word
keyword text = record { kind = Keyword; text = text }

abbrev pub operator : List ℕ → Word
operator text = record { kind = Operator; text = text }

abbrev pub special : List ℕ → Word
special text = record { kind = Special; text = text }

-- `==` on kinds
unfoldable pub same_kind : TokenKind → TokenKind → Bool
same_kind = sameb the_type

-- the first word is this one
abbrev pub sees : Word → List Word → Bool
sees wanted [] = false
sees wanted (word ∷ words) = same_kind word.kind wanted.kind && bytes_eq word.text wanted.text
