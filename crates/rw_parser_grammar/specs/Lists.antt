-- Lists of parts, for any kind of part. `One ts a rest` says that the tokens ts begin with a spelling of a, and that
-- rest follows it.
use Rattle.std.specs.Prelude.{List, [], ◌∷◌}
use Rattle.rw_parser_grammar.specs.declared.lexeme.Mark.{Mark}
use Rattle.rw_parser_grammar.specs.declared.lexeme.Mark.TheVariants as m
use Rattle.rw_parser_grammar.specs.declared.lexeme.Spot.{Spot}
use Rattle.rw_parser_grammar.specs.declared.lexeme.Lexeme.{Lexeme}
use Rattle.rw_parser_grammar.specs.declared.lexeme.Lexeme.TheVariants as t

-- one or more, with a mark between two
pub data IsSeparated {A : Type 0} (between : Mark) (One : List Lexeme → A → List Lexeme → Type 0) : List Lexeme → List A → List Lexeme → Type 0 where
  the_last : (ts rest : List Lexeme) (a : A) → One ts a rest → IsSeparated between One ts (a ∷ []) rest
  and_more : (ts mid rest : List Lexeme) (w : Spot) (a : A) (others : List A) → One ts a (t.Mark w between ∷ mid) → IsSeparated between One mid others rest → IsSeparated between One ts (a ∷ others) rest

-- any number, one behind the other
pub data IsMany {A : Type 0} (One : List Lexeme → A → List Lexeme → Type 0) : List Lexeme → List A → List Lexeme → Type 0 where
  no_more : (ts : List Lexeme) → IsMany One ts [] ts
  one_more : (ts mid rest : List Lexeme) (a : A) (others : List A) → One ts a mid → IsMany One mid others rest → IsMany One ts (a ∷ others) rest

-- the entries of a block, with `;` between two, and its closing brace: an entry may be nothing
pub data IsEntries {A : Type 0} (One : List Lexeme → A → List Lexeme → Type 0) : List Lexeme → List A → List Lexeme → Type 0 where
  no_entry : (w : Spot) (rest : List Lexeme) → IsEntries One (t.Mark w m.ClosesBlock ∷ rest) [] rest
  skipped : (w : Spot) (ts rest : List Lexeme) (others : List A) → IsEntries One ts others rest → IsEntries One (t.Mark w m.Semicolon ∷ ts) others rest
  last_entry : (ts rest : List Lexeme) (w : Spot) (a : A) → One ts a (t.Mark w m.ClosesBlock ∷ rest) → IsEntries One ts (a ∷ []) rest
  next_entry : (ts mid rest : List Lexeme) (w : Spot) (a : A) (others : List A) → One ts a (t.Mark w m.Semicolon ∷ mid) → IsEntries One mid others rest → IsEntries One ts (a ∷ others) rest

-- a block: `{` entry (`;` entry)* `}`
pub data IsBlock {A : Type 0} (One : List Lexeme → A → List Lexeme → Type 0) : List Lexeme → List A → List Lexeme → Type 0 where
  a_block : (w : Spot) (ts rest : List Lexeme) (entries : List A) → IsEntries One ts entries rest → IsBlock One (t.Mark w m.OpensBlock ∷ ts) entries rest
