-- The grammar of whole programs (Haskell 2010 Report, chapter 5 and section 10.5, in this project's profile): which tree tokens spell, and which item
-- is the first that is none.
--
-- program ::= [`module` modname [exports] `where`] `{` item (`;` item)* `}`
--
-- An item is the run of tokens between two semicolons of the outer braces, or between one of these braces and a
-- semicolon; it may be nothing. Braces and semicolons may be written or inserted.
use Rattle.std.specs.Prelude.{◌≡◌, ℕ, suc, Bool, true, false, List, [], ◌∷◌}
use Rattle.rw_base.specs.declared.place.Place.{Place}
use Rattle.rw_base.specs.declared.place.Span.{Span}
use Rattle.rw_tree.specs.declared.decl.Decl.{Decl}
use Rattle.rw_tree.specs.declared.decl.Decl.TheVariants as d
use Rattle.rw_tree.specs.declared.program.Program.{Program}
use Rattle.rw_lex.specs.declared.token.Token.{Token}
use Rattle.rw_parser_grammar.specs.declared.item.Item.{Item}
use Rattle.rw_parser_grammar.specs.declared.item.Item.TheVariants as i
use Rattle.rw_parser_grammar.specs.declared.lexeme.Mark.TheVariants as m
use Rattle.rw_parser_grammar.specs.declared.lexeme.Spot.{Spot}
use Rattle.rw_parser_grammar.specs.declared.lexeme.Lexeme.{Lexeme}
use Rattle.rw_parser_grammar.specs.declared.lexeme.Lexeme.TheVariants as t
use Rattle.rw_parser_grammar.specs.Lexemes.{lexemes, next_spot}
use Rattle.rw_parser_grammar.specs.Types.{IsType}
use Rattle.rw_parser_grammar.specs.Patterns.{IsApat, IsPattern}
use Rattle.rw_parser_grammar.specs.Clauses.{IsLeftSide, IsClause, Group, alone, clauses, clause_before, rows_span, IsExpression, IsLocals}
use Rattle.rw_parser_grammar.specs.Declarations.{IsModuleParts, IsExports, IsItemOver}

-- an item in which types, patterns, expressions and blocks stand at most so many inside one another
abbrev pub IsItem : ℕ → List Lexeme → Item → List Lexeme → Type 0
IsItem n ts item rest = IsItemOver (IsType n) (IsClause (IsLeftSide (IsPattern n) (IsApat (IsPattern n))) (IsExpression n) (IsLocals n)) ts item rest

-- ---- the runs of items

-- [`module` modname [exports] `where`]
pub data IsHeader : List Lexeme → List Lexeme → Type 0 where
  no_header : (ts : List Lexeme) → IsHeader ts ts
  a_header : (v w : Spot) (ts mid rest : List Lexeme) (names listing : List (List ℕ)) → IsModuleParts ts names mid → IsExports mid listing (t.Mark w m.Where ∷ rest) → IsHeader (t.Mark v m.Module ∷ ts) rest

-- a token that is no brace and no semicolon
abbrev pub is_inside : Lexeme → Bool
is_inside (t.Mark w m.OpensBlock) = false
is_inside (t.Mark w m.ClosesBlock) = false
is_inside (t.Mark w m.Semicolon) = false
is_inside _ = true

-- the tokens inside so many braces of an item, up to the semicolon or the outer closing brace that ends it, with it
pub data IsRun : ℕ → List Lexeme → List Lexeme → Lexeme → List Lexeme → Type 0 where
  ends_by_semicolon : (w : Spot) (rest : List Lexeme) → IsRun 0 (t.Mark w m.Semicolon ∷ rest) [] (t.Mark w m.Semicolon) rest
  ends_by_brace : (w : Spot) (rest : List Lexeme) → IsRun 0 (t.Mark w m.ClosesBlock ∷ rest) [] (t.Mark w m.ClosesBlock) rest
  opens_braces : (d : ℕ) (w : Spot) (ts run rest : List Lexeme) (end : Lexeme) → IsRun (suc d) ts run end rest → IsRun d (t.Mark w m.OpensBlock ∷ ts) (t.Mark w m.OpensBlock ∷ run) end rest
  closes_braces : (d : ℕ) (w : Spot) (ts run rest : List Lexeme) (end : Lexeme) → IsRun d ts run end rest → IsRun (suc d) (t.Mark w m.ClosesBlock ∷ ts) (t.Mark w m.ClosesBlock ∷ run) end rest
  stays_in_braces : (d : ℕ) (w : Spot) (ts run rest : List Lexeme) (end : Lexeme) → IsRun (suc d) ts run end rest → IsRun (suc d) (t.Mark w m.Semicolon ∷ ts) (t.Mark w m.Semicolon ∷ run) end rest
  goes_on : (d : ℕ) (x : Lexeme) (ts run rest : List Lexeme) (end : Lexeme) → is_inside x ≡ true → IsRun d ts run end rest → IsRun d (x ∷ ts) (x ∷ run) end rest

-- the runs of the items behind the outer opening brace, each with the token that ends it: the closing brace is the last token
pub data IsRuns : List Lexeme → List (List Lexeme × Lexeme) → Type 0 where
  the_last_run : (w : Spot) (ts run : List Lexeme) → IsRun 0 ts run (t.Mark w m.ClosesBlock) [] → IsRuns ts ((run, t.Mark w m.ClosesBlock) ∷ [])
  another_run : (w : Spot) (ts run rest : List Lexeme) (others : List (List Lexeme × Lexeme)) → IsRun 0 ts run (t.Mark w m.Semicolon) rest → IsRuns rest others
      → IsRuns ts ((run, t.Mark w m.Semicolon) ∷ others)

-- the frame of a program, and the runs of its items
pub data IsFrame : List Lexeme → List (List Lexeme × Lexeme) → Type 0 where
  a_frame : (w : Spot) (ts rest : List Lexeme) (runs : List (List Lexeme × Lexeme)) → IsHeader ts (t.Mark w m.OpensBlock ∷ rest) → IsRuns rest runs → IsFrame ts runs

-- ---- the tree

-- the tokens of a run, with the one that ends it
abbrev pub whole_run : List Lexeme → Lexeme → List Lexeme
whole_run [] end = end ∷ []
whole_run (x ∷ xs) end = x ∷ whole_run xs end

-- the items that runs spell, to some depth; a run of nothing is no item
pub data AreItems : List (List Lexeme × Lexeme) → List Item → Type 0 where
  no_items : AreItems [] []
  nothing : (end : Lexeme) (runs : List (List Lexeme × Lexeme)) (items : List Item) → AreItems runs items → AreItems (([], end) ∷ runs) items
  something : (n : ℕ) (run : List Lexeme) (end : Lexeme) (runs : List (List Lexeme × Lexeme)) (item : Item) (items : List Item) → IsItem n (whole_run run end) item (end ∷ []) → AreItems runs items
      → AreItems ((run, end) ∷ runs) (item ∷ items)

-- the groups of items: neighbouring clauses of one name are one group
abbrev pub item_groups : List Item → List (Group (Decl Span))
item_groups [] = []
item_groups (i.Clause name row ∷ items) = clause_before name row (item_groups items)
item_groups (i.Whole a ∷ items) = alone a ∷ item_groups items

-- a group as one declaration
abbrev pub declaration_of : Group (Decl Span) → Decl Span
declaration_of (alone a) = a
declaration_of (clauses name row rows) = d.Fun (rows_span row rows) name (row ∷ rows)

-- groups as declarations
abbrev pub declarations_of : List (Group (Decl Span)) → List (Decl Span)
declarations_of [] = []
declarations_of (group ∷ groups) = declaration_of group ∷ declarations_of groups

-- the tokens spell this program, whose chains of operators are not grouped yet
pub data Spells : List Token → Program Span → Type 0 where
  spells : (tokens : List Token) (runs : List (List Lexeme × Lexeme)) (items : List Item) → IsFrame (lexemes tokens) runs → AreItems runs items
      → Spells tokens (record { decls = declarations_of (item_groups items) })

-- ---- what is no tree, and where

-- a run that spells no item, to any depth
abbrev pub SpellsNone : List Lexeme × Lexeme → Type 0
SpellsNone ([], end) = ⊥
SpellsNone (x ∷ xs, end) = (n : ℕ) (item : Item) → IsItem n (whole_run (x ∷ xs) end) item (end ∷ []) → ⊥

-- the first of the runs that spells no item begins here
pub data FirstBroken : List (List Lexeme × Lexeme) → Place → Type 0 where
  here : (run : List Lexeme) (end : Lexeme) (runs : List (List Lexeme × Lexeme)) → SpellsNone (run, end) → FirstBroken ((run, end) ∷ runs) (next_spot run).place
  behind_nothing : (end : Lexeme) (runs : List (List Lexeme × Lexeme)) (at : Place) → FirstBroken runs at → FirstBroken (([], end) ∷ runs) at
  behind_item : (n : ℕ) (run : List Lexeme) (end : Lexeme) (runs : List (List Lexeme × Lexeme)) (item : Item) (at : Place) → IsItem n (whole_run run end) item (end ∷ []) → FirstBroken runs at
      → FirstBroken ((run, end) ∷ runs) at

-- the place of the first token, or that of a source's first byte where there is no token
abbrev pub first_place : List Lexeme → Place
first_place [] = record { line = 1; column = 1 }
first_place (x ∷ xs) = (next_spot (x ∷ xs)).place

-- the tokens are not of the grammar, and this is the place that is named: that of the first item that is none, or of the first token where the frame is broken
pub data IsNotOfTheGrammar : List Token → Place → Type 0 where
  broken_frame : (tokens : List Token) → ((runs : List (List Lexeme × Lexeme)) → IsFrame (lexemes tokens) runs → ⊥) → IsNotOfTheGrammar tokens (first_place (lexemes tokens))
  broken_item : (tokens : List Token) (runs : List (List Lexeme × Lexeme)) (at : Place) → IsFrame (lexemes tokens) runs → FirstBroken runs at → IsNotOfTheGrammar tokens at
