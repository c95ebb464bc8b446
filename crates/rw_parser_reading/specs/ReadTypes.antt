-- Reading types and patterns from the front of a list of tokens, as functions on lists.
use Rattle.std.specs.Prelude.{ℕ, zero, suc, Bool, true, false, not, ◌||◌, List, [], ◌∷◌, length, drop, Some, None, if◌then◌else◌}
use Rattle.rw_base.specs.declared.place.Span.{Span}
use Rattle.rw_tree.specs.declared.types.Written.{Written}
use Rattle.rw_tree.specs.declared.types.Written.TheVariants as y
use Rattle.rw_tree.specs.declared.pattern.Pat.{Pat}
use Rattle.rw_tree.specs.declared.pattern.Pat.TheVariants as p
use Rattle.rw_parser_grammar.specs.declared.lexeme.Mark.{Mark}
use Rattle.rw_parser_grammar.specs.declared.lexeme.Mark.TheVariants as m
use Rattle.rw_parser_grammar.specs.declared.lexeme.Spot.{Spot}
use Rattle.rw_parser_grammar.specs.declared.lexeme.Lexeme.{Lexeme}
use Rattle.rw_parser_grammar.specs.declared.lexeme.Lexeme.TheVariants as t
use Rattle.rw_parser_grammar.specs.Lexemes.{span_at}
use Rattle.rw_parser_grammar.specs.Types.{few, grouped_type, applied_type}
use Rattle.rw_parser_grammar.specs.Patterns.{grouped_pattern}
use Rattle.rw_parser_reading.specs.Read.{◌>>=◌, Read, same_mark, sees, after, separated_at, many_at}

-- ---- types

-- the tokens begin an atype
abbrev pub begins_atype : List Lexeme → Bool
begins_atype [] = false
begins_atype (t.Mark w a ∷ ts) = same_mark a m.Opens
begins_atype (t.Variable w name ∷ ts) = true
begins_atype (t.Constructor w name ∷ ts) = true
begins_atype (t.Operator w name ∷ ts) = false
begins_atype (t.Number w digits ∷ ts) = false

-- what may follow a btype and a type: no token that could make the tree another
abbrev pub ends_btype : List Lexeme → Bool
ends_btype ts = not (begins_atype ts)

abbrev pub ends_type : List Lexeme → Bool
ends_type ts = not (sees m.Arrow ts || begins_atype ts)

module _ (inner : List Lexeme → Read Written) where
  -- one or more types in parentheses, behind the opening one
  unfoldable pub some_types_at : List Lexeme → Read Written
  some_types_at ts = do
    p ← separated_at m.Comma inner (length ts) ts
    r ← after m.Closes p.1
    if few p.0 then Some (grouped_type p.0, r) else None

  -- types in parentheses, behind the opening one
  unfoldable pub type_group_at : List Lexeme → Read Written
  type_group_at ts = if sees m.Closes ts then Some (y.Tuple [], drop 1 ts) else some_types_at ts

  -- an atype
  abbrev pub atype_at : List Lexeme → Read Written
  atype_at [] = None
  atype_at (t.Mark w a ∷ ts) = if same_mark a m.Opens then type_group_at ts else None
  atype_at (t.Variable w name ∷ ts) = Some (y.Var name, ts)
  atype_at (t.Constructor w name ∷ ts) = Some (y.Con name, ts)
  atype_at (t.Operator w name ∷ ts) = None
  atype_at (t.Number w digits ∷ ts) = None

  -- any number of atypes
  unfoldable pub atypes_at : List Lexeme → Read (List Written)
  atypes_at ts = many_at begins_atype atype_at (length ts) ts

  -- a btype
  unfoldable pub btype_at : List Lexeme → Read Written
  btype_at ts = do
    p ← atype_at ts
    q ← atypes_at p.1
    Some (applied_type p.0 q.0, q.1)

  -- a type
  unfoldable pub type_over_at : List Lexeme → Read Written
  type_over_at ts = do
    p ← btype_at ts
    if sees m.Arrow p.1 then (do q ← inner (drop 1 p.1); Some (y.Fun p.0 q.0, q.1)) else Some (p.0, p.1)

-- with at most so many types inside one another
unfoldable pub type_at : ℕ → List Lexeme → Read Written
type_at zero ts = None
type_at (suc n) ts = type_over_at (type_at n) ts

-- ---- patterns

-- the marks that begin an apat
abbrev pub is_pattern_mark : Mark → Bool
is_pattern_mark a = same_mark a m.Opens || same_mark a m.Underscore

-- the tokens begin an apat
abbrev pub begins_apat : List Lexeme → Bool
begins_apat [] = false
begins_apat (t.Mark w a ∷ ts) = is_pattern_mark a
begins_apat (t.Variable w name ∷ ts) = true
begins_apat (t.Constructor w name ∷ ts) = true
begins_apat (t.Operator w name ∷ ts) = false
begins_apat (t.Number w digits ∷ ts) = false

-- what may follow a pattern: no token that could make the tree another
abbrev pub ends_pattern : List Lexeme → Bool
ends_pattern ts = not (begins_apat ts)

module _ (inner : List Lexeme → Read (Pat Span)) where
  -- one or more patterns in parentheses, behind the opening one, which stands there
  unfoldable pub some_patterns_at : Spot → List Lexeme → Read (Pat Span)
  some_patterns_at v ts = do
    p ← separated_at m.Comma inner (length ts) ts
    r ← after m.Closes p.1
    if few p.0 then Some (grouped_pattern (span_at v r) p.0, r) else None

  -- patterns in parentheses, behind the opening one
  unfoldable pub pattern_group_at : Spot → List Lexeme → Read (Pat Span)
  pattern_group_at v ts = if sees m.Closes ts then Some (p.Tuple (span_at v (drop 1 ts)) [], drop 1 ts) else some_patterns_at v ts

  -- a pattern that begins with a mark
  unfoldable pub marked_pattern_at : Spot → Mark → List Lexeme → Read (Pat Span)
  marked_pattern_at v a ts = if same_mark a m.Opens then pattern_group_at v ts else (if same_mark a m.Underscore then Some (p.Wild (span_at v ts), ts) else None)

  -- an apat
  abbrev pub apat_at : List Lexeme → Read (Pat Span)
  apat_at [] = None
  apat_at (t.Mark w a ∷ ts) = marked_pattern_at w a ts
  apat_at (t.Variable w name ∷ ts) = Some (p.Var (span_at w ts) name, ts)
  apat_at (t.Constructor w name ∷ ts) = Some (p.Con (span_at w ts) name [], ts)
  apat_at (t.Operator w name ∷ ts) = None
  apat_at (t.Number w digits ∷ ts) = None

  -- any number of apats
  unfoldable pub apats_at : List Lexeme → Read (List (Pat Span))
  apats_at ts = many_at begins_apat apat_at (length ts) ts

  -- a constructor and its parts, behind its name, which stands there
  unfoldable pub built_at : Spot → List ℕ → List Lexeme → Read (Pat Span)
  built_at w name ts = do
    q ← apats_at ts
    Some (p.Con (span_at w q.1) name q.0, q.1)

  -- a pattern
  abbrev pub pattern_over_at : List Lexeme → Read (Pat Span)
  pattern_over_at [] = None
  pattern_over_at (t.Mark w a ∷ ts) = marked_pattern_at w a ts
  pattern_over_at (t.Variable w name ∷ ts) = Some (p.Var (span_at w ts) name, ts)
  pattern_over_at (t.Constructor w name ∷ ts) = built_at w name ts
  pattern_over_at (t.Operator w name ∷ ts) = None
  pattern_over_at (t.Number w digits ∷ ts) = None

-- with at most so many patterns inside one another
unfoldable pub pattern_at : ℕ → List Lexeme → Read (Pat Span)
pattern_at zero ts = None
pattern_at (suc n) ts = pattern_over_at (pattern_at n) ts
