-- The grammar of patterns (Haskell 2010 Report, sections 3.17 and 10.5), a constructor for each alternative. Pattern is the grammar of what stands
-- inside, one level deeper.
use Rattle.std.specs.Prelude.{◌≡◌, ℕ, zero, suc, Bool, true, false, List, [], ◌∷◌}
use Rattle.rw_base.specs.declared.place.Span.{Span}
use Rattle.rw_tree.specs.declared.pattern.Pat.{Pat, out-Pat}
use Rattle.rw_tree.specs.declared.pattern.Pat.TheOpen.{Pat-F}
use Rattle.rw_tree.specs.declared.pattern.Pat.TheVariants as p
use Rattle.rw_parser_grammar.specs.declared.lexeme.Mark.TheVariants as m
use Rattle.rw_parser_grammar.specs.declared.lexeme.Spot.{Spot}
use Rattle.rw_parser_grammar.specs.declared.lexeme.Lexeme.{Lexeme}
use Rattle.rw_parser_grammar.specs.declared.lexeme.Lexeme.TheVariants as t
use Rattle.rw_parser_grammar.specs.Lexemes.{span_at}
use Rattle.rw_parser_grammar.specs.Lists.{IsSeparated, IsMany}
use Rattle.rw_parser_grammar.specs.Types.{few}

-- one pattern in parentheses is itself
abbrev pub grouped_pattern : Span → List (Pat Span) → Pat Span
grouped_pattern span [] = p.Tuple span []
grouped_pattern span (part ∷ []) = part
grouped_pattern span (a ∷ b ∷ parts) = p.Tuple span (a ∷ b ∷ parts)

-- apat ::= var | `_` | Con | `(` `)` | `(` pat (`,` pat)* `)`
pub data IsApat (Pattern : List Lexeme → Pat Span → List Lexeme → Type 0) : List Lexeme → Pat Span → List Lexeme → Type 0 where
  a_variable_pattern : (w : Spot) (name : List ℕ) (rest : List Lexeme) → IsApat Pattern (t.Variable w name ∷ rest) (p.Var (span_at w rest) name) rest
  a_wildcard : (w : Spot) (rest : List Lexeme) → IsApat Pattern (t.Mark w m.Underscore ∷ rest) (p.Wild (span_at w rest)) rest
  a_constant_pattern : (w : Spot) (name : List ℕ) (rest : List Lexeme) → IsApat Pattern (t.Constructor w name ∷ rest) (p.Con (span_at w rest) name []) rest
  a_unit_pattern : (v w : Spot) (rest : List Lexeme) → IsApat Pattern (t.Mark v m.Opens ∷ t.Mark w m.Closes ∷ rest) (p.Tuple (span_at v rest) []) rest
  a_pattern_group : (v w : Spot) (ts rest : List Lexeme) (parts : List (Pat Span)) → IsSeparated m.Comma Pattern ts parts (t.Mark w m.Closes ∷ rest) → few parts ≡ true
      → IsApat Pattern (t.Mark v m.Opens ∷ ts) (grouped_pattern (span_at v rest) parts) rest

-- pat ::= apat | Con apat+
pub data IsPatternOver (Pattern : List Lexeme → Pat Span → List Lexeme → Type 0) : List Lexeme → Pat Span → List Lexeme → Type 0 where
  an_apat : (ts rest : List Lexeme) (pat : Pat Span) → IsApat Pattern ts pat rest → IsPatternOver Pattern ts pat rest
  a_constructor_pattern : (w : Spot) (name : List ℕ) (ts rest : List Lexeme) (part : Pat Span) (parts : List (Pat Span)) → IsMany (IsApat Pattern) ts (part ∷ parts) rest
      → IsPatternOver Pattern (t.Constructor w name ∷ ts) (p.Con (span_at w rest) name (part ∷ parts)) rest

-- a pattern in which at most so many stand inside one another
abbrev pub IsPattern : ℕ → List Lexeme → Pat Span → List Lexeme → Type 0
IsPattern zero ts pat rest = ⊥
IsPattern (suc n) ts pat rest = IsPatternOver (IsPattern n) ts pat rest

-- a pattern that is no variable and no `_`, one level of it
abbrev pub takes_apart_step : Pat-F Span (Pat Span) → Bool
takes_apart_step (Pat-F.Wild span) = false
takes_apart_step (Pat-F.Var span name) = false
takes_apart_step (Pat-F.Con span name parts) = true
takes_apart_step (Pat-F.Tuple span parts) = true

-- a pattern that is no variable and no `_`
abbrev pub takes_apart : Pat Span → Bool
takes_apart pat = takes_apart_step (out-Pat Span pat)

-- ppat ::= Con apat* | `(` pat (`,` pat)* `)`, but no variable and no `_` in parentheses: what a local declaration may bind by a pattern
pub data IsBindingPattern (Pattern : List Lexeme → Pat Span → List Lexeme → Type 0) : List Lexeme → Pat Span → List Lexeme → Type 0 where
  binds_constructor : (w : Spot) (name : List ℕ) (ts rest : List Lexeme) (parts : List (Pat Span)) → IsMany (IsApat Pattern) ts parts rest
      → IsBindingPattern Pattern (t.Constructor w name ∷ ts) (p.Con (span_at w rest) name parts) rest
  binds_group : (v w : Spot) (ts rest : List Lexeme) (parts : List (Pat Span)) → IsSeparated m.Comma Pattern ts parts (t.Mark w m.Closes ∷ rest) → few parts ≡ true
      → takes_apart (grouped_pattern (span_at v rest) parts) ≡ true → IsBindingPattern Pattern (t.Mark v m.Opens ∷ ts) (grouped_pattern (span_at v rest) parts) rest
