-- How many levels patterns and types have, alone and beside one another.
use Rattle.std.specs.Prelude.{ℕ, max, List, [], ◌∷◌}
use Rattle.rw_base.specs.declared.place.Span.{Span}
use Rattle.rw_tree.specs.declared.types.Written.{Written}
use Rattle.rw_tree.specs.declared.pattern.Pat.{Pat}
use Rattle.rw_tree.specs.declared.decl.Constructor.{Constructor}
use Rattle.rw_tree.specs.declared.decl.DataDecl.{DataDecl}
use Rattle.rw_tree.specs.declared.clause.Alt.{Alt}
use Rattle.rw_tree.specs.Types.{written}
use Rattle.rw_tree.specs.Trees.{alternative_of}
use Rattle.rw_tree.specs.Patterns.{pattern, patterns}
use Rattle.rw_parser_grammar.specs.Levels.{type_levels, pattern_levels, row_patterns_levels, alternative_levels}

abbrev pub pattern_size : Pat Span → ℕ
pattern_size pat = pattern_levels (pattern (λ span. span) pat)

abbrev pub patterns_size : List (Pat Span) → ℕ
patterns_size pats = row_patterns_levels (patterns (λ span. span) pats)

abbrev pub type_size : Written → ℕ
type_size type = type_levels (written type)

abbrev pub types_size : List Written → ℕ
types_size [] = 0
types_size (type ∷ types) = max (type_size type) (types_size types)

abbrev pub constructors_size : List Constructor → ℕ
constructors_size [] = 0
constructors_size (made ∷ others) = max (types_size made.fields) (constructors_size others)

abbrev pub data_size : DataDecl → ℕ
data_size data_type = constructors_size data_type.constructors

abbrev pub row_size : Alt Span → ℕ
row_size row = alternative_levels (alternative_of (λ span. span) row)

abbrev pub rows_size : List (Alt Span) → ℕ
rows_size [] = 0
rows_size (row ∷ rows) = max (row_size row) (rows_size rows)
