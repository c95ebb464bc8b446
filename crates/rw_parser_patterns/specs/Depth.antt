-- Types and patterns with as many inside one another as there are tokens: no more can stand there.
use Rattle.std.specs.Prelude.{List, length}
use Rattle.rw_base.specs.declared.place.Span.{Span}
use Rattle.rw_tree.specs.declared.types.Written.{Written}
use Rattle.rw_tree.specs.declared.pattern.Pat.{Pat}
use Rattle.rw_parser_grammar.specs.declared.lexeme.Lexeme.{Lexeme}
use Rattle.rw_parser_reading.specs.Read.{Read}
use Rattle.rw_parser_reading.specs.ReadTypes.{type_at, pattern_at}

-- a type, whatever stands inside what
unfoldable pub any_type_at : List Lexeme → Read Written
any_type_at ts = type_at (length ts) ts

-- a pattern, whatever stands inside what
unfoldable pub any_pattern_at : List Lexeme → Read (Pat Span)
any_pattern_at ts = pattern_at (length ts) ts
