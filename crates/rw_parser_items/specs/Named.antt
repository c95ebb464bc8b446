-- The names that stand in lists, each by the function that reads one.
use Rattle.std.specs.Prelude.{ℕ, List, [], ◌∷◌, ◌++◌, Some}
use Rattle.rw_parser_grammar.specs.declared.lexeme.Lexeme.{Lexeme}
use Rattle.rw_parser_reading.specs.Read.{◌>>=◌, Read, variable_at}
use Rattle.rw_parser_reading.specs.ReadDeclarations.{class_name_at, entity_name_at, operator_name_at, signed_name_at, monad_at}
use Rattle.rw_parser_items.specs.declared.list.Named.{Named}
use Rattle.rw_parser_items.specs.declared.list.Named.TheVariants as k

-- a name of this kind
abbrev pub named_at : Named → List Lexeme → Read (List ℕ)
named_at k.Entity ts = entity_name_at ts
named_at k.Class ts = class_name_at ts
named_at k.Operator ts = operator_name_at ts
named_at k.Signed ts = signed_name_at ts
named_at k.Monad ts = monad_at ts

-- each name with a point (46) before it
abbrev pub with_points : List (List ℕ) → List ℕ
with_points [] = []
with_points (name ∷ names) = (46 ∷ name) ++ with_points names

-- a variable of a data type
abbrev pub parameter_at : List Lexeme → Read (List ℕ)
parameter_at xs = variable_at xs >>= λ v. Some (v.0.1, v.1)
