-- What one declaration gives the world, and what a table says of a variable.
use Rattle.std.specs.Prelude.{ℕ, List, [], ◌∷◌, Option, Some, None}
use Rattle.rw_base.specs.declared.place.Span.{Span}
use Rattle.rw_tree.specs.Declarations.{Declaration, data_declaration}
use Rattle.rw_scope_rules.specs.Names.{Bytes, first_named}
use Rattle.rw_types_rules.specs.declared.kind.VariableKind.{VariableKind}
use Rattle.rw_types_rules.specs.declared.kind.VariableKind.TheVariants as v

-- a data type, by the number of its declaration
abbrev pub data_type_at : ℕ → Declaration Span → List (Bytes × ℕ)
data_type_at n (data_declaration a x params constructors) = (x, n) ∷ []
data_type_at n _ = []

-- a variable is a type where nothing else is known
abbrev pub kind_or_plain : Option VariableKind → VariableKind
kind_or_plain None = v.Plain
kind_or_plain (Some kind) = kind

abbrev pub kind_by : List (Bytes × VariableKind) → Bytes → VariableKind
kind_by table x = kind_or_plain (first_named x table)
