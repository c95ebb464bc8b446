-- Joining neighbouring clauses of one name from left to right, for any kind of declaration.
use Rattle.std.specs.Prelude.{ℕ, List, [], ◌∷◌, ◌++◌, Option, Some, None, if◌then◌else◌}
use Rattle.std.specs.Str.{bytes_eq}
use Rattle.rw_base.specs.declared.place.Span.{Span}
use Rattle.rw_tree.specs.declared.clause.Alt.{Alt, out-Alt}
use Rattle.rw_tree.specs.declared.clause.Local.{Local}
use Rattle.rw_tree.specs.declared.clause.Local.TheVariants as l
use Rattle.rw_parser_grammar.specs.declared.item.Bound.{Bound}
use Rattle.rw_parser_grammar.specs.declared.item.Bound.TheVariants as b
use Rattle.rw_parser_grammar.specs.Lexemes.{span_over}
use Rattle.rw_parser_parts.specs.declared.joined.Group.{Group}

-- a group with one clause more
abbrev pub longer : Group → Alt Span → Group
longer group row = record { span = span_over group.span (out-Alt Span row).at; name = group.name; rows = group.rows ++ row ∷ [] }

-- a group of one clause
abbrev pub begun : List ℕ → Alt Span → Group
begun name row = record { span = (out-Alt Span row).at; name = name; rows = row ∷ [] }

-- `fun` makes a declaration of a span, a name and its clauses
module _ {A : Type 0} (fun : Span → List ℕ → List (Alt Span) → A) where
  -- a group as one declaration
  abbrev pub whole : Group → A
  whole group = fun group.span group.name group.rows

  -- what was joined, with the group that was open as one declaration
  abbrev pub closed : List A → Option Group → List A
  closed all None = all
  closed all (Some group) = all ++ whole group ∷ []

  -- a clause behind what was joined: it goes on with the open group if it has its name
  abbrev pub with_clause : List A → Option Group → List ℕ → Alt Span → List A × Option Group
  with_clause all None name row = (all, Some (begun name row))
  with_clause all (Some group) name row = if bytes_eq group.name name then (all, Some (longer group row)) else (all ++ whole group ∷ [], Some (begun name row))

-- an entry of a block of local declarations behind what was joined
abbrev pub with_entry : List (Local Span) × Option Group → Bound → List (Local Span) × Option Group
with_entry (all, going) (b.Clause name row) = with_clause l.Fun all going name row
with_entry (all, going) (b.Whole a) = (closed l.Fun all going ++ a ∷ [], None)
