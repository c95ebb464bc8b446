-- Joining neighbouring clauses of one name from left to right, item after item.
use Rattle.std.specs.Prelude.{ℕ, List, [], ◌∷◌, ◌++◌, Option, None}
use Rattle.rw_base.specs.declared.place.Span.{Span}
use Rattle.rw_tree.specs.declared.clause.Alt.{Alt}
use Rattle.rw_tree.specs.declared.decl.Decl.{Decl}
use Rattle.rw_tree.specs.declared.decl.Decl.TheVariants as d
use Rattle.rw_parser_grammar.specs.declared.item.Item.{Item}
use Rattle.rw_parser_grammar.specs.declared.item.Item.TheVariants as i
use Rattle.rw_parser_parts.specs.declared.joined.Group.{Group}
use Rattle.rw_parser_parts.specs.Joined as joined

-- what was joined, with the group that was open as one declaration
abbrev pub closed : List (Decl Span) × Option Group → List (Decl Span)
closed made = joined.closed d.Fun made.0 made.1

-- a clause behind what was joined: it goes on with the open group if it has its name
abbrev pub with_clause : List (Decl Span) × Option Group → List ℕ → Alt Span → List (Decl Span) × Option Group
with_clause made name row = joined.with_clause d.Fun made.0 made.1 name row

-- an item behind what was joined
abbrev pub with_item : List (Decl Span) × Option Group → Item → List (Decl Span) × Option Group
with_item made (i.Clause name row) = with_clause made name row
with_item made (i.Whole a) = (closed made ++ a ∷ [], None)
