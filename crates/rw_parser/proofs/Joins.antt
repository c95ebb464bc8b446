-- Joining items from left to right gives the declarations that the grammar names.
use Rattle.std.proofs.Common.{◌≡◌, List, [], ◌∷◌, ◌++◌, Option, refl}
use Rattle.rw_base.specs.declared.place.Span.{Span}
use Rattle.rw_tree.specs.declared.decl.Decl.{Decl}
use Rattle.rw_tree.specs.declared.decl.Decl.TheVariants as d
use Rattle.rw_parser_grammar.specs.declared.item.Item.{Item}
use Rattle.rw_parser_grammar.specs.declared.item.Item.TheVariants as i
use Rattle.rw_parser_grammar.specs.Grammar.{item_groups, declarations_of}
use Rattle.rw_parser_parts.specs.declared.joined.Group.{Group as Going}
use Rattle.rw_parser_parts.proofs.Joining.{Declares, going_on, clause_joined, whole_joined}
use Rattle.rw_parser_parts.proofs.Joining as joining
use Rattle.rw_parser.specs.Joined.{closed, with_item}

declares : Declares d.Fun declarations_of
declares = record { none = refl; one = λ a groups. refl; some = λ name first rows groups. refl }

-- what was joined, and what follows
abbrev pub all_of : List (Decl Span) × Option Going → List Item → List (Decl Span)
all_of made items = made.0 ++ going_on d.Fun declarations_of made.1 (item_groups items)

pub item_joined : (made : List (Decl Span) × Option Going) (item : Item) (items : List Item) → all_of (with_item made item) items ≡ all_of made (item ∷ items)
item_joined (all, going) (i.Clause name row) items = clause_joined declares all going name row (item_groups items)
item_joined (all, going) (i.Whole a) items = whole_joined declares all going a (item_groups items)

pub all_joined : (all : List (Decl Span)) (going : Option Going) → all_of (all, going) [] ≡ closed (all, going)
all_joined all going = joining.all_joined declares all going
