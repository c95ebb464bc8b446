-- What is kept of items, item after item.
use Rattle.std.specs.Prelude.{◌&&◌, not, is_some, List, [], ◌∷◌, Option, Some, None, Result, Ok, Err, if◌then◌else◌}
use Rattle.rw_base.specs.declared.place.Place.{Place}
use Rattle.rw_base.specs.declared.place.Span.{Span}
use Rattle.rw_tree.specs.declared.decl.Decl.{Decl}
use Rattle.rw_parser_grammar.specs.declared.item.Item.{Item}
use Rattle.rw_parser_reading.specs.Frames.{frames_of_item, kept}
use Rattle.rw_parser_grammar.specs.Levels.{max_levels}
use Rattle.rw_parser_reading.specs.Shallow.{is_fixity, item_place}
use Rattle.rw_parser_parts.specs.declared.joined.Group.{Group}
use Rattle.rw_parser.specs.Joined.{with_item}

-- the declarations that are kept, and the place of the first item that is too deep
abbrev pub Kept : Type 0
Kept = (List (Decl Span) × Option Group) × Option Place

abbrev pub with_shallow : Kept → Item → Kept
with_shallow kept item = if is_some kept.1 && not (is_fixity item) then kept else (with_item kept.0 item, kept.1)

abbrev pub with_deep : Kept → Place → Kept
with_deep (joined, None) place = (joined, Some place)
with_deep (joined, Some first) place = (joined, Some first)

abbrev pub with_kept : Kept → Place → Option Item → Kept
with_kept kept place None = with_deep kept place
with_kept kept place (Some item) = with_shallow kept item

-- nothing is kept yet
abbrev pub nothing : Kept
nothing = (([], None), None)

-- what is kept behind others
abbrev pub keeping : Kept → List Item → Kept
keeping before [] = before
keeping before (item ∷ items) = keeping (with_kept before (item_place item) (kept frames_of_item max_levels item)) items

abbrev pub kept_behind : Kept → Result (List Item) Place → Result Kept Place
kept_behind before (Ok items) = Ok (keeping before items)
kept_behind before (Err at) = Err at
