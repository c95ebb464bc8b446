-- What is kept of the items of a program where some have too many frames to be trees: those before the first of these, and the fixity declarations
-- behind it, which say how operators before it group.
use Rattle.std.specs.Prelude.{Bool, true, false, nat_le, List, [], ◌∷◌, Option, Some, None, if◌then◌else◌}
use Rattle.rw_base.specs.declared.place.Place.{Place}
use Rattle.rw_base.specs.declared.place.Span.{Span}
use Rattle.rw_tree.specs.declared.clause.Alt.{out-Alt}
use Rattle.rw_tree.specs.declared.decl.Decl.{Decl}
use Rattle.rw_tree.specs.declared.decl.Decl.TheVariants.{Import, Data, Fixity, Sig, Fun}
use Rattle.rw_tree.specs.declared.program.Program.{Program}
use Rattle.rw_parser_grammar.specs.declared.item.Item.{Item}
use Rattle.rw_parser_grammar.specs.declared.item.Item.TheVariants as i
use Rattle.rw_parser_grammar.specs.Grammar.{item_groups, declarations_of}
use Rattle.rw_parser_grammar.specs.Levels.{max_levels}
use Rattle.rw_parser_grammar.specs.Resolution.{declaration_span}
use Rattle.rw_parser_reading.specs.Frames.{frames_of_item}

-- the program of items
abbrev pub of_items : List Item → Program Span
of_items items = record { decls = declarations_of (item_groups items) }

abbrev pub is_fixity_declaration : Decl Span → Bool
is_fixity_declaration (Import span name) = false
is_fixity_declaration (Data span made) = false
is_fixity_declaration (Fixity span side n names) = true
is_fixity_declaration (Sig span names type) = false
is_fixity_declaration (Fun span name rows) = false

abbrev pub is_fixity : Item → Bool
is_fixity (i.Clause name row) = false
is_fixity (i.Whole a) = is_fixity_declaration a

-- the fixity declarations
abbrev pub fixities : List Item → List Item
fixities [] = []
fixities (item ∷ items) = if is_fixity item then item ∷ fixities items else fixities items

-- the item has no more frames than levels are allowed
abbrev pub is_shallow : Item → Bool
is_shallow item = nat_le (frames_of_item item) max_levels

-- the items before the first that is too deep, and the fixity declarations behind it
abbrev pub shallow : List Item → List Item
shallow [] = []
shallow (item ∷ items) = if is_shallow item then item ∷ shallow items else fixities items

-- where an item stands
abbrev pub item_place : Item → Place
item_place (i.Clause name row) = (out-Alt Span row).at.first
item_place (i.Whole a) = (declaration_span a).first

-- the place of the first item that is too deep
abbrev pub first_deep : List Item → Option Place
first_deep [] = None
first_deep (item ∷ items) = if is_shallow item then first_deep items else Some (item_place item)
