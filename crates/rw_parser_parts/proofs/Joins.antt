-- Joining the entries of a block from left to right gives the local declarations that the grammar names.
use Rattle.std.proofs.Common.{◌≡◌, List, [], ◌∷◌, ◌++◌, Option, refl, reverse}
use Rattle.std.proofs.lemmas.List.{reverse-append}
use Rattle.rw_base.specs.declared.place.Span.{Span}
use Rattle.rw_tree.specs.declared.clause.Local.{Local}
use Rattle.rw_tree.specs.declared.clause.Local.TheVariants as l
use Rattle.rw_parser_grammar.specs.declared.item.Bound.{Bound}
use Rattle.rw_parser_grammar.specs.declared.item.Bound.TheVariants as b
use Rattle.rw_parser_grammar.specs.Clauses.{local_groups, locals_of}
use Rattle.rw_parser_parts.specs.Joined.{closed, with_entry}
use Rattle.rw_parser_parts.specs.declared.joined.Group.{Group as Going}
use Rattle.rw_parser_parts.proofs.Joining.{Declares, going_on, clause_joined, whole_joined}
use Rattle.rw_parser_parts.proofs.Joining as joining

declares : Declares l.Fun locals_of
declares = record { none = refl; one = λ a groups. refl; some = λ name first rows groups. refl }

-- what was joined, and what follows
abbrev pub all_of : List (Local Span) × Option Going → List Bound → List (Local Span)
all_of made entries = made.0 ++ going_on l.Fun locals_of made.1 (local_groups entries)

pub entry_joined : (made : List (Local Span) × Option Going) (entry : Bound) (entries : List Bound) → all_of (with_entry made entry) entries ≡ all_of made (entry ∷ entries)
entry_joined (all, going) (b.Clause name row) entries = clause_joined declares all going name row (local_groups entries)
entry_joined (all, going) (b.Whole a) entries = whole_joined declares all going a (local_groups entries)

pub all_joined : (all : List (Local Span)) (going : Option Going) → all_of (all, going) [] ≡ closed l.Fun all going
all_joined all going = joining.all_joined declares all going

-- the last of a list is the first of it reversed
pub reversed_last : {A : Type 0} (others : List A) (a : A) → reverse (others ++ a ∷ []) ≡ a ∷ reverse others
reversed_last others a = reverse-append others (a ∷ [])
