-- Reading items, where an item is kept only if it has 512 frames at most, as functions on lists.
use Rattle.std.specs.Prelude.{ℕ, Bool, ◌||◌, List, Option, Some, None, if◌then◌else◌}
use Rattle.rw_base.specs.declared.place.Span.{Span}
use Rattle.rw_tree.specs.declared.clause.Alt.{Alt}
use Rattle.rw_tree.specs.declared.decl.Decl.{Decl}
use Rattle.rw_parser_grammar.specs.declared.item.Item.{Item}
use Rattle.rw_parser_grammar.specs.declared.item.Item.TheVariants as i
use Rattle.rw_parser_grammar.specs.declared.lexeme.Mark.TheVariants as m
use Rattle.rw_parser_grammar.specs.declared.lexeme.Lexeme.{Lexeme}
use Rattle.rw_parser_reading.specs.Frames.{cut}
use Rattle.rw_parser_grammar.specs.Levels.{max_levels}
use Rattle.rw_parser_reading.specs.Read.{◌>>=◌, Read, sees}
use Rattle.rw_parser_reading.specs.ReadDeclarations.{import_at, fixity_at, begins_signed, begins_fixity}
use Rattle.rw_parser_reading.specs.ReadLevels.{clause_over, expression_at, locals_at}
use Rattle.rw_parser_items.specs.Kept.{data_kept, newtype_kept, signature_kept}
use Rattle.rw_parser.specs.Clauses.{frames_of_clause}

-- the tokens behind a name go on with a signature
abbrev pub goes_on : List Lexeme → Bool
goes_on ts = sees m.Comma ts || sees m.Colons ts

-- a declaration that is whole, if it is kept
abbrev pub whole : Option (Decl Span) → Option Item
whole None = None
whole (Some a) = Some (i.Whole a)

-- a clause, if it is kept
abbrev pub clause_of : Option (List ℕ × Alt Span) → Option Item
clause_of None = None
clause_of (Some c) = Some (i.Clause c.0 c.1)

-- an item that begins with no reserved word
unfoldable pub named_item_kept : ℕ → List Lexeme → Read (Option Item)
named_item_kept n ts =
    if begins_signed ts then (signature_kept max_levels ts >>= (λ p. Some (whole p.0, p.1)))
    else (cut frames_of_clause max_levels (clause_over n (expression_at n) (locals_at n) ts) >>= (λ p. Some (clause_of p.0, p.1)))

-- an item
unfoldable pub item_kept : ℕ → List Lexeme → Read (Option Item)
item_kept n ts =
    if sees m.Import ts then (import_at ts >>= (λ p. Some (Some (i.Whole p.0), p.1)))
    else (if sees m.Data ts then (data_kept max_levels ts >>= (λ p. Some (whole p.0, p.1)))
    else (if sees m.Newtype ts then (newtype_kept max_levels ts >>= (λ p. Some (whole p.0, p.1)))
    else (if begins_fixity ts then (fixity_at ts >>= (λ p. Some (Some (i.Whole p.0), p.1))) else named_item_kept n ts)))
