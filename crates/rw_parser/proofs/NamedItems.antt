-- An item that begins with no reserved word, by what it begins with.
use Rattle.std.proofs.Common.{◌≡◌, ℕ, true, false, List, Option, Some, None, refl}
use Rattle.rw_base.specs.declared.place.Span.{Span}
use Rattle.rw_tree.specs.declared.clause.Alt.{Alt}
use Rattle.rw_tree.specs.declared.decl.Decl.{Decl}
use Rattle.rw_parser_grammar.specs.declared.lexeme.Lexeme.{Lexeme}
use Rattle.rw_parser_reading.specs.Frames.{cut}
use Rattle.rw_parser_grammar.specs.Levels.{max_levels}
use Rattle.rw_parser_reading.specs.ReadDeclarations.{begins_signed}
use Rattle.rw_parser_reading.specs.ReadLevels.{clause_over, expression_at, locals_at}
use Rattle.rw_parser_items.specs.Kept.{signature_kept}
use Rattle.rw_parser.specs.Clauses.{frames_of_clause}
use Rattle.rw_parser.specs.Kept.{whole, clause_of, named_item_kept}

module _ (n : ℕ) (ts : List Lexeme) where
  pub signed : (p : Option (Decl Span) × List Lexeme) → begins_signed ts ≡ true → signature_kept max_levels ts ≡ Some p → named_item_kept n ts ≡ Some (whole p.0, p.1)
  unfolding named_item_kept
  signed p h e = rw (h, e) refl

  pub not_signed : begins_signed ts ≡ true → signature_kept max_levels ts ≡ None → named_item_kept n ts ≡ None
  unfolding named_item_kept
  not_signed h e = rw (h, e) refl

  pub a_clause : (p : Option (List ℕ × Alt Span) × List Lexeme) → begins_signed ts ≡ false → cut frames_of_clause max_levels (clause_over n (expression_at n) (locals_at n) ts) ≡ Some p → named_item_kept n ts ≡ Some (clause_of p.0, p.1)
  unfolding named_item_kept
  a_clause p h e = rw (h, e) refl

  pub no_clause : begins_signed ts ≡ false → cut frames_of_clause max_levels (clause_over n (expression_at n) (locals_at n) ts) ≡ None → named_item_kept n ts ≡ None
  unfolding named_item_kept
  no_clause h e = rw (h, e) refl
