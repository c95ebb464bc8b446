-- What the public readers give, by what they read inside with room for one frame more.
use Rattle.std.proofs.Common.{◌≡◌, ℕ, suc, min, ◌<◌, ◌≤◌, List, length, Option, Some, None, ap, ◌∙◌, arith}
use Rattle.rw_base.specs.declared.place.Span.{Span}
use Rattle.rw_tree.specs.declared.expr.Expr.{Expr}
use Rattle.rw_tree.specs.declared.clause.Alt.{Alt}
use Rattle.rw_tree.specs.declared.clause.Local.{Local}
use Rattle.rw_parser_grammar.specs.declared.lexeme.Lexeme.{Lexeme}
use Rattle.rw_parser_reading.specs.Frames.{most, frames_of_expression, frames_of_local, cut}
use Rattle.rw_parser_reading.specs.Read.{Read}
use Rattle.rw_parser_reading.specs.ReadLevels.{clause_over, expression_at, locals_at}
use Rattle.rw_parser_reading.proofs.Alike.{Alike, left}
use Rattle.rw_parser_parts.specs.Within.{expression_within, locals_within}
use Rattle.rw_parser_clauses.specs.Clause.{frames_of_clause}
use Rattle.rw_parser_clauses.specs.Inside.{clause_inside}
use Rattle.rw_parser_clauses.proofs.Small.{unseen, Together}
use Rattle.rw_parser_clauses.proofs.Whole.{clause_any, expression_any, locals_any, clauses_whole, expressions_whole, locals_whole}
use Rattle.rw_parser_clauses.proofs.CutOff.{clauses_small, expressions_small, all_locals_small}
use Rattle.rw_parser_clauses.proofs.Rooms.{room_is, nothing_is, took_some}

-- what a reader found of a tree with so many frames, where there is room for one less
pub record Found {A : Type 0} (frames : A → ℕ) (room more count : ℕ) (a : A) (found : Option A) : Type 0 where
  pub counted : count ≡ min more (frames a)
  pub fits : count < more → found ≡ Some a
  pub cut_off : more ≤ count → (room < more) × (found ≡ None)

module _ {A X : Type 0} (frames : A → ℕ) (look : A → X) (room more n : ℕ) (close : more ≤ suc room) (small whole grammar : Read A) (t : Together frames look more small whole) (alike : Alike left n grammar whole) where
  kept_is : (a : A) (rest : List Lexeme) (found : Option A) (count : ℕ) → small ≡ Some (a, rest) → Found frames room more count a found → cut frames room grammar ≡ Some (found, rest)
  kept_is a rest found count e f = ap (cut frames room) alike.same ∙ room_is frames look room more close small whole a rest found count t e f.counted f.fits f.cut_off

  none_is : small ≡ None → cut frames room grammar ≡ None
  none_is e = ap (cut frames room) alike.same ∙ nothing_is frames look room more close small whole t e

module _ (room more : ℕ) (close : more ≤ suc room) (n : ℕ) (ts : List Lexeme) (enough : length ts ≤ n) where
  pub expression_kept : (a : Expr Span) (rest : List Lexeme) (found : Option (Expr Span)) (count : ℕ) → expression_within (length ts) more ts ≡ Some (a, rest) → Found frames_of_expression room more count a found
      → cut frames_of_expression room (expression_at n ts) ≡ Some (found, rest)
  expression_kept =
      kept_is frames_of_expression unseen room more (length ts) close (expression_within (length ts) more ts) (expression_any (length ts) ts) (expression_at n ts) (expressions_small (length ts) more ts)
      (expressions_whole n (length ts) (length ts) enough (omega arith) ts (omega arith))

  pub expression_none : expression_within (length ts) more ts ≡ None → cut frames_of_expression room (expression_at n ts) ≡ None
  expression_none =
      none_is frames_of_expression unseen room more (length ts) close (expression_within (length ts) more ts) (expression_any (length ts) ts) (expression_at n ts) (expressions_small (length ts) more ts)
      (expressions_whole n (length ts) (length ts) enough (omega arith) ts (omega arith))

  pub locals_kept : (a : List (Local Span)) (rest : List Lexeme) (found : Option (List (Local Span))) (count : ℕ) → locals_within (length ts) more ts ≡ Some (a, rest) → Found (most frames_of_local) room more count a found
      → cut (most frames_of_local) room (locals_at n ts) ≡ Some (found, rest)
  locals_kept =
      kept_is (most frames_of_local) unseen room more (length ts) close (locals_within (length ts) more ts) (locals_any (length ts) ts) (locals_at n ts) (all_locals_small (length ts) more ts)
      (locals_whole n (length ts) (length ts) enough (omega arith) ts (omega arith))

  pub locals_none : locals_within (length ts) more ts ≡ None → cut (most frames_of_local) room (locals_at n ts) ≡ None
  locals_none =
      none_is (most frames_of_local) unseen room more (length ts) close (locals_within (length ts) more ts) (locals_any (length ts) ts) (locals_at n ts) (all_locals_small (length ts) more ts)
      (locals_whole n (length ts) (length ts) enough (omega arith) ts (omega arith))

  clause_alike : Alike left (length ts) (clause_over n (expression_at n) (locals_at n) ts) (clause_any (expression_any (length ts)) (locals_any (length ts)) ts)
  clause_alike =
      clauses_whole (length ts) n enough (expression_at n) (expression_any (length ts)) (expressions_whole n (length ts) (length ts) enough (omega arith)) (locals_at n) (locals_any (length ts))
      (locals_whole n (length ts) (length ts) enough (omega arith)) ts (omega arith)

  clause_together : Together frames_of_clause (λ clause. clause.0) more (clause_inside (length ts) more ts) (clause_any (expression_any (length ts)) (locals_any (length ts)) ts)
  clause_together =
      clauses_small more (expression_within (length ts) more) (expression_any (length ts)) (expressions_small (length ts) more) (locals_within (length ts) more) (locals_any (length ts)) (all_locals_small (length ts) more) ts

  pub clause_kept : (a : List ℕ × Alt Span) (rest : List Lexeme) (found : Option (List ℕ × Alt Span)) (count : ℕ) → clause_inside (length ts) more ts ≡ Some (a, rest) → Found frames_of_clause room more count a found
      → cut frames_of_clause room (clause_over n (expression_at n) (locals_at n) ts) ≡ Some (found, rest)
  clause_kept = kept_is frames_of_clause (λ clause. clause.0) room more (length ts) close (clause_inside (length ts) more ts) _ _ clause_together clause_alike

  pub clause_none : clause_inside (length ts) more ts ≡ None → cut frames_of_clause room (clause_over n (expression_at n) (locals_at n) ts) ≡ None
  clause_none = none_is frames_of_clause (λ clause. clause.0) room more (length ts) close (clause_inside (length ts) more ts) _ _ clause_together clause_alike

-- a token at least was taken
module _ (room : ℕ) (ts rest : List Lexeme) where
  pub expression_shorter : (found : Option (Expr Span)) → cut frames_of_expression room (expression_at (length ts) ts) ≡ Some (found, rest) → length rest < length ts
  expression_shorter found e =
      took_some frames_of_expression room (length ts) (expression_at (length ts) ts) (expression_any (length ts) ts) found rest (expressions_whole (length ts) (length ts) (length ts) (omega arith) (omega arith) ts (omega arith)) e

  pub locals_shorter : (found : Option (List (Local Span))) → cut (most frames_of_local) room (locals_at (length ts) ts) ≡ Some (found, rest) → length rest < length ts
  locals_shorter found e =
      took_some (most frames_of_local) room (length ts) (locals_at (length ts) ts) (locals_any (length ts) ts) found rest (locals_whole (length ts) (length ts) (length ts) (omega arith) (omega arith) ts (omega arith)) e

  pub clause_shorter : (found : Option (List ℕ × Alt Span)) → cut frames_of_clause room (clause_over (length ts) (expression_at (length ts)) (locals_at (length ts)) ts) ≡ Some (found, rest) → length rest < length ts
  clause_shorter found e =
      took_some frames_of_clause room (length ts) (clause_over (length ts) (expression_at (length ts)) (locals_at (length ts)) ts) _ found rest
      (clause_alike 0 0 (omega arith) (length ts) ts (omega arith)) e
