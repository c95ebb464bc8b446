-- Readers of the grammar with a level for each token inside types and patterns, whatever the levels outside: they read the same where there are enough.
use Rattle.std.proofs.Common.{◌≡◌, ℕ, zero, suc, ◌-◌, ◌≤◌, List, [], ◌∷◌, length, None, refl, arith}
use Rattle.rw_base.specs.declared.place.Span.{Span}
use Rattle.rw_tree.specs.declared.expr.Expr.{Expr}
use Rattle.rw_tree.specs.declared.clause.Alt.{Alt}
use Rattle.rw_tree.specs.declared.clause.Local.{Local}
use Rattle.rw_parser_grammar.specs.declared.item.Bound.{Bound}
use Rattle.rw_parser_grammar.specs.declared.lexeme.Lexeme.{Lexeme}
use Rattle.rw_parser_reading.specs.Read.{Read, after, block_at}
use Rattle.rw_parser_reading.specs.ReadTypes.{type_at, apats_at, pattern_at}
use Rattle.rw_parser_reading.specs.ReadExpressions.{operand_at, closing_at, chain_at, expression_over_at}
use Rattle.rw_parser_reading.specs.ReadClauses.{clause_at, alternative_at, alternatives_at, binding_at, local_at, locals_over_at, statement_at, statements_at}
use Rattle.rw_parser_reading.specs.ReadLevels.{clause_over, local_over, alternatives_over, operand_over, expression_over, expression_at, locals_at, expression_below, locals_below}
use Rattle.rw_parser_reading.proofs.Alike.{Agree, Pass, apats_alike}
use Rattle.rw_parser_reading.proofs.AlikeExpressions.{operand_alike, closing_alike, expression_over_alike, left_side_alike, binding_alike, clause_alike, local_alike, alternatives_alike, locals_over_alike, statements_alike}
use Rattle.rw_parser_reading.proofs.Agree.{shorter_agree, shorter_pass, nothing_alike, types_agree, patterns_agree, no_expression, no_locals, no_below, no_lower}
use Rattle.rw_parser_patterns.specs.Depth.{any_type_at, any_pattern_at}
use Rattle.rw_parser_parts.specs.Within.{any_left_side_at, any_binding_at}

-- ---- one level, over the readers of what stands inside
module _ (inner : List Lexeme → Read (Expr Span)) (locals : List Lexeme → Read (List (Local Span))) where
  abbrev pub clause_any : List Lexeme → Read (List ℕ × Alt Span)
  clause_any = clause_at any_left_side_at inner locals

  abbrev pub local_any : List Lexeme → Read Bound
  local_any = local_at any_binding_at any_type_at clause_any inner locals

module _ (inner : List Lexeme → Read (Expr Span)) (lower : List Lexeme → Read (List (Local Span))) (below : List Lexeme → Read (Expr Span)) where
  abbrev pub operand_any : List Lexeme → Read (Expr Span)
  operand_any = operand_at inner (alternatives_at (alternative_at any_pattern_at inner)) (statements_at (statement_at any_pattern_at inner lower below))

unfoldable mutual
  pub expression_any : ℕ → List Lexeme → Read (Expr Span)
  expression_any zero ts = None
  expression_any (suc n) ts = expression_over_at (operand_any (expression_any n) (locals_low n) (expression_low n)) (closing_at any_pattern_at (expression_any n) (locals_any n)) ts

  pub locals_any : ℕ → List Lexeme → Read (List (Local Span))
  locals_any zero ts = None
  locals_any (suc n) ts = locals_over_at (local_any (expression_any n) (locals_any n)) ts

  pub expression_low : ℕ → List Lexeme → Read (Expr Span)
  expression_low zero ts = None
  expression_low (suc n) ts = expression_any n ts

  pub locals_low : ℕ → List Lexeme → Read (List (Local Span))
  locals_low zero ts = None
  locals_low (suc n) ts = locals_any n ts

-- ---- where there is nothing to read
no_expression_any : (n : ℕ) → expression_any n [] ≡ None
unfolding expression_any expression_over_at chain_at
no_expression_any zero = refl
no_expression_any (suc n) = refl

no_locals_any : (n : ℕ) → locals_any n [] ≡ None
unfolding locals_any locals_over_at block_at after
no_locals_any zero = refl
no_locals_any (suc n) = refl

no_expression_low : (n : ℕ) → expression_low n [] ≡ None
unfolding expression_low
no_expression_low zero = refl
no_expression_low (suc n) = no_expression_any n

no_locals_low : (n : ℕ) → locals_low n [] ≡ None
unfolding locals_low
no_locals_low zero = refl
no_locals_low (suc n) = no_locals_any n

-- ---- types and patterns
types_any : (k n : ℕ) → k ≤ n → Agree k (type_at n) any_type_at
unfolding any_type_at
types_any k n h ts l = types_agree (length ts) n (length ts) (omega arith) (omega arith) ts (omega arith)

patterns_any : (k n : ℕ) → k ≤ n → Agree k (pattern_at n) any_pattern_at
unfolding any_pattern_at
patterns_any k n h ts l = patterns_agree (length ts) n (length ts) (omega arith) (omega arith) ts (omega arith)

-- ---- what stands one level up, over readers that agree
module _ (k n : ℕ) (h : k ≤ n) (f e : List Lexeme → Read (Expr Span)) (agree : Agree k f e) (u v : List Lexeme → Read (List (Local Span))) (locals : Agree k u v) where
  simple : Pass k (apats_at (pattern_at n)) (apats_at any_pattern_at)
  simple = shorter_pass (suc k) k (omega arith) (apats_alike k (pattern_at n) any_pattern_at (patterns_any k n h))

  pub clauses_whole : Agree k (clause_over n f u) (clause_any e v)
  clauses_whole = clause_alike k f e agree u v locals _ _ (left_side_alike k (pattern_at n) any_pattern_at (patterns_any k n h) (apats_at (pattern_at n)) (apats_at any_pattern_at) simple)

  bindings_whole : Agree k (binding_at (pattern_at n) (apats_at (pattern_at n))) any_binding_at
  bindings_whole = shorter_agree (suc k) k (omega arith) (binding_alike k (pattern_at n) any_pattern_at (patterns_any k n h) (apats_at (pattern_at n)) (apats_at any_pattern_at) simple)

  entries_whole : Agree k (local_over n f u) (local_any e v)
  entries_whole = local_alike k f e agree u v locals _ _ bindings_whole (type_at n) any_type_at (types_any k n h) _ _ clauses_whole

  rows_whole : Agree k (alternatives_over n f u) (alternatives_at (alternative_at any_pattern_at e))
  rows_whole = alternatives_alike k f e agree u v locals (pattern_at n) any_pattern_at (patterns_any k n h)

  module _ (s r : List Lexeme → Read (List (Local Span))) (lower : Agree (k - 1) s r) (a b : List Lexeme → Read (Expr Span)) (below : Agree (k - 1) a b) where
    operands_whole : Agree (suc k) (operand_over n f u s a) (operand_any e r b)
    operands_whole = operand_alike k f e agree _ _ rows_whole _ _ (statements_alike k (pattern_at n) any_pattern_at (patterns_any k n h) f e agree s r lower a b below)

    over_whole : Agree (suc k) (expression_over n f u s a) (expression_over_at (operand_any e r b) (closing_at any_pattern_at e v))
    over_whole = expression_over_alike (suc k) _ _ operands_whole _ _ (closing_alike k f e agree (pattern_at n) any_pattern_at simple u v locals)

mutual
  unfolding expression_at locals_at expression_below locals_below expression_any locals_any expression_low locals_low

  pub expressions_whole : (n k j : ℕ) → k ≤ n → k ≤ j → Agree k (expression_at n) (expression_any j)
  expressions_whole n k j g h [] l = nothing_alike (expression_at n []) (expression_any j []) (no_expression n) (no_expression_any j)
  expressions_whole zero k j g h (x ∷ xs) l = absurd (omega arith)
  expressions_whole (suc n) zero j g h (x ∷ xs) l = absurd (omega arith)
  expressions_whole (suc n) (suc k) zero g h (x ∷ xs) l = absurd (omega arith)
  expressions_whole (suc n) (suc k) (suc j) g h (x ∷ xs) l =
      over_whole k n (omega arith) (expression_at n) (expression_any j) (expressions_whole n k j (omega arith) (omega arith)) (locals_at n) (locals_any j) (locals_whole n k j (omega arith) (omega arith))
      (locals_below n) (locals_low j) (lower_whole n k j (omega arith) (omega arith)) (expression_below n) (expression_low j) (below_whole n k j (omega arith) (omega arith)) (x ∷ xs) l

  pub locals_whole : (n k j : ℕ) → k ≤ n → k ≤ j → Agree k (locals_at n) (locals_any j)
  locals_whole n k j g h [] l = nothing_alike (locals_at n []) (locals_any j []) (no_locals n) (no_locals_any j)
  locals_whole zero k j g h (x ∷ xs) l = absurd (omega arith)
  locals_whole (suc n) zero j g h (x ∷ xs) l = absurd (omega arith)
  locals_whole (suc n) (suc k) zero g h (x ∷ xs) l = absurd (omega arith)
  locals_whole (suc n) (suc k) (suc j) g h (x ∷ xs) l =
      locals_over_alike k _ _ (entries_whole k n (omega arith) (expression_at n) (expression_any j) (expressions_whole n k j (omega arith) (omega arith)) (locals_at n) (locals_any j)
      (locals_whole n k j (omega arith) (omega arith))) (x ∷ xs) l

  below_whole : (n k j : ℕ) → k ≤ n → k ≤ j → Agree (k - 1) (expression_below n) (expression_low j)
  below_whole n k j g h [] l = nothing_alike (expression_below n []) (expression_low j []) (no_below n) (no_expression_low j)
  below_whole zero k j g h (x ∷ xs) l = absurd (omega arith)
  below_whole (suc n) k zero g h (x ∷ xs) l = absurd (omega arith)
  below_whole (suc n) k (suc j) g h (x ∷ xs) l = expressions_whole n (k - 1) j (omega arith) (omega arith) (x ∷ xs) l

  lower_whole : (n k j : ℕ) → k ≤ n → k ≤ j → Agree (k - 1) (locals_below n) (locals_low j)
  lower_whole n k j g h [] l = nothing_alike (locals_below n []) (locals_low j []) (no_lower n) (no_locals_low j)
  lower_whole zero k j g h (x ∷ xs) l = absurd (omega arith)
  lower_whole (suc n) k zero g h (x ∷ xs) l = absurd (omega arith)
  lower_whole (suc n) k (suc j) g h (x ∷ xs) l = locals_whole n (k - 1) j (omega arith) (omega arith) (x ∷ xs) l
