-- Expressions and local declarations are read exactly, at each level.
use Rattle.std.proofs.Common.{◌≡◌, ℕ, zero, suc, Bool, true, false, List, [], ◌∷◌, Some, refl, sym, ◌∙◌}
use Rattle.rw_base.specs.declared.place.Span.{Span}
use Rattle.rw_tree.specs.declared.pattern.Pat.{Pat}
use Rattle.rw_tree.specs.declared.expr.Expr.{Expr}
use Rattle.rw_tree.specs.declared.expr.Expr.TheVariants as e
use Rattle.rw_tree.specs.declared.clause.Alt.{Alt}
use Rattle.rw_tree.specs.declared.clause.Local.{Local}
use Rattle.rw_tree.specs.declared.clause.Stmt.{Stmt}
use Rattle.rw_parser_grammar.specs.declared.lexeme.Mark.TheVariants as m
use Rattle.rw_parser_grammar.specs.declared.lexeme.Lexeme.{Lexeme}
use Rattle.rw_parser_grammar.specs.declared.lexeme.Lexeme.TheVariants as t
use Rattle.rw_parser_grammar.specs.Lexemes.{span_at}
use Rattle.rw_parser_grammar.specs.Types.{IsType}
use Rattle.rw_parser_grammar.specs.Patterns.{IsApat, IsPattern}
use Rattle.rw_parser_grammar.specs.Expressions.{IsOperand, IsLast, an_operand, a_lambda, a_let, an_if, IsChain, no_operator, an_operator, IsExpressionOver, an_expression}
use Rattle.rw_parser_grammar.specs.Clauses.{IsLeftSide, IsClause, IsAlternative, IsAlternatives, IsStatement, IsStatements, IsExpression, IsLocals, IsLocalsBelow}
use Rattle.rw_parser_reading.specs.Read.{Read, same_mark, sees}
use Rattle.rw_parser_reading.specs.ReadTypes.{type_at, pattern_at}
use Rattle.rw_parser_reading.specs.ReadClauses.{ends_clause}
use Rattle.rw_parser_reading.specs.ReadExpressions.{ends_operand, ends_expression, begins_last}
use Rattle.rw_parser_reading.specs.ReadLevels.{clause_over, alternatives_over, statements_over, operand_over, expression_at, locals_at, expression_below, locals_below}
use Rattle.rw_parser_reading.proofs.ReadExact.{always, Exact}
use Rattle.rw_parser_laws.proofs.ReadTypes.{type_level}
use Rattle.rw_parser_laws.proofs.ReadPatterns.{pattern_level}
use Rattle.rw_parser_laws.proofs.ReadExpressions.{Begins, operand_exact, operand_begins}
use Rattle.rw_parser_laws.proofs.ReadChains.{no_last, over_exact, over_begins}
use Rattle.rw_parser_laws.proofs.Plain.{Passes, pattern_plain, operand_passes, over_passes}
use Rattle.rw_parser_laws.proofs.ReadSides.{alternatives_exact}
use Rattle.rw_parser_laws.proofs.ReadLocals.{locals_exact, clauses_exact}
use Rattle.rw_parser_laws.proofs.ReadStatements.{LetParts, let_parts, statements_exact}

-- ---- expressions that begin with `let`
module _ (Pattern : List Lexeme → Pat Span → List Lexeme → Type 0) (Inner : List Lexeme → Expr Span → List Lexeme → Type 0) (Locals : List Lexeme → List (Local Span) → List Lexeme → Type 0)
    (Operand : List Lexeme → Expr Span → List Lexeme → Type 0) (begins : (ts : List Lexeme) (a : Expr Span) (rest : List Lexeme) → Operand ts a rest → Begins ts × (begins_last ts ≡ false)) where
  no_let : {A : Type 0} (ts rest : List Lexeme) (a : Expr Span) → Operand ts a rest → sees m.Let ts ≡ true → A
  no_let ts rest a d h = absurd (let f : true ≡ false = sym h ∙ (no_last ts (begins ts a rest d).1).1.0 in cc)

  last_parts : (ts rest : List Lexeme) (a : Expr Span) → IsLast Pattern Inner Locals Operand ts a rest → sees m.Let ts ≡ true → LetParts Locals Inner ts a rest
  unfolding same_mark
  last_parts _ _ _ (an_operand ts rest a d) h = no_let ts rest a d h
  last_parts _ _ _ (a_lambda v w ts mid rest pat pats body ds d) h = absurd (cc)
  last_parts _ _ _ (a_let v w ts mid rest all body ds d) h = let_parts v w ts mid rest all body ds d
  last_parts _ _ _ (an_if u v w ts first second rest test one other a b d) h = absurd (cc)

  chain_parts : (ts : List Lexeme) (others ops : List (Expr Span)) (rest : List Lexeme) → IsChain Operand (IsLast Pattern Inner Locals Operand) ts (others, ops) rest → sees m.Let ts ≡ true
      → (a : Expr Span) × (others ≡ a ∷ []) × LetParts Locals Inner ts a rest
  chain_parts _ _ _ _ (no_operator ts rest a d) h = (a, refl, last_parts ts rest a d h)
  chain_parts _ _ _ _ (an_operator ts mid next rest a o others ops d k ds) h = no_let ts mid a d h

  over_parts : (ts : List Lexeme) (a : Expr Span) (rest : List Lexeme) → IsExpressionOver Operand (IsLast Pattern Inner Locals Operand) ts a rest → sees m.Let ts ≡ true → LetParts Locals Inner ts a rest
  over_parts _ _ _ (an_expression ts rest others ops d) h = let q = chain_parts ts others ops rest d h in rw (q.1) q.2

  of_over_parts : (ts : List Lexeme) (a : Expr Span) (rest : List Lexeme) → LetParts Locals Inner ts a rest → IsExpressionOver Operand (IsLast Pattern Inner Locals Operand) ts a rest
  of_over_parts _ _ _ (let_parts v w ts mid rest all body d i) =
      an_expression (t.Mark v m.Let ∷ ts) rest (e.Let (span_at v rest) all body ∷ []) [] (no_operator (t.Mark v m.Let ∷ ts) rest (e.Let (span_at v rest) all body) (a_let v w ts mid rest all body d i))

-- ---- at each level
abbrev pub IsExpressionBelow : ℕ → List Lexeme → Expr Span → List Lexeme → Type 0
IsExpressionBelow zero ts a rest = ⊥
IsExpressionBelow (suc n) ts a rest = IsExpression n ts a rest

pub record Level (n : ℕ) : Type 0 where
  pub expression : Exact (expression_at n) (IsExpression n) ends_expression
  pub begins : (ts : List Lexeme) (a : Expr Span) (rest : List Lexeme) → IsExpression n ts a rest → Begins ts
  pub passes : (ts : List Lexeme) (a : Expr Span) (rest : List Lexeme) → IsExpression n ts a rest → Passes ts rest
  pub locals : Exact (locals_at n) (IsLocals n) always
  pub below : Exact (expression_below n) (IsExpressionBelow n) ends_expression
  pub lower : Exact (locals_below n) (IsLocalsBelow n) always
  pub parts_of : (ts : List Lexeme) (a : Expr Span) (rest : List Lexeme) → IsExpression n ts a rest → sees m.Let ts ≡ true → LetParts (IsLocalsBelow n) (IsExpressionBelow n) ts a rest
  pub of_parts : (ts : List Lexeme) (a : Expr Span) (rest : List Lexeme) → LetParts (IsLocalsBelow n) (IsExpressionBelow n) ts a rest → IsExpression n ts a rest

none_exact : {A : Type 0} (stop : List Lexeme → Bool) (read : List Lexeme → Read A) → ((ts : List Lexeme) (q : A × List Lexeme) → read ts ≡ Some q → ⊥) → Exact read (λ ts a rest. ⊥) stop
none_exact stop read none = record { sound = λ ts q h. none ts q h; complete = λ ts a rest d s. absurd d; shorter = λ ts a rest d. absurd d }

no_parts : (ts : List Lexeme) (a : Expr Span) (rest : List Lexeme) → LetParts (λ ts all rest. ⊥) (λ ts a rest. ⊥) ts a rest → ⊥
no_parts _ _ _ (let_parts v w ts mid rest all body d i) = d

level_zero : Level 0
unfolding expression_at
level_zero = record {
  expression = none_exact ends_expression (expression_at 0) (λ ts q h. cc);
  begins = λ ts a rest d. absurd d;
  passes = λ ts a rest d. absurd d;
  locals = none_exact always (locals_at 0) (λ ts q h. cc);
  below = none_exact ends_expression (expression_below 0) (λ ts q h. cc);
  lower = none_exact always (locals_below 0) (λ ts q h. cc);
  parts_of = λ ts a rest d l. absurd d;
  of_parts = λ ts a rest d. no_parts ts a rest d;
}

module _ (n : ℕ) (h : Level n) where
  abbrev Rows : List Lexeme → List (Alt Span) → List Lexeme → Type 0
  Rows = IsAlternatives (IsAlternative (IsPattern n) (IsExpression n))

  abbrev Lines : List Lexeme → List (Stmt Span) → List Lexeme → Type 0
  Lines = IsStatements (IsStatement (IsPattern n) (IsExpression n) (IsLocalsBelow n))

  abbrev Operand : List Lexeme → Expr Span → List Lexeme → Type 0
  Operand = IsOperand (IsExpression n) Rows Lines

  abbrev rows_at : List Lexeme → Read (List (Alt Span))
  rows_at = alternatives_over n (expression_at n) (locals_at n)

  abbrev lines_at : List Lexeme → Read (List (Stmt Span))
  lines_at = statements_over n (expression_at n) (locals_at n) (locals_below n) (expression_below n)

  rows_exact : Exact rows_at Rows always
  rows_exact = alternatives_exact (pattern_at n) (IsPattern n) (pattern_level n).0 (pattern_plain n) (expression_at n) (IsExpression n) h.expression

  lines_exact : Exact lines_at Lines always
  lines_exact =
      statements_exact (pattern_at n) (IsPattern n) (pattern_level n).0 (pattern_plain n) (expression_at n) (IsExpression n) h.expression h.begins h.passes (locals_below n) (IsLocalsBelow n) h.lower (expression_below n) (IsExpressionBelow n) h.below
      h.parts_of h.of_parts

  operands : Exact (operand_over n (expression_at n) (locals_at n) (locals_below n) (expression_below n)) Operand ends_operand
  operands = operand_exact (expression_at n) (IsExpression n) h.expression h.begins rows_at Rows rows_exact lines_at Lines lines_exact

  operands_begin : (ts : List Lexeme) (a : Expr Span) (rest : List Lexeme) → Operand ts a rest → Begins ts × (begins_last ts ≡ false)
  operands_begin = operand_begins (expression_at n) (IsExpression n) h.expression h.begins rows_at Rows rows_exact lines_at Lines lines_exact

  level_next : Level (suc n)
  unfolding expression_at
  level_next = record {
    expression = over_exact (pattern_at n) (IsPattern n) (pattern_level n).0 (pattern_level n).1 (expression_at n) (IsExpression n) h.expression (locals_at n) (IsLocals n) h.locals
        (operand_over n (expression_at n) (locals_at n) (locals_below n) (expression_below n)) Operand operands operands_begin;
    begins = over_begins (pattern_at n) (IsPattern n) (pattern_level n).0 (pattern_level n).1 (expression_at n) (IsExpression n) h.expression (locals_at n) (IsLocals n) h.locals
        (operand_over n (expression_at n) (locals_at n) (locals_below n) (expression_below n)) Operand operands operands_begin;
    passes = over_passes (IsPattern n) (IsExpression n) (IsLocals n) Operand (operand_passes (IsExpression n) h.passes Rows Lines);
    locals = locals_exact (pattern_at n) (IsPattern n) (pattern_level n).0 (pattern_level n).1 (pattern_plain n) (type_at n) (IsType n) (type_level n).0 (expression_at n) (IsExpression n) h.expression (locals_at n) (IsLocals n) h.locals;
    below = h.expression;
    lower = h.locals;
    parts_of = over_parts (IsPattern n) (IsExpression n) (IsLocals n) Operand operands_begin;
    of_parts = of_over_parts (IsPattern n) (IsExpression n) (IsLocals n) Operand operands_begin;
  }

pub level : (n : ℕ) → Level n
level zero = level_zero
level (suc n) = level_next n (level n)

-- a clause with so many levels inside
pub clause_level : (n : ℕ) → Exact (clause_over n (expression_at n) (locals_at n)) (IsClause (IsLeftSide (IsPattern n) (IsApat (IsPattern n))) (IsExpression n) (IsLocals n)) ends_clause
clause_level n =
    clauses_exact (pattern_at n) (IsPattern n) (pattern_level n).0 (pattern_level n).1 (pattern_plain n) (type_at n) (IsType n) (type_level n).0 (expression_at n) (IsExpression n) (level n).expression (locals_at n) (IsLocals n) (level n).locals
