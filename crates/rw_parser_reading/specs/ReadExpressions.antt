-- Reading expressions from the front of a list of tokens, as functions on lists, over the readers of what stands inside.
use Rattle.std.specs.Prelude.{ℕ, zero, suc, Bool, true, false, not, ◌||◌, List, [], ◌∷◌, length, drop, Some, None, if◌then◌else◌}
use Rattle.rw_base.specs.declared.place.Span.{Span}
use Rattle.rw_tree.specs.declared.pattern.Pat.{Pat}
use Rattle.rw_tree.specs.declared.expr.Expr.{Expr}
use Rattle.rw_tree.specs.declared.expr.Expr.TheVariants as e
use Rattle.rw_tree.specs.declared.clause.Alt.{Alt}
use Rattle.rw_tree.specs.declared.clause.Local.{Local}
use Rattle.rw_tree.specs.declared.clause.Stmt.{Stmt}
use Rattle.rw_parser_grammar.specs.declared.lexeme.Mark.TheVariants as m
use Rattle.rw_parser_grammar.specs.declared.lexeme.Spot.{Spot}
use Rattle.rw_parser_grammar.specs.declared.lexeme.Lexeme.{Lexeme}
use Rattle.rw_parser_grammar.specs.declared.lexeme.Lexeme.TheVariants as t
use Rattle.rw_parser_grammar.specs.Lexemes.{span_at, span_of}
use Rattle.rw_parser_grammar.specs.Types.{few}
use Rattle.rw_parser_grammar.specs.Expressions.{grouped_expression, applied_expression, chained}
use Rattle.rw_parser_reading.specs.Read.{◌>>=◌, Read, same_mark, sees, after, separated_at, many_at, operator_at, begins_operator}
use Rattle.rw_parser_reading.specs.ReadTypes.{begins_apat, apats_at}
use Rattle.rw_parser_reading.specs.ReadNames.{begins_op, op_at}

-- the tokens begin an aexp
abbrev pub begins_aexp : List Lexeme → Bool
begins_aexp [] = false
begins_aexp (t.Mark w a ∷ ts) = same_mark a m.Opens
begins_aexp (t.Variable w name ∷ ts) = true
begins_aexp (t.Constructor w name ∷ ts) = true
begins_aexp (t.Operator w name ∷ ts) = false
begins_aexp (t.Number w digits ∷ ts) = false

-- what may follow an operand and an expression: no token that could make the tree another
abbrev pub ends_operand : List Lexeme → Bool
ends_operand ts = not (begins_aexp ts)

abbrev pub ends_expression : List Lexeme → Bool
ends_expression ts = not (begins_op ts || begins_aexp ts)

module _ (inner : List Lexeme → Read (Expr Span)) where
  -- an operator in parentheses, behind the opening one
  unfoldable pub operator_group_at : List Lexeme → Read (Expr Span)
  operator_group_at ts = do
    p ← operator_at ts
    r ← after m.Closes p.1
    Some (e.Var (span_at p.0.0 p.1) p.0.1, r)

  -- one or more expressions in parentheses, behind the opening one, which stands there
  unfoldable pub some_expressions_at : Spot → List Lexeme → Read (Expr Span)
  some_expressions_at v ts = do
    p ← separated_at m.Comma inner (length ts) ts
    r ← after m.Closes p.1
    if few p.0 then Some (grouped_expression (span_at v r) p.0, r) else None

  -- what stands in parentheses, behind the opening one
  unfoldable pub group_at : Spot → List Lexeme → Read (Expr Span)
  group_at v ts =
      if sees m.Closes ts then Some (e.Tuple (span_at v (drop 1 ts)) [], drop 1 ts) else (if begins_operator ts then operator_group_at ts else some_expressions_at v ts)

  -- an aexp
  abbrev pub aexp_at : List Lexeme → Read (Expr Span)
  aexp_at [] = None
  aexp_at (t.Mark w a ∷ ts) = if same_mark a m.Opens then group_at w ts else None
  aexp_at (t.Variable w name ∷ ts) = Some (e.Var (span_at w ts) name, ts)
  aexp_at (t.Constructor w name ∷ ts) = Some (e.Con (span_at w ts) name, ts)
  aexp_at (t.Operator w name ∷ ts) = None
  aexp_at (t.Number w digits ∷ ts) = None

  -- any number of aexps
  unfoldable pub aexps_at : List Lexeme → Read (List (Expr Span))
  aexps_at ts = many_at begins_aexp aexp_at (length ts) ts

  -- an application
  unfoldable pub application_at : List Lexeme → Read (Expr Span)
  application_at ts = do
    p ← aexp_at ts
    q ← aexps_at p.1
    Some (applied_expression (span_of ts q.1) p.0 q.0, q.1)

module _ (inner : List Lexeme → Read (Expr Span)) (alternatives : List Lexeme → Read (List (Alt Span))) (statements : List Lexeme → Read (List (Stmt Span))) where
  -- a `case`
  unfoldable pub case_at : List Lexeme → Read (Expr Span)
  case_at ts = do
    p ← inner (drop 1 ts)
    r ← after m.Of p.1
    q ← alternatives r
    Some (e.Case (span_of ts q.1) p.0 q.0, q.1)

  -- a `do`
  unfoldable pub do_at : List Lexeme → Read (Expr Span)
  do_at ts = do
    p ← statements (drop 1 ts)
    Some (e.Do (span_of ts p.1) p.0, p.1)

  -- an operand
  unfoldable pub operand_at : List Lexeme → Read (Expr Span)
  operand_at ts = if sees m.Case ts then case_at ts else (if sees m.Do ts then do_at ts else application_at inner ts)

module _ (pattern : List Lexeme → Read (Pat Span)) (inner : List Lexeme → Read (Expr Span)) (locals : List Lexeme → Read (List (Local Span))) where
  -- a lambda: it has a pattern at least
  unfoldable pub lambda_at : List Lexeme → Read (Expr Span)
  lambda_at ts = do
    p ← apats_at pattern (drop 1 ts)
    r ← after m.Arrow p.1
    q ← inner r
    if begins_apat (drop 1 ts) then Some (e.Lambda (span_of ts q.1) p.0 q.0, q.1) else None

  -- a `let`
  unfoldable pub let_at : List Lexeme → Read (Expr Span)
  let_at ts = do
    p ← locals (drop 1 ts)
    r ← after m.In p.1
    q ← inner r
    Some (e.Let (span_of ts q.1) p.0 q.0, q.1)

  -- an `if`
  unfoldable pub if_at : List Lexeme → Read (Expr Span)
  if_at ts = do
    p ← inner (drop 1 ts)
    r ← after m.Then p.1
    q ← inner r
    r ← after m.Else q.1
    n ← inner r
    Some (e.If (span_of ts n.1) p.0 q.0 n.0, n.1)

-- the tokens begin an expression that is the last of its chain
abbrev pub begins_last : List Lexeme → Bool
begins_last ts = sees m.Backslash ts || (sees m.Let ts || sees m.If ts)

module _ (pattern : List Lexeme → Read (Pat Span)) (inner : List Lexeme → Read (Expr Span)) (locals : List Lexeme → Read (List (Local Span))) where
  -- a lambda, a `let` or an `if`
  unfoldable pub closing_at : List Lexeme → Read (Expr Span)
  closing_at ts = if sees m.Backslash ts then lambda_at pattern inner locals ts else (if sees m.Let ts then let_at pattern inner locals ts else if_at pattern inner locals ts)

module _ (operand closing : List Lexeme → Read (Expr Span)) where
  -- operands and operators; the number bounds the turns
  unfoldable pub chain_at : ℕ → List Lexeme → Read (List (Expr Span) × List (Expr Span))
  chain_at zero ts = None
  chain_at (suc n) ts =
      if begins_last ts then (do p ← closing ts; Some ((p.0 ∷ [], []), p.1))
      else (do
        p ← operand ts
        if begins_op p.1 then (do o ← op_at p.1; q ← chain_at n o.1; Some ((p.0 ∷ q.0.0, o.0 ∷ q.0.1), q.1)) else Some ((p.0 ∷ [], []), p.1))

  -- an expression
  unfoldable pub expression_over_at : List Lexeme → Read (Expr Span)
  expression_over_at ts = do
    p ← chain_at (length ts) ts
    Some (chained (span_of ts p.1) p.0.0 p.0.1, p.1)
