-- The grammar of expressions (Haskell 2010 Report, chapter 3 and section 10.5), a constructor for each alternative. Pattern, Expression, Locals, Alternatives
-- and Statements are the grammars of what stands inside, one level deeper; the last three are of whole blocks. Operators
-- are not grouped: where some stand between operands, the tree is a `Chain`.
use Rattle.std.specs.Prelude.{◌≡◌, ℕ, true, List, [], ◌∷◌}
use Rattle.rw_base.specs.declared.place.Span.{Span}
use Rattle.rw_tree.specs.declared.pattern.Pat.{Pat}
use Rattle.rw_tree.specs.declared.expr.Expr.{Expr}
use Rattle.rw_tree.specs.declared.expr.Expr.TheVariants as e
use Rattle.rw_tree.specs.declared.clause.Alt.{Alt}
use Rattle.rw_tree.specs.declared.clause.Local.{Local}
use Rattle.rw_tree.specs.declared.clause.Stmt.{Stmt}
use Rattle.rw_parser_grammar.specs.declared.lexeme.Mark.TheVariants as m
use Rattle.rw_parser_grammar.specs.declared.lexeme.Spot.{Spot}
use Rattle.rw_parser_grammar.specs.declared.lexeme.Lexeme.{Lexeme}
use Rattle.rw_parser_grammar.specs.declared.lexeme.Lexeme.TheVariants as t
use Rattle.rw_parser_grammar.specs.Lexemes.{span_at, span_of}
use Rattle.rw_parser_grammar.specs.Lists.{IsSeparated, IsMany}
use Rattle.rw_parser_grammar.specs.Types.{few}
use Rattle.rw_parser_grammar.specs.Patterns.{IsApat}

-- one expression in parentheses is itself
abbrev pub grouped_expression : Span → List (Expr Span) → Expr Span
grouped_expression span [] = e.Tuple span []
grouped_expression span (part ∷ []) = part
grouped_expression span (a ∷ b ∷ parts) = e.Tuple span (a ∷ b ∷ parts)

-- an expression without arguments is itself
abbrev pub applied_expression : Span → Expr Span → List (Expr Span) → Expr Span
applied_expression span head [] = head
applied_expression span head (part ∷ parts) = e.Apply span head (part ∷ parts)

-- an operand without operators is itself
abbrev pub chained : Span → List (Expr Span) → List (Expr Span) → Expr Span
chained span [] operators = e.Chain span [] operators
chained span (operand ∷ []) operators = operand
chained span (a ∷ b ∷ operands) operators = e.Chain span (a ∷ b ∷ operands) operators

-- aexp ::= vname | Con | `(` `)` | `(` exp (`,` exp)* `)`, where vname ::= var | `(` Operator `)`
pub data IsAexp (Expression : List Lexeme → Expr Span → List Lexeme → Type 0) : List Lexeme → Expr Span → List Lexeme → Type 0 where
  a_variable : (w : Spot) (name : List ℕ) (rest : List Lexeme) → IsAexp Expression (t.Variable w name ∷ rest) (e.Var (span_at w rest) name) rest
  an_operator_variable : (u v w : Spot) (name : List ℕ) (rest : List Lexeme)
      → IsAexp Expression (t.Mark u m.Opens ∷ t.Operator v name ∷ t.Mark w m.Closes ∷ rest) (e.Var (span_at v (t.Mark w m.Closes ∷ rest)) name) rest
  a_constructor : (w : Spot) (name : List ℕ) (rest : List Lexeme) → IsAexp Expression (t.Constructor w name ∷ rest) (e.Con (span_at w rest) name) rest
  a_unit : (v w : Spot) (rest : List Lexeme) → IsAexp Expression (t.Mark v m.Opens ∷ t.Mark w m.Closes ∷ rest) (e.Tuple (span_at v rest) []) rest
  a_group : (v w : Spot) (ts rest : List Lexeme) (parts : List (Expr Span)) → IsSeparated m.Comma Expression ts parts (t.Mark w m.Closes ∷ rest) → few parts ≡ true
      → IsAexp Expression (t.Mark v m.Opens ∷ ts) (grouped_expression (span_at v rest) parts) rest

-- op ::= Operator | `` ` `` (var | Con) `` ` ``
pub data IsOp : List Lexeme → Expr Span → List Lexeme → Type 0 where
  a_symbol : (w : Spot) (name : List ℕ) (rest : List Lexeme) → IsOp (t.Operator w name ∷ rest) (e.Var (span_at w rest) name) rest
  a_quoted_variable : (u v w : Spot) (name : List ℕ) (rest : List Lexeme)
      → IsOp (t.Mark u m.Backquote ∷ t.Variable v name ∷ t.Mark w m.Backquote ∷ rest) (e.Var (span_at v (t.Mark w m.Backquote ∷ rest)) name) rest
  a_quoted_constructor : (u v w : Spot) (name : List ℕ) (rest : List Lexeme)
      → IsOp (t.Mark u m.Backquote ∷ t.Constructor v name ∷ t.Mark w m.Backquote ∷ rest) (e.Con (span_at v (t.Mark w m.Backquote ∷ rest)) name) rest

-- operand ::= aexp+ | `case` exp `of` alternatives | `do` statements
pub data IsOperand (Expression : List Lexeme → Expr Span → List Lexeme → Type 0) (Alternatives : List Lexeme → List (Alt Span) → List Lexeme → Type 0) (Statements : List Lexeme → List (Stmt Span) → List Lexeme → Type 0)
    : List Lexeme → Expr Span → List Lexeme → Type 0 where
  an_application : (ts mid rest : List Lexeme) (head : Expr Span) (parts : List (Expr Span)) → IsAexp Expression ts head mid → IsMany (IsAexp Expression) mid parts rest
      → IsOperand Expression Alternatives Statements ts (applied_expression (span_of ts rest) head parts) rest
  a_case : (v w : Spot) (ts mid rest : List Lexeme) (scrutinee : Expr Span) (alternatives : List (Alt Span)) → Expression ts scrutinee (t.Mark w m.Of ∷ mid) → Alternatives mid alternatives rest
      → IsOperand Expression Alternatives Statements (t.Mark v m.Case ∷ ts) (e.Case (span_at v rest) scrutinee alternatives) rest
  a_do : (v : Spot) (ts rest : List Lexeme) (statements : List (Stmt Span)) → Statements ts statements rest
      → IsOperand Expression Alternatives Statements (t.Mark v m.Do ∷ ts) (e.Do (span_at v rest) statements) rest

-- last ::= operand | `\` apat+ `->` exp | `let` locals `in` exp | `if` exp `then` exp `else` exp
pub data IsLast (Pattern : List Lexeme → Pat Span → List Lexeme → Type 0) (Expression : List Lexeme → Expr Span → List Lexeme → Type 0) (Locals : List Lexeme → List (Local Span) → List Lexeme → Type 0)
    (Operand : List Lexeme → Expr Span → List Lexeme → Type 0) : List Lexeme → Expr Span → List Lexeme → Type 0 where
  an_operand : (ts rest : List Lexeme) (a : Expr Span) → Operand ts a rest → IsLast Pattern Expression Locals Operand ts a rest
  a_lambda : (v w : Spot) (ts mid rest : List Lexeme) (pat : Pat Span) (pats : List (Pat Span)) (body : Expr Span) → IsMany (IsApat Pattern) ts (pat ∷ pats) (t.Mark w m.Arrow ∷ mid) → Expression mid body rest
      → IsLast Pattern Expression Locals Operand (t.Mark v m.Backslash ∷ ts) (e.Lambda (span_at v rest) (pat ∷ pats) body) rest
  a_let : (v w : Spot) (ts mid rest : List Lexeme) (locals : List (Local Span)) (body : Expr Span) → Locals ts locals (t.Mark w m.In ∷ mid) → Expression mid body rest
      → IsLast Pattern Expression Locals Operand (t.Mark v m.Let ∷ ts) (e.Let (span_at v rest) locals body) rest
  an_if : (u v w : Spot) (ts first second rest : List Lexeme) (test yes no : Expr Span) → Expression ts test (t.Mark v m.Then ∷ first) → Expression first yes (t.Mark w m.Else ∷ second) → Expression second no rest
      → IsLast Pattern Expression Locals Operand (t.Mark u m.If ∷ ts) (e.If (span_at u rest) test yes no) rest

-- (operand op)* last: the operands and the operators between them
pub data IsChain (Operand Last : List Lexeme → Expr Span → List Lexeme → Type 0) : List Lexeme → List (Expr Span) × List (Expr Span) → List Lexeme → Type 0 where
  no_operator : (ts rest : List Lexeme) (a : Expr Span) → Last ts a rest → IsChain Operand Last ts (a ∷ [], []) rest
  an_operator : (ts mid next rest : List Lexeme) (a o : Expr Span) (operands operators : List (Expr Span)) → Operand ts a mid → IsOp mid o next → IsChain Operand Last next (operands, operators) rest
      → IsChain Operand Last ts (a ∷ operands, o ∷ operators) rest

-- exp ::= (operand op)* last
pub data IsExpressionOver (Operand Last : List Lexeme → Expr Span → List Lexeme → Type 0) : List Lexeme → Expr Span → List Lexeme → Type 0 where
  an_expression : (ts rest : List Lexeme) (operands operators : List (Expr Span)) → IsChain Operand Last ts (operands, operators) rest
      → IsExpressionOver Operand Last ts (chained (span_of ts rest) operands operators) rest
