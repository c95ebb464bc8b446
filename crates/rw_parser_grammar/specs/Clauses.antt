-- The grammar of clauses, alternatives, local declarations and statements (Haskell 2010 Report, sections 3.12 to 3.14, 4.4.3 and 10.5), a constructor
-- for each alternative.
use Rattle.std.specs.Prelude.{◌≡◌, ℕ, zero, suc, Bool, true, false, not, List, [], ◌∷◌, codes, if◌then◌else◌}
use Rattle.std.specs.Str.{bytes_eq}
use Rattle.rw_base.specs.declared.place.Span.{Span}
use Rattle.rw_tree.specs.declared.types.Written.{Written}
use Rattle.rw_tree.specs.declared.pattern.Pat.{Pat}
use Rattle.rw_tree.specs.declared.expr.Expr.{Expr}
use Rattle.rw_tree.specs.declared.clause.Alt.{Alt, out-Alt}
use Rattle.rw_tree.specs.declared.clause.Rhs.{Rhs}
use Rattle.rw_tree.specs.declared.clause.Rhs.TheVariants as r
use Rattle.rw_tree.specs.declared.clause.Guard.{Guard}
use Rattle.rw_tree.specs.declared.clause.Local.{Local}
use Rattle.rw_tree.specs.declared.clause.Local.TheVariants as l
use Rattle.rw_tree.specs.declared.clause.Stmt.{Stmt, out-Stmt}
use Rattle.rw_tree.specs.declared.clause.Stmt.TheVariants as s
use Rattle.rw_tree.specs.declared.clause.Local.TheOpen.{Stmt-F}
use Rattle.rw_parser_grammar.specs.declared.item.Bound.{Bound}
use Rattle.rw_parser_grammar.specs.declared.item.Bound.TheVariants as b
use Rattle.rw_parser_grammar.specs.declared.lexeme.Mark.{Mark}
use Rattle.rw_parser_grammar.specs.declared.lexeme.Mark.TheVariants as m
use Rattle.rw_parser_grammar.specs.declared.lexeme.Spot.{Spot}
use Rattle.rw_parser_grammar.specs.declared.lexeme.Lexeme.{Lexeme}
use Rattle.rw_parser_grammar.specs.declared.lexeme.Lexeme.TheVariants as t
use Rattle.rw_parser_grammar.specs.Lexemes.{span_at, span_of, span_over}
use Rattle.rw_parser_grammar.specs.Lists.{IsMany, IsBlock}
use Rattle.rw_parser_grammar.specs.Names.{IsVariableName, IsVariableOperator}
use Rattle.rw_parser_grammar.specs.Types.{IsType}
use Rattle.rw_parser_grammar.specs.Patterns.{IsApat, IsBindingPattern, IsPattern}
use Rattle.rw_parser_grammar.specs.Expressions.{IsOperand, IsLast, IsExpressionOver}

-- ---- right sides and clauses

-- `|` exp arrow exp, where the arrow is `=` in a clause and `->` in an alternative
pub data IsGuard (arrow : Mark) (Expression : List Lexeme → Expr Span → List Lexeme → Type 0) : List Lexeme → Guard Span → List Lexeme → Type 0 where
  a_guard : (v w : Spot) (ts mid rest : List Lexeme) (test body : Expr Span) → Expression ts test (t.Mark w arrow ∷ mid) → Expression mid body rest
      → IsGuard arrow Expression (t.Mark v m.Bar ∷ ts) (record { test = test; body = body }) rest

-- rhs ::= arrow exp | (`|` exp arrow exp)+
pub data IsRightSide (arrow : Mark) (Expression : List Lexeme → Expr Span → List Lexeme → Type 0) : List Lexeme → Rhs Span → List Lexeme → Type 0 where
  unguarded : (w : Spot) (ts rest : List Lexeme) (body : Expr Span) → Expression ts body rest → IsRightSide arrow Expression (t.Mark w arrow ∷ ts) (r.Plain body) rest
  guarded : (ts rest : List Lexeme) (guard : Guard Span) (guards : List (Guard Span)) → IsMany (IsGuard arrow Expression) ts (guard ∷ guards) rest → IsRightSide arrow Expression ts (r.Guarded (guard ∷ guards)) rest

-- [`where` locals]
pub data IsWhere (Locals : List Lexeme → List (Local Span) → List Lexeme → Type 0) : List Lexeme → List (Local Span) → List Lexeme → Type 0 where
  no_where : (ts : List Lexeme) → IsWhere Locals ts [] ts
  a_where : (w : Spot) (ts rest : List Lexeme) (locals : List (Local Span)) → Locals ts locals rest → IsWhere Locals (t.Mark w m.Where ∷ ts) locals rest

-- lhs ::= vname apat* | pat op pat, where op is a variable operator: the name and its patterns
pub data IsLeftSide (Pattern Simple : List Lexeme → Pat Span → List Lexeme → Type 0) : List Lexeme → List ℕ × List (Pat Span) → List Lexeme → Type 0 where
  a_prefix : (ts mid rest : List Lexeme) (w : Spot) (name : List ℕ) (pats : List (Pat Span)) → IsVariableName ts (w, name) mid → IsMany Simple mid pats rest → IsLeftSide Pattern Simple ts (name, pats) rest
  an_infix : (ts mid next rest : List Lexeme) (name : List ℕ) (left right : Pat Span) → Pattern ts left mid → IsVariableOperator mid name next → Pattern next right rest
      → IsLeftSide Pattern Simple ts (name, left ∷ right ∷ []) rest

-- clause ::= lhs rhs [`where` locals]: its name, and the rest as a row
pub data IsClause (LeftSide : List Lexeme → List ℕ × List (Pat Span) → List Lexeme → Type 0) (Expression : List Lexeme → Expr Span → List Lexeme → Type 0) (Locals : List Lexeme → List (Local Span) → List Lexeme → Type 0)
    : List Lexeme → List ℕ × Alt Span → List Lexeme → Type 0 where
  a_clause : (ts mid next rest : List Lexeme) (name : List ℕ) (pats : List (Pat Span)) (rhs : Rhs Span) (wheres : List (Local Span))
      → LeftSide ts (name, pats) mid → IsRightSide m.Equal Expression mid rhs next → IsWhere Locals next wheres rest
      → IsClause LeftSide Expression Locals ts (name, record { at = span_of ts rest; pats = pats; rhs = rhs; wheres = wheres }) rest

-- alt ::= pat `->` exp | pat (`|` exp `->` exp)+
pub data IsAlternative (Pattern : List Lexeme → Pat Span → List Lexeme → Type 0) (Expression : List Lexeme → Expr Span → List Lexeme → Type 0) : List Lexeme → Alt Span → List Lexeme → Type 0 where
  an_alternative : (ts mid rest : List Lexeme) (pat : Pat Span) (rhs : Rhs Span) → Pattern ts pat mid → IsRightSide m.Arrow Expression mid rhs rest
      → IsAlternative Pattern Expression ts (record { at = span_of ts rest; pats = pat ∷ []; rhs = rhs; wheres = [] }) rest

-- the alternatives of a `case`: `{` alt (`;` alt)* `}`, of which one at least is not nothing
pub data IsAlternatives (One : List Lexeme → Alt Span → List Lexeme → Type 0) : List Lexeme → List (Alt Span) → List Lexeme → Type 0 where
  alternatives : (ts rest : List Lexeme) (a : Alt Span) (others : List (Alt Span)) → IsBlock One ts (a ∷ others) rest → IsAlternatives One ts (a ∷ others) rest

-- ---- local declarations

-- a name that a local clause may bind: `$` is always application
abbrev pub may_be_local : List ℕ → Bool
may_be_local name = not (bytes_eq name (codes "$"))

-- local ::= var `::` type | clause | ppat rhs [`where` locals]
pub data IsLocal (Binding : List Lexeme → Pat Span → List Lexeme → Type 0) (Signature : List Lexeme → Written → List Lexeme → Type 0) (Clause : List Lexeme → List ℕ × Alt Span → List Lexeme → Type 0)
    (Expression : List Lexeme → Expr Span → List Lexeme → Type 0) (Locals : List Lexeme → List (Local Span) → List Lexeme → Type 0) : List Lexeme → Bound → List Lexeme → Type 0 where
  a_local_signature : (v w : Spot) (name : List ℕ) (ts rest : List Lexeme) (type : Written) → Signature ts type rest
      → IsLocal Binding Signature Clause Expression Locals (t.Variable v name ∷ t.Mark w m.Colons ∷ ts) (b.Whole (l.Sig (span_at v rest) name type)) rest
  a_local_clause : (ts rest : List Lexeme) (name : List ℕ) (row : Alt Span) → Clause ts (name, row) rest → may_be_local name ≡ true → IsLocal Binding Signature Clause Expression Locals ts (b.Clause name row) rest
  a_local_pattern : (ts mid next rest : List Lexeme) (pat : Pat Span) (rhs : Rhs Span) (wheres : List (Local Span)) → Binding ts pat mid → IsRightSide m.Equal Expression mid rhs next → IsWhere Locals next wheres rest
      → IsLocal Binding Signature Clause Expression Locals ts (b.Whole (l.Pattern (span_of ts rest) (record { at = span_of ts rest; pats = pat ∷ []; rhs = rhs; wheres = wheres }))) rest

-- the entries of a block as groups: neighbouring clauses of one name are one group
pub data Group (A : Type 0) : Type 0 where
  alone : A → Group A
  clauses : List ℕ → Alt Span → List (Alt Span) → Group A

-- a clause before groups: it joins the first of them, if that has its name
abbrev pub clause_before : {A : Type 0} → List ℕ → Alt Span → List (Group A) → List (Group A)
clause_before name row [] = clauses name row [] ∷ []
clause_before name row (alone a ∷ groups) = clauses name row [] ∷ alone a ∷ groups
clause_before name row (clauses other first rows ∷ groups) = if bytes_eq name other then clauses name row (first ∷ rows) ∷ groups else clauses name row [] ∷ clauses other first rows ∷ groups

-- the groups of local declarations
abbrev pub local_groups : List Bound → List (Group (Local Span))
local_groups [] = []
local_groups (b.Clause name row ∷ entries) = clause_before name row (local_groups entries)
local_groups (b.Whole a ∷ entries) = alone a ∷ local_groups entries

-- the span of rows: from the first to the last
abbrev pub rows_span : Alt Span → List (Alt Span) → Span
rows_span first [] = (out-Alt Span first).at
rows_span first (row ∷ rows) = span_over (out-Alt Span first).at (rows_span row rows)

-- a group as one local declaration
abbrev pub local_of : Group (Local Span) → Local Span
local_of (alone a) = a
local_of (clauses name row rows) = l.Fun (rows_span row rows) name (row ∷ rows)

-- groups as local declarations
abbrev pub locals_of : List (Group (Local Span)) → List (Local Span)
locals_of [] = []
locals_of (group ∷ groups) = local_of group ∷ locals_of groups

-- locals ::= `{` local (`;` local)* `}`, where a local may be nothing
pub data IsLocalsOver (Entry : List Lexeme → Bound → List Lexeme → Type 0) : List Lexeme → List (Local Span) → List Lexeme → Type 0 where
  some_locals : (ts rest : List Lexeme) (entries : List Bound) → IsBlock Entry ts entries rest → IsLocalsOver Entry ts (locals_of (local_groups entries)) rest

-- ---- statements

-- stmt ::= pat `<-` exp | `let` locals | exp
pub data IsStatement (Pattern : List Lexeme → Pat Span → List Lexeme → Type 0) (Expression : List Lexeme → Expr Span → List Lexeme → Type 0) (Locals : List Lexeme → List (Local Span) → List Lexeme → Type 0)
    : List Lexeme → Stmt Span → List Lexeme → Type 0 where
  a_bind : (w : Spot) (ts mid rest : List Lexeme) (pat : Pat Span) (body : Expr Span) → Pattern ts pat (t.Mark w m.FromArrow ∷ mid) → Expression mid body rest → IsStatement Pattern Expression Locals ts (s.Bind (span_of ts rest) pat body) rest
  a_let_statement : (w : Spot) (ts rest : List Lexeme) (locals : List (Local Span)) → Locals ts locals rest → IsStatement Pattern Expression Locals (t.Mark w m.Let ∷ ts) (s.Let (span_at w rest) locals) rest
  a_run : (ts rest : List Lexeme) (body : Expr Span) → Expression ts body rest → IsStatement Pattern Expression Locals ts (s.Run (span_of ts rest) body) rest

-- a statement that is an expression alone, one level of it
abbrev pub runs_step : {R L E A G : Type 0} → Stmt-F Span L R (Stmt Span) E A G → Bool
runs_step (Stmt-F.Bind span pat body) = false
runs_step (Stmt-F.«Stmt::Let» span locals) = false
runs_step (Stmt-F.Run span body) = true

-- there is a last statement, and it is an expression alone
abbrev pub ends_in_run : List (Stmt Span) → Bool
ends_in_run [] = false
ends_in_run (s ∷ []) = runs_step (out-Stmt Span s)
ends_in_run (s ∷ next ∷ others) = ends_in_run (next ∷ others)

-- the statements of a `do`: `{` stmt (`;` stmt)* `}`, where a stmt may be nothing
pub data IsStatements (One : List Lexeme → Stmt Span → List Lexeme → Type 0) : List Lexeme → List (Stmt Span) → List Lexeme → Type 0 where
  statements : (ts rest : List Lexeme) (all : List (Stmt Span)) → IsBlock One ts all rest → ends_in_run all ≡ true → IsStatements One ts all rest

-- ---- the levels

-- expressions and blocks of local declarations in which at most so many of them stand inside one another
abbrev mutual
  pub IsExpression : ℕ → List Lexeme → Expr Span → List Lexeme → Type 0
  IsExpression zero ts exp rest = ⊥
  IsExpression (suc n) ts exp rest =
      let Operand : List Lexeme → Expr Span → List Lexeme → Type 0 =
      IsOperand (IsExpression n) (IsAlternatives (IsAlternative (IsPattern n) (IsExpression n))) (IsStatements (IsStatement (IsPattern n) (IsExpression n) (IsLocalsBelow n))) in
      IsExpressionOver Operand (IsLast (IsPattern n) (IsExpression n) (IsLocals n) Operand) ts exp rest

  pub IsLocals : ℕ → List Lexeme → List (Local Span) → List Lexeme → Type 0
  IsLocals zero ts locals rest = ⊥
  IsLocals (suc n) ts locals rest =
      IsLocalsOver (IsLocal (IsBindingPattern (IsPattern n)) (IsType n) (IsClause (IsLeftSide (IsPattern n) (IsApat (IsPattern n))) (IsExpression n) (IsLocals n)) (IsExpression n) (IsLocals n)) ts locals rest

  -- one less: what the `let` of a statement has is what the `let` of an expression in its place would have
  pub IsLocalsBelow : ℕ → List Lexeme → List (Local Span) → List Lexeme → Type 0
  IsLocalsBelow zero ts locals rest = ⊥
  IsLocalsBelow (suc n) ts locals rest = IsLocals n ts locals rest
