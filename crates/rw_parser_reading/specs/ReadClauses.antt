-- Reading clauses, alternatives, local declarations and statements from the front of a list of tokens, as functions on lists.
use Rattle.std.specs.Prelude.{ℕ, Bool, true, false, not, ◌||◌, ◌&&◌, List, [], ◌∷◌, length, drop, Some, None, if◌then◌else◌}
use Rattle.rw_base.specs.declared.place.Span.{Span}
use Rattle.rw_tree.specs.declared.types.Written.{Written}
use Rattle.rw_tree.specs.declared.pattern.Pat.{Pat}
use Rattle.rw_tree.specs.declared.pattern.Pat.TheVariants as p
use Rattle.rw_tree.specs.declared.expr.Expr.{Expr}
use Rattle.rw_tree.specs.declared.expr.Expr.TheVariants as e
use Rattle.rw_tree.specs.declared.clause.Alt.{Alt}
use Rattle.rw_tree.specs.declared.clause.Rhs.{Rhs}
use Rattle.rw_tree.specs.declared.clause.Rhs.TheVariants as r
use Rattle.rw_tree.specs.declared.clause.Guard.{Guard}
use Rattle.rw_tree.specs.declared.clause.Local.{Local}
use Rattle.rw_tree.specs.declared.clause.Local.TheVariants as l
use Rattle.rw_tree.specs.declared.clause.Stmt.{Stmt}
use Rattle.rw_tree.specs.declared.clause.Stmt.TheVariants as s
use Rattle.rw_parser_grammar.specs.declared.item.Bound.{Bound}
use Rattle.rw_parser_grammar.specs.declared.item.Bound.TheVariants as b
use Rattle.rw_parser_grammar.specs.declared.lexeme.Mark.{Mark}
use Rattle.rw_parser_grammar.specs.declared.lexeme.Mark.TheVariants as m
use Rattle.rw_parser_grammar.specs.declared.lexeme.Spot.{Spot}
use Rattle.rw_parser_grammar.specs.declared.lexeme.Lexeme.{Lexeme}
use Rattle.rw_parser_grammar.specs.declared.lexeme.Lexeme.TheVariants as t
use Rattle.rw_parser_grammar.specs.Lexemes.{span_at, span_of}
use Rattle.rw_parser_grammar.specs.Types.{few}
use Rattle.rw_parser_grammar.specs.Patterns.{grouped_pattern, takes_apart}
use Rattle.rw_parser_grammar.specs.Clauses.{may_be_local, local_groups, locals_of, ends_in_run}
use Rattle.rw_parser_reading.specs.Read.{◌>>=◌, Read, same_mark, sees, after, separated_at, many_at, block_at, variable_at, operator_at, begins_variable, begins_operator}
use Rattle.rw_parser_reading.specs.ReadNames.{begins_op, beyond}
use Rattle.rw_parser_reading.specs.ReadExpressions.{begins_aexp}

-- what follows an entry of a block, and an item: `;` or `}`
abbrev pub ends_entry : List Lexeme → Bool
ends_entry ts = sees m.Semicolon ts || sees m.ClosesBlock ts

-- a list that has something
abbrev pub is_some : {A : Type 0} → List A → Bool
is_some [] = false
is_some (a ∷ others) = true

-- ---- right sides

-- what may follow a right side and a clause: no token that could make the tree another
abbrev pub ends_right_side : List Lexeme → Bool
ends_right_side ts = not (sees m.Bar ts || (begins_op ts || begins_aexp ts))

abbrev pub ends_clause : List Lexeme → Bool
ends_clause ts = not (sees m.Where ts || (sees m.Bar ts || (begins_op ts || begins_aexp ts)))

module _ (arrow : Mark) (inner : List Lexeme → Read (Expr Span)) where
  -- a guard and its body
  unfoldable pub guard_at : List Lexeme → Read (Guard Span)
  guard_at ts = do
    x ← after m.Bar ts
    a ← inner x
    x ← after arrow a.1
    c ← inner x
    Some (record { test = a.0; body = c.0 }, c.1)

  -- any number of guards
  unfoldable pub guards_at : List Lexeme → Read (List (Guard Span))
  guards_at ts = many_at (sees m.Bar) guard_at (length ts) ts

  -- a right side
  unfoldable pub right_side_at : List Lexeme → Read (Rhs Span)
  right_side_at ts = if sees m.Bar ts then (do g ← guards_at ts; if is_some g.0 then Some (r.Guarded g.0, g.1) else None) else (do x ← after arrow ts; a ← inner x; Some (r.Plain a.0, a.1))

-- local declarations behind `where`, if it stands there
unfoldable pub where_at : (List Lexeme → Read (List (Local Span))) → List Lexeme → Read (List (Local Span))
where_at locals ts = if sees m.Where ts then locals (drop 1 ts) else Some ([], ts)

-- ---- left sides

-- an operator and a closing parenthesis
unfoldable pub operator_closed_at : List Lexeme → Read (Spot × List ℕ)
operator_closed_at ts = do
  o ← operator_at ts
  x ← after m.Closes o.1
  Some (o.0, x)

-- a variable, or an operator in parentheses
abbrev pub variable_name_at : List Lexeme → Read (Spot × List ℕ)
variable_name_at [] = None
variable_name_at (t.Mark w a ∷ ts) = if same_mark a m.Opens then operator_closed_at ts else None
variable_name_at (t.Variable w name ∷ ts) = Some ((w, name), ts)
variable_name_at (t.Constructor w name ∷ ts) = None
variable_name_at (t.Operator w name ∷ ts) = None
variable_name_at (t.Number w digits ∷ ts) = None

-- a variable and a backquote
unfoldable pub variable_quoted_at : List Lexeme → Read (List ℕ)
variable_quoted_at ts = do
  v ← variable_at ts
  x ← after m.Backquote v.1
  Some (v.0.1, x)

-- a variable operator, by its name
abbrev pub variable_operator_at : List Lexeme → Read (List ℕ)
variable_operator_at [] = None
variable_operator_at (t.Mark w a ∷ ts) = if same_mark a m.Backquote then variable_quoted_at ts else None
variable_operator_at (t.Variable w name ∷ ts) = None
variable_operator_at (t.Constructor w name ∷ ts) = None
variable_operator_at (t.Operator w name ∷ ts) = Some (name, ts)
variable_operator_at (t.Number w digits ∷ ts) = None

-- the tokens begin with an operator in parentheses
abbrev pub opens_operator : List Lexeme → Bool
opens_operator ts = sees m.Opens ts && begins_operator (drop 1 ts)

-- the tokens begin with a pattern before an operator
abbrev pub begins_infix : List Lexeme → Bool
begins_infix ts = not (opens_operator ts) && begins_op (beyond ts)

-- what follows a left side
abbrev pub ends_left_side : List Lexeme → Bool
ends_left_side ts = sees m.Equal ts || sees m.Bar ts

module _ (pattern : List Lexeme → Read (Pat Span)) (simple : List Lexeme → Read (List (Pat Span))) where
  -- a name and its patterns
  unfoldable pub prefix_at : List Lexeme → Read (List ℕ × List (Pat Span))
  prefix_at ts = do
    a ← variable_name_at ts
    q ← simple a.1
    Some ((a.0.1, q.0), q.1)

  -- an operator between two patterns
  unfoldable pub infix_at : List Lexeme → Read (List ℕ × List (Pat Span))
  infix_at ts = do
    a ← pattern ts
    o ← variable_operator_at a.1
    c ← pattern o.1
    Some ((o.0, a.0 ∷ c.0 ∷ []), c.1)

  -- a left side
  unfoldable pub left_side_at : List Lexeme → Read (List ℕ × List (Pat Span))
  left_side_at ts = if begins_infix ts then infix_at ts else prefix_at ts

-- ---- clauses and alternatives
module _ (left : List Lexeme → Read (List ℕ × List (Pat Span))) (inner : List Lexeme → Read (Expr Span)) (locals : List Lexeme → Read (List (Local Span))) where
  -- a clause
  unfoldable pub clause_at : List Lexeme → Read (List ℕ × Alt Span)
  clause_at ts = do
    a ← left ts
    c ← right_side_at m.Equal inner a.1
    d ← where_at locals c.1
    Some ((a.0.0, record { at = span_of ts d.1; pats = a.0.1; rhs = c.0; wheres = d.0 }), d.1)

module _ (pattern : List Lexeme → Read (Pat Span)) (inner : List Lexeme → Read (Expr Span)) where
  -- an alternative
  unfoldable pub alternative_at : List Lexeme → Read (Alt Span)
  alternative_at ts = do
    a ← pattern ts
    c ← right_side_at m.Arrow inner a.1
    Some (record { at = span_of ts c.1; pats = a.0 ∷ []; rhs = c.0; wheres = [] }, c.1)

-- the alternatives of a `case`
unfoldable pub alternatives_at : (List Lexeme → Read (Alt Span)) → List Lexeme → Read (List (Alt Span))
alternatives_at one ts = do
  a ← block_at one ts
  if is_some a.0 then Some (a.0, a.1) else None

-- ---- local declarations

-- the tokens begin a signature
abbrev pub begins_signature : List Lexeme → Bool
begins_signature ts = begins_variable ts && sees m.Colons (drop 1 ts)

-- the tokens begin a pattern that takes something apart, if they begin no infix clause
abbrev pub begins_binding : List Lexeme → Bool
begins_binding [] = false
begins_binding (t.Mark w a ∷ ts) = same_mark a m.Opens && not (begins_operator ts)
begins_binding (t.Variable w name ∷ ts) = false
begins_binding (t.Constructor w name ∷ ts) = true
begins_binding (t.Operator w name ∷ ts) = false
begins_binding (t.Number w digits ∷ ts) = false

module _ (pattern : List Lexeme → Read (Pat Span)) (simple : List Lexeme → Read (List (Pat Span))) where
  -- patterns in parentheses that take something apart, behind the opening one, which stands there
  unfoldable pub binding_group_at : Spot → List Lexeme → Read (Pat Span)
  binding_group_at v ts = do
    a ← separated_at m.Comma pattern (length ts) ts
    x ← after m.Closes a.1
    if few a.0 && takes_apart (grouped_pattern (span_at v x) a.0) then Some (grouped_pattern (span_at v x) a.0, x) else None

  -- a constructor and its parts, behind its name, which stands there
  unfoldable pub binding_built_at : Spot → List ℕ → List Lexeme → Read (Pat Span)
  binding_built_at w name ts = do
    q ← simple ts
    Some (p.Con (span_at w q.1) name q.0, q.1)

  -- a pattern that takes something apart
  abbrev pub binding_at : List Lexeme → Read (Pat Span)
  binding_at [] = None
  binding_at (t.Mark w a ∷ ts) = if same_mark a m.Opens then binding_group_at w ts else None
  binding_at (t.Variable w name ∷ ts) = None
  binding_at (t.Constructor w name ∷ ts) = binding_built_at w name ts
  binding_at (t.Operator w name ∷ ts) = None
  binding_at (t.Number w digits ∷ ts) = None

module _ (binding : List Lexeme → Read (Pat Span)) (signature : List Lexeme → Read Written) (clause : List Lexeme → Read (List ℕ × Alt Span)) (inner : List Lexeme → Read (Expr Span))
    (locals : List Lexeme → Read (List (Local Span))) where
  -- a signature
  unfoldable pub local_signature_at : List Lexeme → Read Bound
  local_signature_at ts = do
    v ← variable_at ts
    x ← after m.Colons v.1
    a ← signature x
    Some (b.Whole (l.Sig (span_of ts a.1) v.0.1 a.0), a.1)

  -- a clause
  unfoldable pub local_clause_at : List Lexeme → Read Bound
  local_clause_at ts = do
    a ← clause ts
    if may_be_local a.0.0 then Some (b.Clause a.0.0 a.0.1, a.1) else None

  -- a pattern that is bound
  unfoldable pub local_pattern_at : List Lexeme → Read Bound
  local_pattern_at ts = do
    a ← binding ts
    c ← right_side_at m.Equal inner a.1
    d ← where_at locals c.1
    Some (b.Whole (l.Pattern (span_of ts d.1) (record { at = span_of ts d.1; pats = a.0 ∷ []; rhs = c.0; wheres = d.0 })), d.1)

  -- a local declaration
  unfoldable pub local_at : List Lexeme → Read Bound
  local_at ts = if begins_signature ts then local_signature_at ts else (if not (begins_infix ts) && begins_binding ts then local_pattern_at ts else local_clause_at ts)

-- local declarations
unfoldable pub locals_over_at : (List Lexeme → Read Bound) → List Lexeme → Read (List (Local Span))
locals_over_at one ts = do
  a ← block_at one ts
  Some (locals_of (local_groups a.0), a.1)

-- ---- statements

-- the tokens begin with a pattern before `<-`
abbrev pub begins_bind : List Lexeme → Bool
begins_bind ts = sees m.FromArrow (beyond ts)

module _ (pattern : List Lexeme → Read (Pat Span)) (inner : List Lexeme → Read (Expr Span)) (locals : List Lexeme → Read (List (Local Span))) (below : List Lexeme → Read (Expr Span)) where
  -- `pat <- exp`
  unfoldable pub bind_at : List Lexeme → Read (Stmt Span)
  bind_at ts = do
    a ← pattern ts
    x ← after m.FromArrow a.1
    c ← inner x
    Some (s.Bind (span_of ts c.1) a.0 c.0, c.1)

  -- a `let`, which goes on to an expression where `in` follows
  unfoldable pub let_statement_at : List Lexeme → Read (Stmt Span)
  let_statement_at ts = do
    a ← locals (drop 1 ts)
    if sees m.In a.1 then (do c ← below (drop 1 a.1); Some (s.Run (span_of ts c.1) (e.Let (span_of ts c.1) a.0 c.0), c.1)) else Some (s.Let (span_of ts a.1) a.0, a.1)

  -- an expression
  unfoldable pub run_at : List Lexeme → Read (Stmt Span)
  run_at ts = do
    a ← inner ts
    Some (s.Run (span_of ts a.1) a.0, a.1)

  -- a statement
  unfoldable pub statement_at : List Lexeme → Read (Stmt Span)
  statement_at ts = if begins_bind ts then bind_at ts else (if sees m.Let ts then let_statement_at ts else run_at ts)

-- the statements of a `do`
unfoldable pub statements_at : (List Lexeme → Read (Stmt Span)) → List Lexeme → Read (List (Stmt Span))
statements_at one ts = do
  a ← block_at one ts
  if ends_in_run a.0 then Some (a.0, a.1) else None
