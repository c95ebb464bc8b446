-- Expressions, clauses, local bindings and statements as plain data (Haskell 2010 Report, chapters 3 and 4).
use Rattle.std.specs.Prelude.{ℕ, List, [], ◌∷◌}
use Rattle.rw_tree.specs.declared.expr.Expr.{Expr, fold-Expr}
use Rattle.rw_tree.specs.declared.clause.Local.{Local, fold-Local}
use Rattle.rw_tree.specs.declared.clause.Local.TheOpen.{Local-F, Rhs-F, Stmt-F, Expr-F, Alt-F, Guard-F}
use Rattle.rw_tree.specs.declared.clause.Alt.{Alt, fold-Alt}
use Rattle.rw_tree.specs.declared.clause.Rhs.{Rhs, fold-Rhs}
use Rattle.rw_tree.specs.declared.clause.Guard.{Guard, fold-Guard}
use Rattle.rw_tree.specs.declared.clause.Stmt.{Stmt, fold-Stmt}
use Rattle.rw_tree.specs.Types.{WrittenType, written}
use Rattle.rw_tree.specs.Patterns.{Pattern, pattern, patterns}

mutual
  -- an expression, with something of type X at each node
  pub data Expression (X : Type 0) : Type 0 where
    variable : X → List ℕ → Expression X
    constructor : X → List ℕ → Expression X
    application : X → Expression X → Expressions X → Expression X
    tuple : X → Expressions X → Expression X
    chain : X → Expressions X → Expressions X → Expression X
    lambda : X → List (Pattern X) → Expression X → Expression X
    let_in : X → LocalBindings X → Expression X → Expression X
    if_then_else : X → Expression X → Expression X → Expression X → Expression X
    case_of : X → Expression X → Alternatives X → Expression X
    do_block : X → Statements X → Expression X

  pub data Expressions (X : Type 0) : Type 0 where
    no_expressions : Expressions X
    more_expressions : Expression X → Expressions X → Expressions X

  -- a clause or an alternative: its patterns, its right side, and what is bound after `where`
  pub data Alternative (X : Type 0) : Type 0 where
    alternative : X → List (Pattern X) → RightSide X → LocalBindings X → Alternative X

  pub data Alternatives (X : Type 0) : Type 0 where
    no_alternatives : Alternatives X
    more_alternatives : Alternative X → Alternatives X → Alternatives X

  pub data RightSide (X : Type 0) : Type 0 where
    plain_side : Expression X → RightSide X
    guarded_side : GuardedBodies X → RightSide X

  -- a test and what follows it
  pub data GuardedBody (X : Type 0) : Type 0 where
    guarded_body : Expression X → Expression X → GuardedBody X

  pub data GuardedBodies (X : Type 0) : Type 0 where
    no_bodies : GuardedBodies X
    more_bodies : GuardedBody X → GuardedBodies X → GuardedBodies X

  pub data LocalBinding (X : Type 0) : Type 0 where
    local_signature : X → List ℕ → WrittenType → LocalBinding X
    local_function : X → List ℕ → Alternatives X → LocalBinding X
    local_pattern : X → Alternative X → LocalBinding X

  pub data LocalBindings (X : Type 0) : Type 0 where
    no_bindings : LocalBindings X
    more_bindings : LocalBinding X → LocalBindings X → LocalBindings X

  pub data Statement (X : Type 0) : Type 0 where
    bind_statement : X → Pattern X → Expression X → Statement X
    let_statement : X → LocalBindings X → Statement X
    run_statement : X → Expression X → Statement X

  pub data Statements (X : Type 0) : Type 0 where
    no_statements : Statements X
    more_statements : Statement X → Statements X → Statements X

-- lists as the parts of a tree
abbrev pub expression_parts : {X : Type 0} → List (Expression X) → Expressions X
expression_parts [] = no_expressions
expression_parts (x ∷ xs) = more_expressions x (expression_parts xs)

abbrev pub alternative_parts : {X : Type 0} → List (Alternative X) → Alternatives X
alternative_parts [] = no_alternatives
alternative_parts (x ∷ xs) = more_alternatives x (alternative_parts xs)

abbrev pub body_parts : {X : Type 0} → List (GuardedBody X) → GuardedBodies X
body_parts [] = no_bodies
body_parts (x ∷ xs) = more_bodies x (body_parts xs)

abbrev pub binding_parts : {X : Type 0} → List (LocalBinding X) → LocalBindings X
binding_parts [] = no_bindings
binding_parts (x ∷ xs) = more_bindings x (binding_parts xs)

abbrev pub statement_parts : {X : Type 0} → List (Statement X) → Statements X
statement_parts [] = no_statements
statement_parts (x ∷ xs) = more_statements x (statement_parts xs)

-- one level of each kind of tree, with each part already in its plain form
module _ {A X : Type 0} (see : A → X) where
  abbrev pub local_step : Local-F A (LocalBinding X) (RightSide X) (Statement X) (Expression X) (Alternative X) (GuardedBody X) → LocalBinding X
  local_step (Local-F.Sig a name type) = local_signature (see a) name (written type)
  local_step (Local-F.Fun a name clauses) = local_function (see a) name (alternative_parts clauses)
  local_step (Local-F.Pattern a bound) = local_pattern (see a) bound

  abbrev pub rhs_step : Rhs-F A (LocalBinding X) (RightSide X) (Statement X) (Expression X) (Alternative X) (GuardedBody X) → RightSide X
  rhs_step (Rhs-F.Plain body) = plain_side body
  rhs_step (Rhs-F.Guarded bodies) = guarded_side (body_parts bodies)

  abbrev pub stmt_step : Stmt-F A (LocalBinding X) (RightSide X) (Statement X) (Expression X) (Alternative X) (GuardedBody X) → Statement X
  stmt_step (Stmt-F.Bind a pat body) = bind_statement (see a) (pattern see pat) body
  stmt_step (Stmt-F.«Stmt::Let» a locals) = let_statement (see a) (binding_parts locals)
  stmt_step (Stmt-F.Run a body) = run_statement (see a) body

  abbrev pub expr_step : Expr-F A (LocalBinding X) (RightSide X) (Statement X) (Expression X) (Alternative X) (GuardedBody X) → Expression X
  expr_step (Expr-F.Var a name) = variable (see a) name
  expr_step (Expr-F.Con a name) = constructor (see a) name
  expr_step (Expr-F.Apply a head parts) = application (see a) head (expression_parts parts)
  expr_step (Expr-F.Tuple a parts) = tuple (see a) (expression_parts parts)
  expr_step (Expr-F.Chain a operands operators) = chain (see a) (expression_parts operands) (expression_parts operators)
  expr_step (Expr-F.Lambda a pats body) = lambda (see a) (patterns see pats) body
  expr_step (Expr-F.«Expr::Let» a locals body) = let_in (see a) (binding_parts locals) body
  expr_step (Expr-F.If a test first second) = if_then_else (see a) test first second
  expr_step (Expr-F.Case a scrutinee alternatives) = case_of (see a) scrutinee (alternative_parts alternatives)
  expr_step (Expr-F.Do a statements) = do_block (see a) (statement_parts statements)

  abbrev pub alt_step : Alt-F A (LocalBinding X) (RightSide X) (Statement X) (Expression X) (Alternative X) (GuardedBody X) → Alternative X
  alt_step a = alternative (see a.at) (patterns see a.pats) a.rhs (binding_parts a.wheres)

  abbrev pub guard_step : Guard-F A (LocalBinding X) (RightSide X) (Statement X) (Expression X) (Alternative X) (GuardedBody X) → GuardedBody X
  guard_step g = guarded_body g.test g.body

  -- the plain form of each kind of tree, with what is seen of each annotation
  abbrev pub expression : Expr A → Expression X
  expression = fold-Expr A (LocalBinding X) (RightSide X) (Statement X) (Expression X) (Alternative X) (GuardedBody X) local_step rhs_step stmt_step expr_step alt_step guard_step

  abbrev pub alternative_of : Alt A → Alternative X
  alternative_of = fold-Alt A (LocalBinding X) (RightSide X) (Statement X) (Expression X) (Alternative X) (GuardedBody X) local_step rhs_step stmt_step expr_step alt_step guard_step

  abbrev pub right_side : Rhs A → RightSide X
  right_side = fold-Rhs A (LocalBinding X) (RightSide X) (Statement X) (Expression X) (Alternative X) (GuardedBody X) local_step rhs_step stmt_step expr_step alt_step guard_step

  abbrev pub guarded : Guard A → GuardedBody X
  guarded = fold-Guard A (LocalBinding X) (RightSide X) (Statement X) (Expression X) (Alternative X) (GuardedBody X) local_step rhs_step stmt_step expr_step alt_step guard_step

  abbrev pub local_binding : Local A → LocalBinding X
  local_binding = fold-Local A (LocalBinding X) (RightSide X) (Statement X) (Expression X) (Alternative X) (GuardedBody X) local_step rhs_step stmt_step expr_step alt_step guard_step

  abbrev pub statement : Stmt A → Statement X
  statement = fold-Stmt A (LocalBinding X) (RightSide X) (Statement X) (Expression X) (Alternative X) (GuardedBody X) local_step rhs_step stmt_step expr_step alt_step guard_step
