-- A tree with its chains grouped: each chain is replaced by the one tree that its fixities allow, and all else stays
-- (Haskell 2010 Report, section 10.6).
use Rattle.std.specs.Prelude.{ℕ, List, [], ◌∷◌}
use Rattle.rw_base.specs.declared.place.Span.{Span}
use Rattle.rw_tree.specs.declared.types.Written.{Written}
use Rattle.rw_tree.specs.declared.pattern.Pat.{Pat}
use Rattle.rw_tree.specs.declared.expr.Expr.{Expr}
use Rattle.rw_tree.specs.declared.expr.Expr.TheVariants as e
use Rattle.rw_tree.specs.declared.clause.Alt.{Alt}
use Rattle.rw_tree.specs.declared.clause.Rhs.{Rhs}
use Rattle.rw_tree.specs.declared.clause.Rhs.TheVariants as r
use Rattle.rw_tree.specs.declared.clause.Guard.{Guard}
use Rattle.rw_tree.specs.declared.clause.Local.{Local}
use Rattle.rw_tree.specs.declared.clause.Local.TheVariants as l
use Rattle.rw_tree.specs.declared.clause.Stmt.{Stmt}
use Rattle.rw_tree.specs.declared.clause.Stmt.TheVariants as s
use Rattle.rw_parser_grammar.specs.Chains.{Strength, IsGrouped}

mutual
  -- the second tree is the first with its chains grouped
  pub data IsResolved (strength : List ℕ → Strength) : Expr Span → Expr Span → Type 0 where
    variable_resolved : (x : Span) (name : List ℕ) → IsResolved strength (e.Var x name) (e.Var x name)
    constructor_resolved : (x : Span) (name : List ℕ) → IsResolved strength (e.Con x name) (e.Con x name)
    application_resolved : (x : Span) (a b : Expr Span) (parts others : List (Expr Span)) → IsResolved strength a b → AreResolved strength parts others → IsResolved strength (e.Apply x a parts) (e.Apply x b others)
    tuple_resolved : (x : Span) (parts others : List (Expr Span)) → AreResolved strength parts others → IsResolved strength (e.Tuple x parts) (e.Tuple x others)
    chain_resolved : (x : Span) (operands operators others between : List (Expr Span)) (tree : Expr Span) → AreResolved strength operands others → AreResolved strength operators between
        → IsGrouped strength others between tree → IsResolved strength (e.Chain x operands operators) tree
    lambda_resolved : (x : Span) (pats : List (Pat Span)) (a b : Expr Span) → IsResolved strength a b → IsResolved strength (e.Lambda x pats a) (e.Lambda x pats b)
    let_resolved : (x : Span) (locals others : List (Local Span)) (a b : Expr Span) → AreLocalsResolved strength locals others → IsResolved strength a b → IsResolved strength (e.Let x locals a) (e.Let x others b)
    if_resolved : (x : Span) (a b c d f g : Expr Span) → IsResolved strength a b → IsResolved strength c d → IsResolved strength f g → IsResolved strength (e.If x a c f) (e.If x b d g)
    case_resolved : (x : Span) (a b : Expr Span) (rows others : List (Alt Span)) → IsResolved strength a b → AreRowsResolved strength rows others → IsResolved strength (e.Case x a rows) (e.Case x b others)
    do_resolved : (x : Span) (statements others : List (Stmt Span)) → AreStatementsResolved strength statements others → IsResolved strength (e.Do x statements) (e.Do x others)

  pub data AreResolved (strength : List ℕ → Strength) : List (Expr Span) → List (Expr Span) → Type 0 where
    none_resolved : AreResolved strength [] []
    more_resolved : (a b : Expr Span) (lefts rights : List (Expr Span)) → IsResolved strength a b → AreResolved strength lefts rights → AreResolved strength (a ∷ lefts) (b ∷ rights)

  -- a clause or an alternative
  pub data IsRowResolved (strength : List ℕ → Strength) : Alt Span → Alt Span → Type 0 where
    row_resolved : (x : Span) (pats : List (Pat Span)) (rhs other : Rhs Span) (locals others : List (Local Span)) → IsSideResolved strength rhs other → AreLocalsResolved strength locals others
        → IsRowResolved strength (record { at = x; pats = pats; rhs = rhs; wheres = locals }) (record { at = x; pats = pats; rhs = other; wheres = others })

  pub data AreRowsResolved (strength : List ℕ → Strength) : List (Alt Span) → List (Alt Span) → Type 0 where
    no_rows_resolved : AreRowsResolved strength [] []
    more_rows_resolved : (a b : Alt Span) (lefts rights : List (Alt Span)) → IsRowResolved strength a b → AreRowsResolved strength lefts rights → AreRowsResolved strength (a ∷ lefts) (b ∷ rights)

  -- a right side
  pub data IsSideResolved (strength : List ℕ → Strength) : Rhs Span → Rhs Span → Type 0 where
    plain_resolved : (a b : Expr Span) → IsResolved strength a b → IsSideResolved strength (r.Plain a) (r.Plain b)
    guarded_resolved : (guards others : List (Guard Span)) → AreGuardsResolved strength guards others → IsSideResolved strength (r.Guarded guards) (r.Guarded others)

  pub data AreGuardsResolved (strength : List ℕ → Strength) : List (Guard Span) → List (Guard Span) → Type 0 where
    no_guards_resolved : AreGuardsResolved strength [] []
    more_guards_resolved : (a b c d : Expr Span) (guards others : List (Guard Span)) → IsResolved strength a b → IsResolved strength c d → AreGuardsResolved strength guards others
        → AreGuardsResolved strength (record { test = a; body = c } ∷ guards) (record { test = b; body = d } ∷ others)

  pub data AreLocalsResolved (strength : List ℕ → Strength) : List (Local Span) → List (Local Span) → Type 0 where
    no_locals_resolved : AreLocalsResolved strength [] []
    signature_resolved : (x : Span) (name : List ℕ) (type : Written) (locals others : List (Local Span)) → AreLocalsResolved strength locals others → AreLocalsResolved strength (l.Sig x name type ∷ locals) (l.Sig x name type ∷ others)
    function_resolved : (x : Span) (name : List ℕ) (rows changed : List (Alt Span)) (locals others : List (Local Span)) → AreRowsResolved strength rows changed → AreLocalsResolved strength locals others
        → AreLocalsResolved strength (l.Fun x name rows ∷ locals) (l.Fun x name changed ∷ others)
    pattern_resolved : (x : Span) (row changed : Alt Span) (locals others : List (Local Span)) → IsRowResolved strength row changed → AreLocalsResolved strength locals others
        → AreLocalsResolved strength (l.Pattern x row ∷ locals) (l.Pattern x changed ∷ others)

  pub data AreStatementsResolved (strength : List ℕ → Strength) : List (Stmt Span) → List (Stmt Span) → Type 0 where
    no_statements_resolved : AreStatementsResolved strength [] []
    bind_resolved : (x : Span) (pat : Pat Span) (a b : Expr Span) (statements others : List (Stmt Span)) → IsResolved strength a b → AreStatementsResolved strength statements others
        → AreStatementsResolved strength (s.Bind x pat a ∷ statements) (s.Bind x pat b ∷ others)
    let_statement_resolved : (x : Span) (locals changed : List (Local Span)) (statements others : List (Stmt Span)) → AreLocalsResolved strength locals changed → AreStatementsResolved strength statements others
        → AreStatementsResolved strength (s.Let x locals ∷ statements) (s.Let x changed ∷ others)
    run_resolved : (x : Span) (a b : Expr Span) (statements others : List (Stmt Span)) → IsResolved strength a b → AreStatementsResolved strength statements others
        → AreStatementsResolved strength (s.Run x a ∷ statements) (s.Run x b ∷ others)
