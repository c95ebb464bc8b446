-- Induction on the trees of expressions and clauses: what holds of a tree where it holds of its parts holds of every tree.
use Rattle.std.proofs.Common.{ℕ, List, [], ◌∷◌, map, subst, sym}
use Rattle.std.specs.List.{AllByRecursion}
use Rattle.rw_base.specs.declared.place.Span.{Span}
use Rattle.rw_tree.specs.declared.types.Written.{Written}
use Rattle.rw_tree.specs.declared.pattern.Pat.{Pat}
use Rattle.rw_tree.specs.declared.expr.Expr.{Expr}
use Rattle.rw_tree.specs.declared.expr.Expr.TheVariants as expr
use Rattle.rw_tree.specs.declared.clause.Local.{Local}
use Rattle.rw_tree.specs.declared.clause.Local.TheVariants as local
use Rattle.rw_tree.specs.declared.clause.Local.TheOpen.{Local-F, Rhs-F, Stmt-F, Expr-F, Alt-F, Guard-F}
use Rattle.rw_tree.specs.declared.clause.Local.TheViews.{roll-Local, roll-Rhs, roll-Stmt, roll-Expr, roll-Alt, roll-Guard}
use Rattle.rw_tree.specs.declared.clause.Local.TheFolds.{ind-Expr, ind-Alt, map-Local, map-Rhs, map-Stmt, map-Expr, map-Alt, map-Guard}
use Rattle.rw_tree.specs.declared.clause.Alt.{Alt}
use Rattle.rw_tree.specs.declared.clause.Guard.{Guard}
use Rattle.rw_tree.specs.declared.clause.Rhs.{Rhs}
use Rattle.rw_tree.specs.declared.clause.Rhs.TheVariants as rhs
use Rattle.rw_tree.specs.declared.clause.Stmt.{Stmt}
use Rattle.rw_tree.specs.declared.clause.Stmt.TheVariants as stmt

each_holds : {A : Type 0} (P : A → Type 0) (ys : List ((e : A) × P e)) → AllByRecursion P (map (λ e. e.0) ys)
each_holds P [] = tt
each_holds P (y ∷ ys) = (y.1, each_holds P ys)

-- one claim for each production, over the claims for its parts
pub record Claims (L : Local Span → Type 0) (R : Rhs Span → Type 0) (S : Stmt Span → Type 0) (E : Expr Span → Type 0) (A : Alt Span → Type 0) (G : Guard Span → Type 0) : Type 0 where
  pub variable : (x : Span) (name : List ℕ) → E (expr.Var x name)
  pub constructor : (x : Span) (name : List ℕ) → E (expr.Con x name)
  pub application : (x : Span) (head : Expr Span) (parts : List (Expr Span)) → E head → AllByRecursion E parts → E (expr.Apply x head parts)
  pub tuple : (x : Span) (parts : List (Expr Span)) → AllByRecursion E parts → E (expr.Tuple x parts)
  pub chain : (x : Span) (operands operators : List (Expr Span)) → AllByRecursion E operands → AllByRecursion E operators → E (expr.Chain x operands operators)
  pub lambda : (x : Span) (pats : List (Pat Span)) (body : Expr Span) → E body → E (expr.Lambda x pats body)
  pub let_in : (x : Span) (locals : List (Local Span)) (body : Expr Span) → AllByRecursion L locals → E body → E (expr.Let x locals body)
  pub if_then_else : (x : Span) (test first second : Expr Span) → E test → E first → E second → E (expr.If x test first second)
  pub case_of : (x : Span) (scrutinee : Expr Span) (rows : List (Alt Span)) → E scrutinee → AllByRecursion A rows → E (expr.Case x scrutinee rows)
  pub do_block : (x : Span) (statements : List (Stmt Span)) → AllByRecursion S statements → E (expr.Do x statements)
  pub plain : (body : Expr Span) → E body → R (rhs.Plain body)
  pub guarded : (bodies : List (Guard Span)) → AllByRecursion G bodies → R (rhs.Guarded bodies)
  pub signature : (x : Span) (name : List ℕ) (type : Written) → L (local.Sig x name type)
  pub function : (x : Span) (name : List ℕ) (rows : List (Alt Span)) → AllByRecursion A rows → L (local.Fun x name rows)
  pub bound : (x : Span) (row : Alt Span) → A row → L (local.Pattern x row)
  pub bind : (x : Span) (pat : Pat Span) (body : Expr Span) → E body → S (stmt.Bind x pat body)
  pub let_statement : (x : Span) (locals : List (Local Span)) → AllByRecursion L locals → S (stmt.Let x locals)
  pub run : (x : Span) (body : Expr Span) → E body → S (stmt.Run x body)
  pub row : (row : Alt Span) → R row.rhs → AllByRecursion L row.wheres → A row
  pub guard : (guard : Guard Span) → E guard.test → E guard.body → G guard

module _ (L : Local Span → Type 0) (R : Rhs Span → Type 0) (S : Stmt Span → Type 0) (E : Expr Span → Type 0) (A : Alt Span → Type 0) (G : Guard Span → Type 0) (c : Claims L R S E A G) where
  expression_layer : (y : Expr-F Span ((e : Local Span) × L e) ((e : Rhs Span) × R e) ((e : Stmt Span) × S e) ((e : Expr Span) × E e) ((e : Alt Span) × A e) ((e : Guard Span) × G e)) → E (roll-Expr Span (map-Expr Span ((e : Local Span) × L e) ((e : Rhs Span) × R e) ((e : Stmt Span) × S e) ((e : Expr Span) × E e) ((e : Alt Span) × A e) ((e : Guard Span) × G e) (Local Span) (Rhs Span) (Stmt Span) (Expr Span) (Alt Span) (Guard Span) (λ e. e.0) (λ e. e.0) (λ e. e.0) (λ e. e.0) (λ e. e.0) (λ e. e.0) y))
  expression_layer (Expr-F.Var x name) = subst E (sym (expr.rolls-Var x name)) (c.variable x name)
  expression_layer (Expr-F.Con x name) = subst E (sym (expr.rolls-Con x name)) (c.constructor x name)
  expression_layer (Expr-F.Apply x head parts) = subst E (sym (expr.rolls-Apply x head.0 (map (λ e. e.0) parts))) (c.application x head.0 (map (λ e. e.0) parts) head.1 (each_holds E parts))
  expression_layer (Expr-F.Tuple x parts) = subst E (sym (expr.rolls-Tuple x (map (λ e. e.0) parts))) (c.tuple x (map (λ e. e.0) parts) (each_holds E parts))
  expression_layer (Expr-F.Chain x operands operators) = subst E (sym (expr.rolls-Chain x (map (λ e. e.0) operands) (map (λ e. e.0) operators))) (c.chain x (map (λ e. e.0) operands) (map (λ e. e.0) operators) (each_holds E operands) (each_holds E operators))
  expression_layer (Expr-F.Lambda x pats body) = subst E (sym (expr.rolls-Lambda x pats body.0)) (c.lambda x pats body.0 body.1)
  expression_layer (Expr-F.«Expr::Let» x locals body) = subst E (sym (expr.rolls-Let x (map (λ e. e.0) locals) body.0)) (c.let_in x (map (λ e. e.0) locals) body.0 (each_holds L locals) body.1)
  expression_layer (Expr-F.If x test first second) = subst E (sym (expr.rolls-If x test.0 first.0 second.0)) (c.if_then_else x test.0 first.0 second.0 test.1 first.1 second.1)
  expression_layer (Expr-F.Case x scrutinee rows) = subst E (sym (expr.rolls-Case x scrutinee.0 (map (λ e. e.0) rows))) (c.case_of x scrutinee.0 (map (λ e. e.0) rows) scrutinee.1 (each_holds A rows))
  expression_layer (Expr-F.Do x statements) = subst E (sym (expr.rolls-Do x (map (λ e. e.0) statements))) (c.do_block x (map (λ e. e.0) statements) (each_holds S statements))

  side_layer : (y : Rhs-F Span ((e : Local Span) × L e) ((e : Rhs Span) × R e) ((e : Stmt Span) × S e) ((e : Expr Span) × E e) ((e : Alt Span) × A e) ((e : Guard Span) × G e)) → R (roll-Rhs Span (map-Rhs Span ((e : Local Span) × L e) ((e : Rhs Span) × R e) ((e : Stmt Span) × S e) ((e : Expr Span) × E e) ((e : Alt Span) × A e) ((e : Guard Span) × G e) (Local Span) (Rhs Span) (Stmt Span) (Expr Span) (Alt Span) (Guard Span) (λ e. e.0) (λ e. e.0) (λ e. e.0) (λ e. e.0) (λ e. e.0) (λ e. e.0) y))
  side_layer (Rhs-F.Plain body) = subst R (sym (rhs.rolls-Plain body.0)) (c.plain body.0 body.1)
  side_layer (Rhs-F.Guarded bodies) = subst R (sym (rhs.rolls-Guarded (map (λ e. e.0) bodies))) (c.guarded (map (λ e. e.0) bodies) (each_holds G bodies))

  local_layer : (y : Local-F Span ((e : Local Span) × L e) ((e : Rhs Span) × R e) ((e : Stmt Span) × S e) ((e : Expr Span) × E e) ((e : Alt Span) × A e) ((e : Guard Span) × G e)) → L (roll-Local Span (map-Local Span ((e : Local Span) × L e) ((e : Rhs Span) × R e) ((e : Stmt Span) × S e) ((e : Expr Span) × E e) ((e : Alt Span) × A e) ((e : Guard Span) × G e) (Local Span) (Rhs Span) (Stmt Span) (Expr Span) (Alt Span) (Guard Span) (λ e. e.0) (λ e. e.0) (λ e. e.0) (λ e. e.0) (λ e. e.0) (λ e. e.0) y))
  local_layer (Local-F.Sig x name type) = subst L (sym (local.rolls-Sig x name type)) (c.signature x name type)
  local_layer (Local-F.Fun x name rows) = subst L (sym (local.rolls-Fun x name (map (λ e. e.0) rows))) (c.function x name (map (λ e. e.0) rows) (each_holds A rows))
  local_layer (Local-F.Pattern x row) = subst L (sym (local.rolls-Pattern x row.0)) (c.bound x row.0 row.1)

  statement_layer : (y : Stmt-F Span ((e : Local Span) × L e) ((e : Rhs Span) × R e) ((e : Stmt Span) × S e) ((e : Expr Span) × E e) ((e : Alt Span) × A e) ((e : Guard Span) × G e)) → S (roll-Stmt Span (map-Stmt Span ((e : Local Span) × L e) ((e : Rhs Span) × R e) ((e : Stmt Span) × S e) ((e : Expr Span) × E e) ((e : Alt Span) × A e) ((e : Guard Span) × G e) (Local Span) (Rhs Span) (Stmt Span) (Expr Span) (Alt Span) (Guard Span) (λ e. e.0) (λ e. e.0) (λ e. e.0) (λ e. e.0) (λ e. e.0) (λ e. e.0) y))
  statement_layer (Stmt-F.Bind x pat body) = subst S (sym (stmt.rolls-Bind x pat body.0)) (c.bind x pat body.0 body.1)
  statement_layer (Stmt-F.«Stmt::Let» x locals) = subst S (sym (stmt.rolls-Let x (map (λ e. e.0) locals))) (c.let_statement x (map (λ e. e.0) locals) (each_holds L locals))
  statement_layer (Stmt-F.Run x body) = subst S (sym (stmt.rolls-Run x body.0)) (c.run x body.0 body.1)

  row_layer : (y : Alt-F Span ((e : Local Span) × L e) ((e : Rhs Span) × R e) ((e : Stmt Span) × S e) ((e : Expr Span) × E e) ((e : Alt Span) × A e) ((e : Guard Span) × G e)) → A (roll-Alt Span (map-Alt Span ((e : Local Span) × L e) ((e : Rhs Span) × R e) ((e : Stmt Span) × S e) ((e : Expr Span) × E e) ((e : Alt Span) × A e) ((e : Guard Span) × G e) (Local Span) (Rhs Span) (Stmt Span) (Expr Span) (Alt Span) (Guard Span) (λ e. e.0) (λ e. e.0) (λ e. e.0) (λ e. e.0) (λ e. e.0) (λ e. e.0) y))
  row_layer y = c.row (record { at = y.at; pats = y.pats; rhs = y.rhs.0; wheres = (map (λ e. e.0) y.wheres) }) y.rhs.1 (each_holds L y.wheres)

  guard_layer : (y : Guard-F Span ((e : Local Span) × L e) ((e : Rhs Span) × R e) ((e : Stmt Span) × S e) ((e : Expr Span) × E e) ((e : Alt Span) × A e) ((e : Guard Span) × G e)) → G (roll-Guard Span (map-Guard Span ((e : Local Span) × L e) ((e : Rhs Span) × R e) ((e : Stmt Span) × S e) ((e : Expr Span) × E e) ((e : Alt Span) × A e) ((e : Guard Span) × G e) (Local Span) (Rhs Span) (Stmt Span) (Expr Span) (Alt Span) (Guard Span) (λ e. e.0) (λ e. e.0) (λ e. e.0) (λ e. e.0) (λ e. e.0) (λ e. e.0) y))
  guard_layer y = c.guard (record { test = y.test.0; body = y.body.0 }) y.test.1 y.body.1

  pub every_expression : (a : Expr Span) → E a
  every_expression = ind-Expr Span L R S E A G (λ x y is. subst (λ z. L (roll-Local Span z)) is (local_layer y)) (λ x y is. subst (λ z. R (roll-Rhs Span z)) is (side_layer y)) (λ x y is. subst (λ z. S (roll-Stmt Span z)) is (statement_layer y)) (λ x y is. subst (λ z. E (roll-Expr Span z)) is (expression_layer y)) (λ x y is. subst (λ z. A (roll-Alt Span z)) is (row_layer y)) (λ x y is. subst (λ z. G (roll-Guard Span z)) is (guard_layer y))

  pub every_row : (a : Alt Span) → A a
  every_row = ind-Alt Span L R S E A G (λ x y is. subst (λ z. L (roll-Local Span z)) is (local_layer y)) (λ x y is. subst (λ z. R (roll-Rhs Span z)) is (side_layer y)) (λ x y is. subst (λ z. S (roll-Stmt Span z)) is (statement_layer y)) (λ x y is. subst (λ z. E (roll-Expr Span z)) is (expression_layer y)) (λ x y is. subst (λ z. A (roll-Alt Span z)) is (row_layer y)) (λ x y is. subst (λ z. G (roll-Guard Span z)) is (guard_layer y))
