-- Induction on expressions and on statements: what holds of a tree where it holds of its parts holds of every tree.
use Rattle.std.specs.Prelude.{ℕ, List, [], ◌∷◌, map}
use Rattle.std.specs.List.{AllByRecursion}
use mathlib.Core.Path.{subst, sym}
use Rattle.vh_tree.specs.Bits.{Bytes, Bits}
use Rattle.vh_tree.specs.declared.expr.VExpr.{VExpr}
use Rattle.vh_tree.specs.declared.expr.VExpr.TheOpen as o
use Rattle.vh_tree.specs.declared.expr.VExpr.TheVariants as v
use Rattle.vh_tree.specs.declared.expr.VExpr.TheViews.{roll-VExpr}
use Rattle.vh_tree.specs.declared.expr.VExpr.TheFolds.{ind-VExpr, map-VExpr}
use Rattle.vh_tree.specs.declared.stmt.VStmt.{VStmt}
use Rattle.vh_tree.specs.declared.stmt.Branch.{Branch}
use Rattle.vh_tree.specs.declared.stmt.VStmt.TheOpen as so
use Rattle.vh_tree.specs.declared.stmt.VStmt.TheVariants as sv
use Rattle.vh_tree.specs.declared.stmt.VStmt.TheViews.{roll-VStmt, roll-Branch}
use Rattle.vh_tree.specs.declared.stmt.VStmt.TheFolds.{ind-VStmt, map-VStmt, map-Branch}

each_of : {A : Type 0} (P : A → Type 0) (ys : List ((e : A) × P e)) → AllByRecursion P (map (λ e. e.0) ys)
each_of P [] = tt
each_of P (y ∷ ys) = (y.1, each_of P ys)

-- one claim for each production of expressions, over the claim for its parts
pub record ClaimsOfExpr (P : VExpr → Type 0) : Type 0 where
  pub name : (x : Bytes) → P (v.Name x)
  pub slice : (x : Bytes) (a b : ℕ) → P (v.Slice x a b)
  pub literal : (bits : Bits) → P (v.Literal bits)
  pub call : (f : Bytes) (args : List VExpr) → AllByRecursion P args → P (v.Call f args)
  pub join : (parts : List VExpr) → AllByRecursion P parts → P (v.Join parts)

module _ (P : VExpr → Type 0) (c : ClaimsOfExpr P) where
  expr_layer : (y : o.VExpr-F ((e : VExpr) × P e)) → P (roll-VExpr (map-VExpr ((e : VExpr) × P e) VExpr (λ e. e.0) y))
  expr_layer (o.Name x) = subst P (sym (v.rolls-Name x)) (c.name x)
  expr_layer (o.Slice x a b) = subst P (sym (v.rolls-Slice x a b)) (c.slice x a b)
  expr_layer (o.Literal bits) = subst P (sym (v.rolls-Literal bits)) (c.literal bits)
  expr_layer (o.Call f args) = subst P (sym (v.rolls-Call f (map (λ e. e.0) args))) (c.call f (map (λ e. e.0) args) (each_of P args))
  expr_layer (o.Join parts) = subst P (sym (v.rolls-Join (map (λ e. e.0) parts))) (c.join (map (λ e. e.0) parts) (each_of P parts))

  pub every_expr : (e : VExpr) → P e
  every_expr = ind-VExpr P (λ x y is. subst (λ z. P (roll-VExpr z)) is (expr_layer y))

-- one claim for each production of statements, and one for branches
pub record ClaimsOfStmt (P : VStmt → Type 0) (Q : Branch → Type 0) : Type 0 where
  pub assign : (x : Bytes) (e : VExpr) → P (sv.Assign x e)
  pub choice : (branches : List Branch) (other : List VStmt) → AllByRecursion Q branches → AllByRecursion P other → P (sv.If branches other)
  pub branch : (b : Branch) → AllByRecursion P b.body → Q b

module _ (P : VStmt → Type 0) (Q : Branch → Type 0) (c : ClaimsOfStmt P Q) where
  stmt_layer : (y : so.VStmt-F ((s : VStmt) × P s) ((b : Branch) × Q b)) → P (roll-VStmt (map-VStmt ((s : VStmt) × P s) ((b : Branch) × Q b) VStmt Branch (λ e. e.0) (λ e. e.0) y))
  stmt_layer (so.Assign x e) = subst P (sym (sv.rolls-Assign x e)) (c.assign x e)
  stmt_layer (so.If branches other) = subst P (sym (sv.rolls-If (map (λ e. e.0) branches) (map (λ e. e.0) other)))
      (c.choice (map (λ e. e.0) branches) (map (λ e. e.0) other) (each_of Q branches) (each_of P other))

  branch_layer : (y : so.Branch-F ((s : VStmt) × P s) ((b : Branch) × Q b)) → Q (roll-Branch (map-Branch ((s : VStmt) × P s) ((b : Branch) × Q b) VStmt Branch (λ e. e.0) (λ e. e.0) y))
  branch_layer y = c.branch (record { tests = y.tests; body = map (λ e. e.0) y.body }) (each_of P y.body)

  pub every_stmt : (s : VStmt) → P s
  every_stmt = ind-VStmt P Q (λ x y is. subst (λ z. P (roll-VStmt z)) is (stmt_layer y)) (λ x y is. subst (λ z. Q (roll-Branch z)) is (branch_layer y))

  pub every_stmts : (body : List VStmt) → AllByRecursion P body
  every_stmts [] = tt
  every_stmts (s ∷ body) = (every_stmt s, every_stmts body)
