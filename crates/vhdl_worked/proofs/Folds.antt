-- What any fold gives at each production: a fold doesn't compute by itself, and `simp` computes it by these.
use Rattle.std.specs.Prelude.{◌≡◌, ℕ, List, map}
use mathlib.Core.Path.{sym, ap, ◌∙◌}
use Rattle.vh_tree.specs.Bits.{Bytes, Bits}
use Rattle.vh_tree.specs.declared.expr.VExpr.{VExpr}
use Rattle.vh_tree.specs.declared.expr.VExpr.TheOpen as o
use Rattle.vh_tree.specs.declared.expr.VExpr.TheVariants as v
use Rattle.vh_tree.specs.declared.expr.VExpr.TheFolds.{fold-VExpr, fold-roll-VExpr}
use Rattle.vh_tree.specs.declared.stmt.VStmt.{VStmt}
use Rattle.vh_tree.specs.declared.stmt.Branch.{Branch}
use Rattle.vh_tree.specs.declared.stmt.VStmt.TheOpen as so
use Rattle.vh_tree.specs.declared.stmt.VStmt.TheVariants as sv
use Rattle.vh_tree.specs.declared.stmt.VStmt.TheFolds.{fold-VStmt, fold-Branch, fold-roll-VStmt, fold-roll-Branch}

module _ {X : Type 0} (step : o.VExpr-F X → X) where
  pub at-Name : (x : Bytes) → fold-VExpr X step (v.Name x) ≡ step (o.Name x)
  at-Name x = ap (λ (e : VExpr). fold-VExpr X step e) (sym (v.rolls-Name x)) ∙ fold-roll-VExpr X step (o.Name x)

  pub at-Slice : (x : Bytes) (a b : ℕ) → fold-VExpr X step (v.Slice x a b) ≡ step (o.Slice x a b)
  at-Slice x a b = ap (λ (e : VExpr). fold-VExpr X step e) (sym (v.rolls-Slice x a b)) ∙ fold-roll-VExpr X step (o.Slice x a b)

  pub at-Literal : (bits : Bits) → fold-VExpr X step (v.Literal bits) ≡ step (o.Literal bits)
  at-Literal bits = ap (λ (e : VExpr). fold-VExpr X step e) (sym (v.rolls-Literal bits)) ∙ fold-roll-VExpr X step (o.Literal bits)

  pub at-Call : (f : Bytes) (args : List VExpr) → fold-VExpr X step (v.Call f args) ≡ step (o.Call f (map (fold-VExpr X step) args))
  at-Call f args = ap (λ (e : VExpr). fold-VExpr X step e) (sym (v.rolls-Call f args)) ∙ fold-roll-VExpr X step (o.Call f args)

  pub at-Join : (parts : List VExpr) → fold-VExpr X step (v.Join parts) ≡ step (o.Join (map (fold-VExpr X step) parts))
  at-Join parts = ap (λ (e : VExpr). fold-VExpr X step e) (sym (v.rolls-Join parts)) ∙ fold-roll-VExpr X step (o.Join parts)

module _ {A B : Type 0} (step : so.VStmt-F A B → A) (branch : so.Branch-F A B → B) where
  pub at-Assign : (x : Bytes) (e : VExpr) → fold-VStmt A B step branch (sv.Assign x e) ≡ step (so.Assign x e)
  at-Assign x e = ap (λ (t : VStmt). fold-VStmt A B step branch t) (sym (sv.rolls-Assign x e)) ∙ fold-roll-VStmt A B step branch (so.Assign x e)

  pub at-If : (branches : List Branch) (other : List VStmt)
      → fold-VStmt A B step branch (sv.If branches other) ≡ step (so.If (map (fold-Branch A B step branch) branches) (map (fold-VStmt A B step branch) other))
  at-If branches other = ap (λ (t : VStmt). fold-VStmt A B step branch t) (sym (sv.rolls-If branches other)) ∙ fold-roll-VStmt A B step branch (so.If branches other)

  pub at-Branch : (b : Branch) → fold-Branch A B step branch b ≡ branch (record { tests = b.tests; body = map (fold-VStmt A B step branch) b.body })
  at-Branch b = fold-roll-Branch A B step branch (record { tests = b.tests; body = b.body })
