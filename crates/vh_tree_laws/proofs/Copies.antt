-- The first statements of a function, `v := p ;`.
use Rattle.std.proofs.Common.{◌≡◌, ◌≤◌, List, [], ◌∷◌, length, true, ap, sym, ◌∙◌, arith}
use mathlib.Core.Bool.{true≢false}
use Rattle.vh_tree.specs.Bits.{Bytes, same_name}
use Rattle.vh_tree.specs.StaticRules.{is_name, copies, begins_with_copies}
use Rattle.vh_tree_equations.specs.Equations.{is_name-Name, is_name-Slice, is_name-Literal, is_name-Call, is_name-Join, copies-Assign, copies-If}
use Rattle.vh_tree_equations.specs.Induction.{every_expr, every_stmt}
use Rattle.vh_tree.specs.declared.expr.VExpr.{VExpr}
use Rattle.vh_tree.specs.declared.expr.VExpr.TheVariants.{Name}
use Rattle.vh_tree.specs.declared.stmt.VStmt.{VStmt}
use Rattle.vh_tree.specs.declared.stmt.VStmt.TheVariants.{Assign}
use Rattle.vh_tree.specs.declared.function.Var.{Var}
use Rattle.vh_tree_laws.proofs.Comparisons.{both_left, both_right, name_same}

-- a bare name is that name
pub bare_name : (x : Bytes) (e : VExpr) → is_name x e ≡ true → e ≡ Name x
bare_name x = every_expr (λ e. is_name x e ≡ true → e ≡ Name x) (record {
  name = λ y h. ap Name (sym (name_same x y (sym (is_name-Name x y) ∙ h)));
  slice = λ y a b h. absurd (true≢false (sym h ∙ is_name-Slice x y a b));
  literal = λ bits h. absurd (true≢false (sym h ∙ is_name-Literal x bits));
  call = λ f args each h. absurd (true≢false (sym h ∙ is_name-Call x f args));
  join = λ parts each h. absurd (true≢false (sym h ∙ is_name-Join x parts));
})

-- a statement that copies is that assignment
pub copy_is : (v p : Bytes) (s : VStmt) → copies v p s ≡ true → s ≡ Assign v (Name p)
copy_is v p = every_stmt (λ s. copies v p s ≡ true → s ≡ Assign v (Name p)) (λ b. Unit {0}) (record {
  assign = λ x e h.
      let k = sym (copies-Assign v p x e) ∙ h in
      ap (λ y. Assign y e) (sym (name_same v x (both_left (same_name v x) (is_name p e) k))) ∙ ap (Assign v) (bare_name p e (both_right (same_name v x) (is_name p e) k));
  choice = λ bs other each last h. absurd (true≢false (sym h ∙ copies-If v p bs other));
  branch = λ b each. tt;
})

-- there are as many variables as parameters, at least
pub enough_vars : (ps : List Bytes) (vs : List Var) (body : List VStmt) → begins_with_copies ps vs body ≡ true → length ps ≤ length vs
enough_vars [] vs body h = omega arith
enough_vars (p ∷ ps) [] body h = absurd (true≢false (sym h))
enough_vars (p ∷ ps) (v ∷ vs) [] h = absurd (true≢false (sym h))
enough_vars (p ∷ ps) (v ∷ vs) (s ∷ body) h = let r = enough_vars ps vs body (both_right (copies v.name p s) (begins_with_copies ps vs body) h) in omega arith
