-- The statements of a function of which the static rules hold keep the widths of its store.
use Rattle.std.proofs.Common.{◌≡◌, List, [], ◌∷◌, Bool, true, false, ◌&&◌, sym, subst, ◌∙◌, map, if◌then◌else◌, Some, length}
use Rattle.std.specs.List.{list_all, AllByRecursion}
use Rattle.vh_tree.specs.Bits.{Bytes}
use Rattle.vh_tree.specs.Functions.{Calls, Store, Effect, Choice, expr_of, scope_in, function_world, stmt_of, branch_of, stmts_of, first_taken}
use Rattle.vh_tree.specs.StaticRules.{Names, Widths, keeps, all_true, test_keeps, names_well, uses_earlier, measured, fits_in, agree, width_among}
use Rattle.vh_tree.specs.Widths.{HasWidth, KeepsWidths, StoreHasWidths}
use Rattle.vh_tree_equations.specs.Equations.{stmt_of-Assign, stmt_of-If, branch_of-Branch, keeps-Assign, keeps-If, branch_keeps, branch_keeps-Branch}
use Rattle.vh_tree_equations.specs.Induction.{every_stmt}
use Rattle.vh_tree.specs.declared.expr.VExpr.{VExpr}
use Rattle.vh_tree.specs.declared.stmt.Test.{Test}
use Rattle.vh_tree.specs.declared.stmt.VStmt.{VStmt}
use Rattle.vh_tree.specs.declared.stmt.VStmt.TheVariants.{Assign, If}
use Rattle.vh_tree.specs.declared.stmt.Branch.{Branch}
use Rattle.vh_tree.specs.declared.function.Var.{Var}
use Rattle.vh_tree_laws.proofs.Comparisons.{both_left, both_right}
use Rattle.vh_tree_laws.proofs.Stores.{stored_width}
use Rattle.vh_tree_laws.proofs.ExprWidth.{has_width}

module _ (calls : Calls) (vs : List Var) (names : Names) (assignable : Bytes → Bool) (usable : Bytes → Bool) (known : Widths) (is : (x : Bytes) → known.named x ≡ width_among vs x)
    (scopes : (store : Store) → StoreHasWidths vs store → KeepsWidths names usable known (scope_in calls store)) where
  abbrev named : Bytes → VExpr → Bool
  named x e = assignable x && names_well names e

  abbrev named_test : Test → Bool
  named_test = test_keeps (λ e bits. names_well names e) false

  abbrev early : Bytes → VExpr → Bool
  early x e = uses_earlier usable e

  abbrev early_test : Test → Bool
  early_test = test_keeps (λ e bits. uses_earlier usable e) true

  abbrev fit : Bytes → VExpr → Bool
  fit x e = fits_in known (known.named x) e

  abbrev fit_test : Test → Bool
  fit_test = test_keeps (λ e bits. fits_in known (Some (length bits)) e) true

  abbrev Sound : Effect Store → Type 0
  Sound e = (store : Store) → StoreHasWidths vs store → StoreHasWidths vs (e (function_world calls) store)

  abbrev StmtSound : VStmt → Type 0
  StmtSound s = keeps named named_test s ≡ true → keeps early early_test s ≡ true → keeps fit fit_test s ≡ true → Sound (stmt_of Store s)

  abbrev BranchSound : Branch → Type 0
  BranchSound b = branch_keeps named named_test b ≡ true → branch_keeps early early_test b ≡ true → branch_keeps fit fit_test b ≡ true → Sound (stmts_of Store b.body)

  assigned_sound : (x : Bytes) (e : VExpr) (store : Store) → fit x e ≡ true → StoreHasWidths vs store → HasWidth (measured known e).width (expr_of e (scope_in calls store)) →
      StoreHasWidths vs (stmt_of Store (Assign x e) (function_world calls) store)
  assigned_sound x e store f h k =
      subst (StoreHasWidths vs) (sym (stmt_of-Assign Store x e (function_world calls) store))
      (stored_width vs store h x (measured known e).width (expr_of e (scope_in calls store))
      (subst (λ w. agree w (measured known e).width ≡ true) (is x) (both_right (measured known e).fits (agree (known.named x) (measured known e).width) f)) k)

  assign_sound : (x : Bytes) (e : VExpr) → StmtSound (Assign x e)
  assign_sound x e n u f store h =
      let n' = sym (keeps-Assign named named_test x e) ∙ n in
      let u' = sym (keeps-Assign early early_test x e) ∙ u in
      let f' = sym (keeps-Assign fit fit_test x e) ∙ f in
      assigned_sound x e store f' h
      (has_width names usable known (scope_in calls store) (scopes store h) e (both_right (assignable x) (names_well names e) n') u' (both_left (measured known e).fits (agree (known.named x) (measured known e).width) f'))

  order_sound : (body : List VStmt) → AllByRecursion StmtSound body → all_true (map (keeps named named_test) body) ≡ true → all_true (map (keeps early early_test) body) ≡ true →
      all_true (map (keeps fit fit_test) body) ≡ true → Sound (stmts_of Store body)
  order_sound [] each n u f store h = h
  order_sound (s ∷ body) each n u f store h =
      order_sound body each.1 (both_right (keeps named named_test s) (all_true (map (keeps named named_test) body)) n) (both_right (keeps early early_test s) (all_true (map (keeps early early_test) body)) u)
      (both_right (keeps fit fit_test s) (all_true (map (keeps fit fit_test) body)) f) (stmt_of Store s (function_world calls) store)
      (each.0 (both_left (keeps named named_test s) (all_true (map (keeps named named_test) body)) n) (both_left (keeps early early_test s) (all_true (map (keeps early early_test) body)) u)
      (both_left (keeps fit fit_test s) (all_true (map (keeps fit fit_test) body)) f) store h)

  picked : (q : Bool) (a b : Store) → StoreHasWidths vs a → StoreHasWidths vs b → StoreHasWidths vs (if q then a else b)
  picked true a b h k = h
  picked false a b h k = k

  taken_sound : (bs : List Branch) (other : Effect Store) → AllByRecursion BranchSound bs → all_true (map (branch_keeps named named_test) bs) ≡ true → all_true (map (branch_keeps early early_test) bs) ≡ true →
      all_true (map (branch_keeps fit fit_test) bs) ≡ true → Sound other → Sound (first_taken Store (map (branch_of Store) bs) other)
  taken_sound [] other each n u f last store h = last store h
  taken_sound (b ∷ bs) other each n u f last store h =
      picked ((branch_of Store b).0 (function_world calls) store) ((branch_of Store b).1 (function_world calls) store) (first_taken Store (map (branch_of Store) bs) other (function_world calls) store)
      (subst (λ (c : Choice Store). StoreHasWidths vs (c.1 (function_world calls) store)) (sym (branch_of-Branch Store b))
      (each.0 (both_left (branch_keeps named named_test b) (all_true (map (branch_keeps named named_test) bs)) n) (both_left (branch_keeps early early_test b) (all_true (map (branch_keeps early early_test) bs)) u)
      (both_left (branch_keeps fit fit_test b) (all_true (map (branch_keeps fit fit_test) bs)) f) store h))
      (taken_sound bs other each.1 (both_right (branch_keeps named named_test b) (all_true (map (branch_keeps named named_test) bs)) n) (both_right (branch_keeps early early_test b) (all_true (map (branch_keeps early early_test) bs)) u)
      (both_right (branch_keeps fit fit_test b) (all_true (map (branch_keeps fit fit_test) bs)) f) last store h)

  choice_sound : (bs : List Branch) (other : List VStmt) → AllByRecursion BranchSound bs → AllByRecursion StmtSound other → StmtSound (If bs other)
  choice_sound bs other each last n u f store h =
      let n' = sym (keeps-If named named_test bs other) ∙ n in
      let u' = sym (keeps-If early early_test bs other) ∙ u in
      let f' = sym (keeps-If fit fit_test bs other) ∙ f in
      subst (StoreHasWidths vs) (sym (stmt_of-If Store bs other (function_world calls) store))
      (taken_sound bs (stmts_of Store other) each
      (both_left (all_true (map (branch_keeps named named_test) bs)) (all_true (map (keeps named named_test) other)) n')
      (both_left (all_true (map (branch_keeps early early_test) bs)) (all_true (map (keeps early early_test) other)) u')
      (both_left (all_true (map (branch_keeps fit fit_test) bs)) (all_true (map (keeps fit fit_test) other)) f')
      (order_sound other last
      (both_right (all_true (map (branch_keeps named named_test) bs)) (all_true (map (keeps named named_test) other)) n')
      (both_right (all_true (map (branch_keeps early early_test) bs)) (all_true (map (keeps early early_test) other)) u')
      (both_right (all_true (map (branch_keeps fit fit_test) bs)) (all_true (map (keeps fit fit_test) other)) f'))
      store h)

  branch_sound : (b : Branch) → AllByRecursion StmtSound b.body → BranchSound b
  branch_sound b each n u f =
      order_sound b.body each
      (both_right (list_all named_test b.tests) (all_true (map (keeps named named_test) b.body)) (sym (branch_keeps-Branch named named_test b) ∙ n))
      (both_right (list_all early_test b.tests) (all_true (map (keeps early early_test) b.body)) (sym (branch_keeps-Branch early early_test b) ∙ u))
      (both_right (list_all fit_test b.tests) (all_true (map (keeps fit fit_test) b.body)) (sym (branch_keeps-Branch fit fit_test b) ∙ f))

  stmt_sound : (s : VStmt) → StmtSound s
  stmt_sound = every_stmt StmtSound BranchSound (record { assign = assign_sound; choice = choice_sound; branch = branch_sound })

  pub body_sound : (body : List VStmt) → list_all (keeps named named_test) body ≡ true → list_all (keeps early early_test) body ≡ true → list_all (keeps fit fit_test) body ≡ true →
      (store : Store) → StoreHasWidths vs store → StoreHasWidths vs (stmts_of Store body (function_world calls) store)
  body_sound [] n u f store h = h
  body_sound (s ∷ body) n u f store h =
      body_sound body (both_right (keeps named named_test s) (list_all (keeps named named_test) body) n) (both_right (keeps early early_test s) (list_all (keeps early early_test) body) u)
      (both_right (keeps fit fit_test s) (list_all (keeps fit fit_test) body) f) (stmt_of Store s (function_world calls) store)
      (stmt_sound s (both_left (keeps named named_test s) (list_all (keeps named named_test) body) n) (both_left (keeps early early_test s) (list_all (keeps early early_test) body) u)
      (both_left (keeps fit fit_test s) (list_all (keeps fit fit_test) body) f) store h)
