-- Statements of which the static rules hold do the same in worlds that agree.
use Rattle.std.proofs.Common.{◌≡◌, ℕ, List, [], ◌∷◌, Bool, true, false, ◌&&◌, refl, ap, sym, subst, ◌∙◌, map, length, Some, None, if◌then◌else◌, eqb→eq, T as IsSo}
use Rattle.std.specs.List.{list_all, AllByRecursion}
use Rattle.vh_tree.specs.Bits.{Bytes, Bits, same_bits}
use Rattle.vh_tree.specs.Functions.{World, Effect, Choice, expr_of, test_holds, stmt_of, branch_of, stmts_of, first_taken}
use Rattle.vh_tree.specs.StaticRules.{Names, Width, Widths, keeps, all_true, test_keeps, names_well, uses_earlier, measured, fits_in, agree}
use Rattle.vh_tree.specs.Widths.{HasWidth}
use Rattle.vh_tree_equations.specs.Equations.{stmt_of-Assign, stmt_of-If, branch_of-Branch, keeps-Assign, keeps-If, branch_keeps, branch_keeps-Branch}
use Rattle.vh_tree_equations.specs.Induction.{every_stmt}
use Rattle.vh_tree.specs.declared.expr.VExpr.{VExpr}
use Rattle.vh_tree.specs.declared.stmt.Test.{Test}
use Rattle.vh_tree.specs.declared.stmt.Test.TheVariants.{Equal, Rising, Reset}
use Rattle.vh_tree.specs.declared.stmt.VStmt.{VStmt}
use Rattle.vh_tree.specs.declared.stmt.VStmt.TheVariants.{Assign, If}
use Rattle.vh_tree.specs.declared.stmt.Branch.{Branch}
use Rattle.vh_tree_laws.proofs.Comparisons.{both_left, both_right}
use Rattle.vh_tree_laws.proofs.ExprWidth.{has_width}
use Rattle.vhdl_cycle_flat.specs.Agreeing.{WorldsAgree, AgreeingStmtsLaw}
use Rattle.vhdl_cycle_laws.proofs.Expressions.{agrees}

-- a value of a width that agrees with that of a target
of_target : (w u : Width) (n : ℕ) (value : Bits) → w ≡ Some n → agree w u ≡ true → HasWidth u value → HasWidth w value
of_target None u n value is a h = absurd (cc)
of_target (Some m) None n value is a h = absurd h
of_target (Some m) (Some k) n value is a h = h ∙ sym (eqb→eq m k (subst IsSo (sym a) tt))

module _ {S T : Type 0} (R : S → T → Type 0) (names : Names) (assignable usable : Bytes → Bool) (ws : Widths) (v : World S) (w : World T)
    (alike : WorldsAgree S T R names assignable usable ws v w) (in_process : Bool) where
  abbrev named : Bytes → VExpr → Bool
  named x e = assignable x && names_well names e

  abbrev named_test : Test → Bool
  named_test = test_keeps (λ e bits. names_well names e) in_process

  abbrev early : Bytes → VExpr → Bool
  early x e = uses_earlier usable e

  abbrev early_test : Test → Bool
  early_test = test_keeps (λ e bits. uses_earlier usable e) true

  abbrev fit : Bytes → VExpr → Bool
  fit x e = fits_in ws (ws.named x) e

  abbrev fit_test : Test → Bool
  fit_test = test_keeps (λ e bits. fits_in ws (Some (length bits)) e) true

  abbrev Same : Effect S → Effect T → Type 0
  Same a b = (s : S) (t : T) → R s t → R (a v s) (b w t)

  abbrev StmtSame : VStmt → Type 0
  StmtSame s = keeps named named_test s ≡ true → keeps early early_test s ≡ true → keeps fit fit_test s ≡ true → Same (stmt_of S s) (stmt_of T s)

  abbrev tested : (A : Type 0) → List Test → World A → A → Bool
  tested A ts world s = list_all (λ t. test_holds A t world s) ts

  pub record BranchSame (b : Branch) : Type 0 where
    pub tests : list_all named_test b.tests ≡ true → list_all early_test b.tests ≡ true → list_all fit_test b.tests ≡ true → (s : S) (t : T) → R s t → tested S b.tests v s ≡ tested T b.tests w t
    pub body : all_true (map (keeps named named_test) b.body) ≡ true → all_true (map (keeps early early_test) b.body) ≡ true → all_true (map (keeps fit fit_test) b.body) ≡ true → Same (stmts_of S b.body) (stmts_of T b.body)

  assign_same : (x : Bytes) (e : VExpr) → StmtSame (Assign x e)
  assign_same x e n u f s t r =
      let n' = sym (keeps-Assign named named_test x e) ∙ n in
      let u' = sym (keeps-Assign early early_test x e) ∙ u in
      let f' = sym (keeps-Assign fit fit_test x e) ∙ f in
      let well = both_right (assignable x) (names_well names e) n' in
      let fits = both_left (measured ws e).fits (agree (ws.named x) (measured ws e).width) f' in
      let target = both_left (assignable x) (names_well names e) n' in
      let one : expr_of e (v.scope s) ≡ expr_of e (w.scope t) = agrees names usable ws (v.scope s) (w.scope t) (alike.scopes s t r) (alike.widths s t r) e well u' fits in
      let wide : HasWidth (ws.named x) (expr_of e (w.scope t)) = of_target (ws.named x) (measured ws e).width (alike.targets x target).0 (expr_of e (w.scope t)) (alike.targets x target).1
      (both_right (measured ws e).fits (agree (ws.named x) (measured ws e).width) f') (has_width names usable ws (w.scope t) (alike.widths s t r) e well u' fits) in
      subst (λ (a : S). R a (stmt_of T (Assign x e) w t)) (sym (stmt_of-Assign S x e v s ∙ ap (λ (value : Bits). v.assign x value s) one))
      (subst (R (v.assign x (expr_of e (w.scope t)) s)) (sym (stmt_of-Assign T x e w t)) (alike.assign x target (expr_of e (w.scope t)) wide s t r))

  order_same : (body : List VStmt) → AllByRecursion StmtSame body → all_true (map (keeps named named_test) body) ≡ true → all_true (map (keeps early early_test) body) ≡ true →
      all_true (map (keeps fit fit_test) body) ≡ true → Same (stmts_of S body) (stmts_of T body)
  order_same [] each n u f s t r = r
  order_same (a ∷ body) each n u f s t r =
      order_same body each.1 (both_right (keeps named named_test a) (all_true (map (keeps named named_test) body)) n) (both_right (keeps early early_test a) (all_true (map (keeps early early_test) body)) u)
      (both_right (keeps fit fit_test a) (all_true (map (keeps fit fit_test) body)) f) (stmt_of S a v s) (stmt_of T a w t)
      (each.0 (both_left (keeps named named_test a) (all_true (map (keeps named named_test) body)) n) (both_left (keeps early early_test a) (all_true (map (keeps early early_test) body)) u)
      (both_left (keeps fit fit_test a) (all_true (map (keeps fit fit_test) body)) f) s t r)

  test_same : (test : Test) → named_test test ≡ true → early_test test ≡ true → fit_test test ≡ true → (s : S) (t : T) → R s t → test_holds S test v s ≡ test_holds T test w t
  test_same (Equal e bits) n u f s t r =
      ap (λ (value : Bits). same_bits value bits)
      (agrees names usable ws (v.scope s) (w.scope t) (alike.scopes s t r) (alike.widths s t r) e n u (both_left (measured ws e).fits (agree (Some (length bits)) (measured ws e).width) f))
  test_same Rising n u f s t r = alike.rising
  test_same Reset n u f s t r = alike.reset

  tests_same : (ts : List Test) → list_all named_test ts ≡ true → list_all early_test ts ≡ true → list_all fit_test ts ≡ true → (s : S) (t : T) → R s t → tested S ts v s ≡ tested T ts w t
  tests_same [] n u f s t r = refl
  tests_same (test ∷ ts) n u f s t r =
      let one = test_same test (both_left (named_test test) (list_all named_test ts) n) (both_left (early_test test) (list_all early_test ts) u) (both_left (fit_test test) (list_all fit_test ts) f) s t r in
      let rest = tests_same ts (both_right (named_test test) (list_all named_test ts) n) (both_right (early_test test) (list_all early_test ts) u) (both_right (fit_test test) (list_all fit_test ts) f) s t r in
      ap (λ (b : Bool). b && tested S ts v s) one ∙ ap (λ (b : Bool). test_holds T test w t && b) rest

  picked : (p q : Bool) → p ≡ q → (a b : S) (c d : T) → R a c → R b d → R (if p then a else b) (if q then c else d)
  picked true true e a b c d h k = h
  picked false false e a b c d h k = k
  picked true false e a b c d h k = absurd (cc)
  picked false true e a b c d h k = absurd (cc)

  -- a branch and the rest, over what the branch tests and does
  one_branch : (b : Branch) (c : Choice S) (d : Choice T) → branch_of S b ≡ c → branch_of T b ≡ d → (x : S) (y : T) (s : S) (t : T) → c.0 v s ≡ d.0 w t → R (c.1 v s) (d.1 w t) → R x y →
      R (if (branch_of S b).0 v s then (branch_of S b).1 v s else x) (if (branch_of T b).0 w t then (branch_of T b).1 w t else y)
  one_branch b c d e k x y s t h g rest =
      subst (λ (z : Choice S). R (if z.0 v s then z.1 v s else x) (if (branch_of T b).0 w t then (branch_of T b).1 w t else y)) (sym e)
      (subst (λ (z : Choice T). R (if c.0 v s then c.1 v s else x) (if z.0 w t then z.1 w t else y)) (sym k) (picked (c.0 v s) (d.0 w t) h (c.1 v s) x (d.1 w t) y g rest))

  taken_same : (bs : List Branch) (other : Effect S) (last : Effect T) → AllByRecursion BranchSame bs → all_true (map (branch_keeps named named_test) bs) ≡ true → all_true (map (branch_keeps early early_test) bs) ≡ true →
      all_true (map (branch_keeps fit fit_test) bs) ≡ true → Same other last → Same (first_taken S (map (branch_of S) bs) other) (first_taken T (map (branch_of T) bs) last)
  taken_same [] other last each n u f h s t r = h s t r
  taken_same (b ∷ bs) other last each n u f h s t r =
      let n' = sym (branch_keeps-Branch named named_test b) ∙ both_left (branch_keeps named named_test b) (all_true (map (branch_keeps named named_test) bs)) n in
      let u' = sym (branch_keeps-Branch early early_test b) ∙ both_left (branch_keeps early early_test b) (all_true (map (branch_keeps early early_test) bs)) u in
      let f' = sym (branch_keeps-Branch fit fit_test b) ∙ both_left (branch_keeps fit fit_test b) (all_true (map (branch_keeps fit fit_test) bs)) f in
      one_branch b (tested S b.tests, stmts_of S b.body) (tested T b.tests, stmts_of T b.body) (branch_of-Branch S b) (branch_of-Branch T b)
      (first_taken S (map (branch_of S) bs) other v s) (first_taken T (map (branch_of T) bs) last w t) s t
      (each.0.tests (both_left (list_all named_test b.tests) (all_true (map (keeps named named_test) b.body)) n') (both_left (list_all early_test b.tests) (all_true (map (keeps early early_test) b.body)) u')
      (both_left (list_all fit_test b.tests) (all_true (map (keeps fit fit_test) b.body)) f') s t r)
      (each.0.body (both_right (list_all named_test b.tests) (all_true (map (keeps named named_test) b.body)) n') (both_right (list_all early_test b.tests) (all_true (map (keeps early early_test) b.body)) u')
      (both_right (list_all fit_test b.tests) (all_true (map (keeps fit fit_test) b.body)) f') s t r)
      (taken_same bs other last each.1 (both_right (branch_keeps named named_test b) (all_true (map (branch_keeps named named_test) bs)) n) (both_right (branch_keeps early early_test b) (all_true (map (branch_keeps early early_test) bs)) u)
      (both_right (branch_keeps fit fit_test b) (all_true (map (branch_keeps fit fit_test) bs)) f) h s t r)

  choice_same : (bs : List Branch) (other : List VStmt) → AllByRecursion BranchSame bs → AllByRecursion StmtSame other → StmtSame (If bs other)
  choice_same bs other each last n u f s t r =
      let n' = sym (keeps-If named named_test bs other) ∙ n in
      let u' = sym (keeps-If early early_test bs other) ∙ u in
      let f' = sym (keeps-If fit fit_test bs other) ∙ f in
      subst (λ (a : S). R a (stmt_of T (If bs other) w t)) (sym (stmt_of-If S bs other v s))
      (subst (R (first_taken S (map (branch_of S) bs) (stmts_of S other) v s)) (sym (stmt_of-If T bs other w t))
      (taken_same bs (stmts_of S other) (stmts_of T other) each
      (both_left (all_true (map (branch_keeps named named_test) bs)) (all_true (map (keeps named named_test) other)) n')
      (both_left (all_true (map (branch_keeps early early_test) bs)) (all_true (map (keeps early early_test) other)) u')
      (both_left (all_true (map (branch_keeps fit fit_test) bs)) (all_true (map (keeps fit fit_test) other)) f')
      (order_same other last
      (both_right (all_true (map (branch_keeps named named_test) bs)) (all_true (map (keeps named named_test) other)) n')
      (both_right (all_true (map (branch_keeps early early_test) bs)) (all_true (map (keeps early early_test) other)) u')
      (both_right (all_true (map (branch_keeps fit fit_test) bs)) (all_true (map (keeps fit fit_test) other)) f'))
      s t r))

  stmt_same : (s : VStmt) → StmtSame s
  stmt_same = every_stmt StmtSame BranchSame (record { assign = assign_same; choice = choice_same; branch = λ b each. record { tests = tests_same b.tests; body = order_same b.body each } })

  pub body_same : (body : List VStmt) → list_all (keeps named named_test) body ≡ true → list_all (keeps early early_test) body ≡ true → list_all (keeps fit fit_test) body ≡ true →
      Same (stmts_of S body) (stmts_of T body)
  body_same [] n u f s t r = r
  body_same (a ∷ body) n u f s t r =
      body_same body (both_right (keeps named named_test a) (list_all (keeps named named_test) body) n) (both_right (keeps early early_test a) (list_all (keeps early early_test) body) u)
      (both_right (keeps fit fit_test a) (list_all (keeps fit fit_test) body) f) (stmt_of S a v s) (stmt_of T a w t)
      (stmt_same a (both_left (keeps named named_test a) (list_all (keeps named named_test) body) n) (both_left (keeps early early_test a) (list_all (keeps early early_test) body) u)
      (both_left (keeps fit fit_test a) (list_all (keeps fit fit_test) body) f) s t r)

pub agreeing_stmts : AgreeingStmtsLaw
agreeing_stmts S T R names assignable usable ws v w h = body_same R names assignable usable ws v w h
