-- A change of state that commutes with each assignment of some statements commutes with the statements.
use Rattle.std.proofs.Common.{◌≡◌, List, [], ◌∷◌, Bool, true, false, ◌&&◌, ◌||◌, refl, ap, sym, ◌∙◌, map, if◌then◌else◌}
use Rattle.std.specs.List.{list_all, list_any, AllByRecursion}
use Rattle.vh_tree.specs.Bits.{Bytes, Bits, same_bits}
use Rattle.vh_tree.specs.Functions.{World, Effect, expr_of, stmt_of, branch_of, stmts_of, first_taken, test_holds}
use Rattle.vh_tree.specs.StaticRules.{assigns, any_true}
use Rattle.vh_tree_equations.specs.Equations.{stmt_of-Assign, stmt_of-If, branch_of-Branch, assigns-Assign, assigns-If, branch_assigns, branch_assigns-Branch}
use Rattle.vh_tree_equations.specs.Induction.{every_stmts}
use Rattle.vh_tree.specs.declared.expr.VExpr.{VExpr}
use Rattle.vh_tree.specs.declared.stmt.Test.{Test}
use Rattle.vh_tree.specs.declared.stmt.Test.TheVariants.{Equal, Rising, Reset}
use Rattle.vh_tree.specs.declared.stmt.VStmt.{VStmt}
use Rattle.vh_tree.specs.declared.stmt.VStmt.TheVariants.{Assign, If}
use Rattle.vh_tree.specs.declared.stmt.Branch.{Branch}
use Rattle.vh_tree_laws.proofs.Comparisons.{either_left, either_right, name_self}

module _ {S : Type 0} (w : World S) (still : (s t : S) → w.scope s ≡ w.scope t) (f : S → S) where
  abbrev Moves : (Bytes → Bool) → Type 0
  Moves assigned = (x : Bytes) → assigned x ≡ true → (v : Bits) (t : S) → w.assign x v (f t) ≡ f (w.assign x v t)

  abbrev Follows : VStmt → Type 0
  Follows s = Moves (λ x. assigns x s) → (t : S) → stmt_of S s w (f t) ≡ f (stmt_of S s w t)

  abbrev BodyFollows : Branch → Type 0
  BodyFollows b = Moves (λ x. branch_assigns x b) → (t : S) → stmts_of S b.body w (f t) ≡ f (stmts_of S b.body w t)

  test_same : (q : Test) (s t : S) → test_holds S q w s ≡ test_holds S q w t
  test_same (Equal e bits) s t = ap (λ r. same_bits (expr_of e r) bits) (still s t)
  test_same Rising s t = refl
  test_same Reset s t = refl

  tests_same : (qs : List Test) (s t : S) → list_all (λ q. test_holds S q w s) qs ≡ list_all (λ q. test_holds S q w t) qs
  tests_same [] s t = refl
  tests_same (q ∷ qs) s t = ap (λ a. a && list_all (λ q. test_holds S q w s) qs) (test_same q s t) ∙ ap (λ a. test_holds S q w t && a) (tests_same qs s t)

  order_follows : (body : List VStmt) → AllByRecursion Follows body → Moves (λ x. list_any (assigns x) body) → (t : S) → stmts_of S body w (f t) ≡ f (stmts_of S body w t)
  order_follows [] each moves t = refl
  order_follows (s ∷ body) each moves t =
      ap (stmts_of S body w) (each.0 (λ x a. moves x (either_left (assigns x s) (list_any (assigns x) body) a)) t)
      ∙ order_follows body each.1 (λ x a. moves x (either_right (assigns x s) (list_any (assigns x) body) a)) (stmt_of S s w t)

  any_mapped : {A : Type 0} (p : A → Bool) (xs : List A) → any_true (map p xs) ≡ list_any p xs
  any_mapped p [] = refl
  any_mapped p (x ∷ xs) = ap (λ a. p x || a) (any_mapped p xs)

  picked : (q : Bool) (a b c d : S) → a ≡ f b → c ≡ f d → (if q then a else c) ≡ f (if q then b else d)
  picked true a b c d e g = e
  picked false a b c d e g = g

  taken_follows : (bs : List Branch) (other : Effect S) → AllByRecursion BodyFollows bs → Moves (λ x. list_any (branch_assigns x) bs) →
      ((t : S) → other w (f t) ≡ f (other w t)) → (t : S) → first_taken S (map (branch_of S) bs) other w (f t) ≡ f (first_taken S (map (branch_of S) bs) other w t)
  taken_follows [] other each moves last t = last t
  taken_follows (b ∷ bs) other each moves last t =
      let is = branch_of-Branch S b in
      let test : (branch_of S b).0 w (f t) ≡ (branch_of S b).0 w t = ap (λ c. c.0 w (f t)) is ∙ tests_same b.tests (f t) t ∙ sym (ap (λ c. c.0 w t) is) in
      let body : (branch_of S b).1 w (f t) ≡ f ((branch_of S b).1 w t) =
      ap (λ c. c.1 w (f t)) is ∙ each.0 (λ x a. moves x (either_left (branch_assigns x b) (list_any (branch_assigns x) bs) a)) t ∙ sym (ap (λ c. f (c.1 w t)) is) in
      let rest = taken_follows bs other each.1 (λ x a. moves x (either_right (branch_assigns x b) (list_any (branch_assigns x) bs) a)) last t in
      ap (λ (q : Bool). if q then (branch_of S b).1 w (f t) else first_taken S (map (branch_of S) bs) other w (f t)) test
      ∙ picked ((branch_of S b).0 w t) _ _ _ _ body rest

  assign_follows : (x : Bytes) (e : VExpr) → Follows (Assign x e)
  assign_follows x e moves t =
      stmt_of-Assign S x e w (f t)
      ∙ ap (λ r. w.assign x (expr_of e r) (f t)) (still (f t) t)
      ∙ moves x (assigns-Assign x x e ∙ name_self x) (expr_of e (w.scope t)) t
      ∙ sym (ap f (stmt_of-Assign S x e w t))

  choice_follows : (bs : List Branch) (other : List VStmt) → AllByRecursion BodyFollows bs → AllByRecursion Follows other → Follows (If bs other)
  choice_follows bs other each last moves t =
      stmt_of-If S bs other w (f t)
      ∙ taken_follows bs (stmts_of S other) each
      (λ x a. moves x (assigns-If x bs other ∙ either_left (any_true (map (branch_assigns x) bs)) (any_true (map (assigns x) other)) (any_mapped (branch_assigns x) bs ∙ a)))
      (order_follows other last
      (λ x a. moves x (assigns-If x bs other ∙ either_right (any_true (map (branch_assigns x) bs)) (any_true (map (assigns x) other)) (any_mapped (assigns x) other ∙ a)))) t
      ∙ sym (ap f (stmt_of-If S bs other w t))

  body_follows : (b : Branch) → AllByRecursion Follows b.body → BodyFollows b
  body_follows b each moves = order_follows b.body each (λ x a. moves x (branch_assigns-Branch x b ∙ any_mapped (assigns x) b.body ∙ a))

  pub stmts_follow : (body : List VStmt) → Moves (λ x. list_any (assigns x) body) → (t : S) → stmts_of S body w (f t) ≡ f (stmts_of S body w t)
  stmts_follow body = order_follows body (every_stmts Follows BodyFollows (record { assign = assign_follows; choice = choice_follows; branch = body_follows }) body)
