-- Rules over the parts of a statement.
use Rattle.std.proofs.Common.{◌≡◌, Bool, true, false, List, [], ◌∷◌, map, refl, sym, ap, ◌∙◌}
use Rattle.std.specs.Prelude.{◌&&◌, ◌||◌}
use Rattle.std.specs.List.{list_all, list_any}
use Rattle.vh_tree.specs.Bits.{Bytes}
use Rattle.vh_tree.specs.StaticRules.{all_true, any_true, keeps, assigns}
use Rattle.vh_tree_equations.specs.Equations.{branch_keeps, branch_assigns, keeps-If, assigns-If, branch_keeps-Branch, branch_assigns-Branch}
use Rattle.vh_tree.specs.declared.expr.VExpr.{VExpr}
use Rattle.vh_tree.specs.declared.stmt.Test.{Test}
use Rattle.vh_tree.specs.declared.stmt.Branch.{Branch}
use Rattle.vh_tree.specs.declared.stmt.VStmt.{VStmt}
use Rattle.vh_tree.specs.declared.stmt.VStmt.TheVariants.{If}

each_true : {A : Type 0} (f : A → Bool) (xs : List A) → all_true (map f xs) ≡ list_all f xs
each_true f [] = refl
each_true f (x ∷ xs) = ap (λ b. f x && b) (each_true f xs)

one_true : {A : Type 0} (f : A → Bool) (xs : List A) → any_true (map f xs) ≡ list_any f xs
one_true f [] = refl
one_true f (x ∷ xs) = ap (λ b. f x || b) (one_true f xs)

module _ (a : Bytes → VExpr → Bool) (t : Test → Bool) where
  parts : (s : VStmt) (bs : List Branch) (os : List VStmt) → s ≡ If bs os → keeps a t s ≡ (list_all (branch_keeps a t) bs && list_all (keeps a t) os)
  parts s bs os is =
      ap (keeps a t) is ∙ keeps-If a t bs os ∙ ap (λ b. b && all_true (map (keeps a t) os)) (each_true (branch_keeps a t) bs) ∙ ap (λ b. list_all (branch_keeps a t) bs && b) (each_true (keeps a t) os)

  pub other_kept : (s : VStmt) (bs cs : List Branch) (os us : List VStmt) (p r : Bool) → s ≡ If bs os → cs ≡ bs → us ≡ os → p ≡ list_all (branch_keeps a t) cs → p ≡ true → r ≡ list_all (keeps a t) us → r ≡ keeps a t s
  other_kept s bs cs os us p r is c u h k e =
      e ∙ ap (list_all (keeps a t)) u
      ∙ sym (parts s bs os is ∙ ap (λ (b : Bool). b && list_all (keeps a t) os) (ap (list_all (branch_keeps a t)) (sym c) ∙ sym h ∙ k))

  pub branch_broken : (s : VStmt) (bs cs : List Branch) (os : List VStmt) (r : Bool) → s ≡ If bs os → cs ≡ bs → r ≡ list_all (branch_keeps a t) cs → r ≡ false → r ≡ keeps a t s
  branch_broken s bs cs os r is c h k =
      k ∙ sym (parts s bs os is ∙ ap (λ (b : Bool). b && list_all (keeps a t) os) (ap (list_all (branch_keeps a t)) (sym c) ∙ sym h ∙ k))

  pub branch_kept : (b : Branch) (ts : List Test) (ss : List VStmt) (p r : Bool) → ts ≡ b.tests → ss ≡ b.body → p ≡ list_all t ts → p ≡ true → r ≡ list_all (keeps a t) ss → r ≡ branch_keeps a t b
  branch_kept b ts ss p r c u h k e =
      e ∙ ap (list_all (keeps a t)) u
      ∙ sym (branch_keeps-Branch a t b ∙ ap (λ z. list_all t b.tests && z) (each_true (keeps a t) b.body) ∙ ap (λ (z : Bool). z && list_all (keeps a t) b.body) (ap (list_all t) (sym c) ∙ sym h ∙ k))

module _ (x : Bytes) where
  -- an `if` assigns by its branches and its `else`, and a branch by its statements
  pub ways : (s : VStmt) (bs : List Branch) (os : List VStmt) → s ≡ If bs os → assigns x s ≡ (list_any (branch_assigns x) bs || list_any (assigns x) os)
  ways s bs os is =
      ap (assigns x) is ∙ assigns-If x bs os ∙ ap (λ b. b || any_true (map (assigns x) os)) (one_true (branch_assigns x) bs) ∙ ap (λ b. list_any (branch_assigns x) bs || b) (one_true (assigns x) os)

  pub branch_ways : (b : Branch) → branch_assigns x b ≡ list_any (assigns x) b.body
  branch_ways b = branch_assigns-Branch x b ∙ one_true (assigns x) b.body
