-- The processes of a design that keeps the static rules write disjoint names.
use Rattle.std.proofs.Common.{◌≡◌, ℕ, ◌+◌, ◌≤◌, List, [], ◌∷◌, Bool, true, false, ◌&&◌, ◌==◌, inl, inr, cond, sym, subst, ◌∙◌, map, count_by, arith, eqb→eq, T}
use Rattle.std.specs.List.{list_all, list_any, AllByRecursion}
use Rattle.std.proofs.lemmas.List.Sums.{sum_by-cons}
use mathlib.Core.Bool.{true≢false}
use Rattle.vh_tree.specs.Bits.{Bytes, is_among}
use Rattle.vh_tree.specs.StaticRules.{keeps, assigns, drives, all_true, any_true, names_well, stmt_names_well, names_in_process, driven_names, process_names_well, test_keeps, are_distinct, heard_names}
use Rattle.vh_tree_equations.specs.Equations.{keeps-Assign, keeps-If, branch_keeps, branch_keeps-Branch, assigns-Assign, assigns-If, branch_assigns, branch_assigns-Branch}
use Rattle.vh_tree_equations.specs.Induction.{every_stmt}
use Rattle.vh_tree.specs.declared.expr.VExpr.{VExpr}
use Rattle.vh_tree.specs.declared.stmt.Test.{Test}
use Rattle.vh_tree.specs.declared.stmt.VStmt.{VStmt}
use Rattle.vh_tree.specs.declared.stmt.VStmt.TheVariants.{Assign, If}
use Rattle.vh_tree.specs.declared.stmt.Branch.{Branch}
use Rattle.vh_tree.specs.declared.process.Process.{Process}
use Rattle.vh_tree.specs.declared.design.Item.{Item}
use Rattle.vh_tree_laws.proofs.Comparisons.{both_left, both_right, either_cases, name_same, among_keeps}

-- what is assigned to keeps what each assignment keeps of its name
module _ (assignment : Bytes → VExpr → Bool) (test : Test → Bool) (good : Bytes → Bool) (tells : (x : Bytes) (e : VExpr) → assignment x e ≡ true → good x ≡ true) where
  abbrev Tells : VStmt → Type 0
  Tells s = keeps assignment test s ≡ true → (x : Bytes) → assigns x s ≡ true → good x ≡ true

  abbrev BranchTells : Branch → Type 0
  BranchTells b = branch_keeps assignment test b ≡ true → (x : Bytes) → branch_assigns x b ≡ true → good x ≡ true

  any_tells : {A : Type 0} (P : A → Bool) (Q : Bytes → A → Bool) (xs : List A) → AllByRecursion (λ a. P a ≡ true → (x : Bytes) → Q x a ≡ true → good x ≡ true) xs →
      all_true (map P xs) ≡ true → (x : Bytes) → any_true (map (Q x) xs) ≡ true → good x ≡ true
  any_tells P Q [] each k x a = absurd (true≢false (sym a))
  any_tells P Q (y ∷ ys) each k x a =
      elim (either_cases (Q x y) (any_true (map (Q x) ys)) a) [
        | inl h ↦ each.0 (both_left (P y) (all_true (map P ys)) k) x h
        | inr h ↦ any_tells P Q ys each.1 (both_right (P y) (all_true (map P ys)) k) x h
      ]

  assign_tells : (x : Bytes) (e : VExpr) → Tells (Assign x e)
  assign_tells x e k y a = subst (λ z. good z ≡ true) (sym (name_same y x (sym (assigns-Assign y x e) ∙ a))) (tells x e (sym (keeps-Assign assignment test x e) ∙ k))

  choice_tells : (bs : List Branch) (other : List VStmt) → AllByRecursion BranchTells bs → AllByRecursion Tells other → Tells (If bs other)
  choice_tells bs other each last k x a =
      let k' = sym (keeps-If assignment test bs other) ∙ k in
      elim (either_cases (any_true (map (branch_assigns x) bs)) (any_true (map (assigns x) other)) (sym (assigns-If x bs other) ∙ a)) [
        | inl h ↦ any_tells (branch_keeps assignment test) branch_assigns bs each (both_left (all_true (map (branch_keeps assignment test) bs)) (all_true (map (keeps assignment test) other)) k') x h
        | inr h ↦ any_tells (keeps assignment test) assigns other last (both_right (all_true (map (branch_keeps assignment test) bs)) (all_true (map (keeps assignment test) other)) k') x h
      ]

  branch_tells : (b : Branch) → AllByRecursion Tells b.body → BranchTells b
  branch_tells b each k x a =
      any_tells (keeps assignment test) assigns b.body each (both_right (list_all test b.tests) (all_true (map (keeps assignment test) b.body)) (sym (branch_keeps-Branch assignment test b) ∙ k)) x
      (sym (branch_assigns-Branch x b) ∙ a)

  pub stmt_tells : (s : VStmt) → Tells s
  stmt_tells = every_stmt Tells BranchTells (record { assign = assign_tells; choice = choice_tells; branch = branch_tells })

  pub body_tells : (body : List VStmt) → list_all (keeps assignment test) body ≡ true → (x : Bytes) → list_any (assigns x) body ≡ true → good x ≡ true
  body_tells [] k x a = absurd (true≢false (sym a))
  body_tells (s ∷ body) k x a =
      elim (either_cases (assigns x s) (list_any (assigns x) body) a) [
        | inl h ↦ stmt_tells s (both_left (keeps assignment test s) (list_all (keeps assignment test) body) k) x h
        | inr h ↦ body_tells body (both_right (keeps assignment test s) (list_all (keeps assignment test) body) k) x h
      ]

-- no name is driven by both
abbrev pub Apart : Process → Process → Type 0
Apart p q = (x : Bytes) → drives x p ≡ true → drives x q ≡ true → ⊥

-- each two of them
abbrev pub AllApart : List Process → Type 0
AllApart [] = Unit {0}
AllApart (p ∷ ps) = AllByRecursion (Apart p) ps × AllApart ps

count_cons : (x : Bytes) (p : Process) (ps : List Process) → count_by (drives x) (p ∷ ps) ≡ cond (drives x p) 1 0 + count_by (drives x) ps
count_cons x p ps = sum_by-cons (λ q. cond (drives x q) 1 0) p ps

one_more : (b : Bool) (m n : ℕ) → m ≡ cond b 1 0 + n → b ≡ true → m ≡ n + 1
one_more true m n e h = omega arith
one_more false m n e h = absurd (true≢false (sym h))

at_least : (b : Bool) (m n : ℕ) → m ≡ cond b 1 0 + n → n ≤ m
at_least true m n e = omega arith
at_least false m n e = omega arith

apart_from : (p : Process) (qs : List Process) → ((x : Bytes) → drives x p ≡ true → count_by (drives x) qs ≡ 0) → AllByRecursion (Apart p) qs
apart_from p [] none = tt
apart_from p (q ∷ qs) none = (
  λ x a b. absurd (let e = one_more (drives x q) _ _ (count_cons x q qs) b in let z = none x a in omega arith),
  apart_from p qs (λ x a. let z = none x a in let e = at_least (drives x q) _ _ (count_cons x q qs) in omega arith),
)

all_apart : (names : List Bytes) (ps : List Process) → AllByRecursion (λ p. (x : Bytes) → drives x p ≡ true → is_among x names ≡ true) ps →
    ((x : Bytes) → is_among x names ≡ true → count_by (drives x) ps ≤ 1) → AllApart ps
all_apart names [] each once = tt
all_apart names (p ∷ ps) each once = (
  apart_from p ps (λ x a. let z = once x (each.0 x a) in let e = one_more (drives x p) _ _ (count_cons x p ps) a in omega arith),
  all_apart names ps each.1 (λ x a. let z = once x a in let e = at_least (drives x p) _ _ (count_cons x p ps) in omega arith),
)

body_named : (items : List Item) (p : Process) → process_names_well items p ≡ true → list_all (stmt_names_well (names_in_process items) (λ x. is_among x (driven_names items)) true) p.body ≡ true
body_named items p k =
    let body = list_all (stmt_names_well (names_in_process items) (λ x. is_among x (driven_names items)) true) p.body in
    both_right (list_all (λ x. is_among x (heard_names items)) p.sensitive && are_distinct p.sensitive) body k

process_tells : (items : List Item) (p : Process) → process_names_well items p ≡ true → (x : Bytes) → drives x p ≡ true → is_among x (driven_names items) ≡ true
process_tells items p k =
    body_tells (λ x e. is_among x (driven_names items) && names_well (names_in_process items) e) (test_keeps (λ e bits. names_well (names_in_process items) e) true) (λ x. is_among x (driven_names items))
    (λ x e h. both_left (is_among x (driven_names items)) (names_well (names_in_process items) e) h) p.body (body_named items p k)

processes_tell : (items : List Item) (ps : List Process) → list_all (process_names_well items) ps ≡ true → AllByRecursion (λ p. (x : Bytes) → drives x p ≡ true → is_among x (driven_names items) ≡ true) ps
processes_tell items [] k = tt
processes_tell items (p ∷ ps) k = (
  process_tells items p (both_left (process_names_well items p) (list_all (process_names_well items) ps) k),
  processes_tell items ps (both_right (process_names_well items p) (list_all (process_names_well items) ps) k),
)

pub driven_apart : (items : List Item) (ps : List Process) → list_all (process_names_well items) ps ≡ true → list_all (λ x. count_by (drives x) ps == 1) (driven_names items) ≡ true → AllApart ps
driven_apart items ps names drivers =
    all_apart (driven_names items) ps (processes_tell items ps names)
    (λ x a. let e : count_by (drives x) ps ≡ 1 = eqb→eq (count_by (drives x) ps) 1 (subst T (sym (among_keeps (λ y. count_by (drives y) ps == 1) x (driven_names items) drivers a)) tt) in omega arith)
