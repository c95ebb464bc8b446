-- In a process, behind all functions, each may be used.
use Rattle.std.proofs.Common.{◌≡◌, List, [], ◌∷◌, map, Bool, true, refl, ◌∙◌}
use Rattle.std.specs.List.{list_all, AllByRecursion}
use Rattle.vh_tree.specs.Bits.{Bytes}
use Rattle.vh_tree.specs.StaticRules.{all_true, keeps, test_keeps, uses_earlier, stmt_uses_earlier}
use Rattle.vh_tree_equations.specs.Equations.{uses_earlier-Name, uses_earlier-Slice, uses_earlier-Literal, uses_earlier-Call, uses_earlier-Join, keeps-Assign, keeps-If, branch_keeps, branch_keeps-Branch}
use Rattle.vh_tree_equations.specs.Induction.{every_expr, every_stmt}
use Rattle.vh_tree.specs.declared.expr.VExpr.{VExpr}
use Rattle.vh_tree.specs.declared.stmt.Test.{Test}
use Rattle.vh_tree.specs.declared.stmt.Test.TheVariants.{Equal, Rising, Reset}
use Rattle.vh_tree.specs.declared.stmt.VStmt.{VStmt}
use Rattle.vh_tree_laws.proofs.Comparisons.{both_so}

abbrev pub any : Bytes → Bool
any x = true

each_so : {A : Type 0} (p : A → Bool) (xs : List A) → AllByRecursion (λ x. p x ≡ true) xs → all_true (map p xs) ≡ true
each_so p [] each = refl
each_so p (x ∷ xs) each = both_so (p x) (all_true (map p xs)) each.0 (each_so p xs each.1)

all_so : {A : Type 0} (p : A → Bool) → ((x : A) → p x ≡ true) → (xs : List A) → list_all p xs ≡ true
all_so p h [] = refl
all_so p h (x ∷ xs) = both_so (p x) (list_all p xs) (h x) (all_so p h xs)

expr_usable : (e : VExpr) → uses_earlier any e ≡ true
expr_usable = every_expr (λ e. uses_earlier any e ≡ true) (record {
  name = λ x. uses_earlier-Name any x;
  slice = λ x a b. uses_earlier-Slice any x a b;
  literal = λ bits. uses_earlier-Literal any bits;
  call = λ f args each. uses_earlier-Call any f args ∙ each_so (uses_earlier any) args each;
  join = λ parts each. uses_earlier-Join any parts ∙ each_so (uses_earlier any) parts each;
})

abbrev early : Bytes → VExpr → Bool
early x e = uses_earlier any e

abbrev early_test : Test → Bool
early_test = test_keeps (λ e bits. uses_earlier any e) true

test_usable : (t : Test) → early_test t ≡ true
test_usable (Equal e bits) = expr_usable e
test_usable Rising = refl
test_usable Reset = refl

stmt_usable : (s : VStmt) → stmt_uses_earlier any s ≡ true
stmt_usable = every_stmt (λ s. keeps early early_test s ≡ true) (λ b. branch_keeps early early_test b ≡ true) (record {
  assign = λ x e. keeps-Assign early early_test x e ∙ expr_usable e;
  choice = λ branches other each last.
      keeps-If early early_test branches other ∙ both_so (all_true (map (branch_keeps early early_test) branches)) (all_true (map (keeps early early_test) other))
      (each_so (branch_keeps early early_test) branches each) (each_so (keeps early early_test) other last);
  branch = λ b each.
      branch_keeps-Branch early early_test b ∙ both_so (list_all early_test b.tests) (all_true (map (keeps early early_test) b.body)) (all_so early_test test_usable b.tests)
      (each_so (keeps early early_test) b.body each);
})

pub all_usable : (body : List VStmt) → list_all (stmt_uses_earlier any) body ≡ true
all_usable = all_so (stmt_uses_earlier any) stmt_usable
