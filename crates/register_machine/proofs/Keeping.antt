-- Rules on assignments and tests, over decisions, functions and processes.
use Rattle.std.proofs.Common.{◌≡◌, ℕ, zero, suc, ◌+◌, ◌^◌, ◌<◌, ◌≤◌, List, [], ◌∷◌, length, map, refl, ap, Bool, true, false, ◌∙◌, arith, ⊎_elim}
use Rattle.std.specs.Prelude.{◌&&◌, codes}
use Rattle.std.specs.List.{list_all}
use Rattle.std.proofs.lemmas.Bool.{cases_lt}
use Rattle.std.proofs.lemmas.List.Folds.{list_all-map}
use Rattle.vh_tree.specs.Bits.{Bytes, Bits}
use Rattle.vh_tree.specs.StaticRules.{keeps, all_true}
use Rattle.vh_tree_equations.specs.Equations.{keeps-Assign, keeps-If, branch_keeps-Branch}
use Rattle.rw_base.specs.declared.bit.Bit9.TheVariants.{Zero}
use Rattle.vh_tree.specs.declared.expr.VExpr.{VExpr}
use Rattle.vh_tree.specs.declared.expr.VExpr.TheVariants.{Name, Slice, Literal}
use Rattle.vh_tree.specs.declared.stmt.Test.{Test}
use Rattle.vh_tree.specs.declared.stmt.Test.TheVariants.{Equal, Rising, Reset}
use Rattle.vh_tree.specs.declared.stmt.VStmt.{VStmt}
use Rattle.register_machine.specs.Codes.{code, code_width}
use Rattle.register_machine.specs.Machine.{IsMachine, shown_in, next_of}
use Rattle.register_machine.specs.Decision.{either, decide}
use Rattle.register_machine.specs.OneRegister.{clocked, showing}
use Rattle.register_machine.specs.Design.{copied, code_assigned, decide_code, input_decision, next_body, shown_body}
use Rattle.register_machine.specs.declared.machine.Machine.{Machine}
use Rattle.register_machine.proofs.Numbers.{decide-both, decide-low}

pub and_both : (a b : Bool) → a ≡ true → b ≡ true → (a && b) ≡ true
and_both true b e f = f
and_both false b e f = e

module _ (assignment : Bytes → VExpr → Bool) (test : Test → Bool) where
  abbrev all_keep : List VStmt → Type 0
  all_keep body = list_all (keeps assignment test) body ≡ true

  all_kept : (body : List VStmt) → all_keep body → all_true (map (keeps assignment test) body) ≡ true
  all_kept body h = list_all-map (λ b. b) (keeps assignment test) body ∙ h

  -- the test of one bit
  abbrev bit_test : Bytes → ℕ → Test
  bit_test x k = Equal (Slice x k k) (Zero ∷ [])

  either_keeps : (x : Bytes) (k : ℕ) (low high : List VStmt) → test (bit_test x k) ≡ true → all_keep low → all_keep high → all_keep (either x k low high)
  either_keeps x k low high t l h =
      let kept_low = all_kept low l in
      let kept_high = all_kept high h in
      rw (keeps-If, branch_keeps-Branch, t, kept_low, kept_high) refl

  -- a decision keeps what its tests and its leaves keep
  decide_keeps : (x : Bytes) (n k base : ℕ) (leaf : ℕ → List VStmt) → base < n → ((j : ℕ) → j < k → test (bit_test x j) ≡ true) → ((j : ℕ) → j < n → all_keep (leaf j)) →
      all_keep (decide x n k base leaf)
  decide_keeps x n zero base leaf within tests leaves = leaves base within
  decide_keeps x n (suc k) base leaf within tests leaves =
      let fewer : (j : ℕ) → j < k → test (bit_test x j) ≡ true = λ j h. tests j (omega arith) in
      let low : all_keep (decide x n k base leaf) = decide_keeps x n k base leaf within fewer leaves in
      ⊎_elim
      (λ (both : base + 2 ^ k < n). ap (list_all (keeps assignment test)) (decide-both x n (suc k) k base leaf refl both)
      ∙ either_keeps x k (decide x n k base leaf) (decide x n k (base + 2 ^ k) leaf) (tests k (omega arith)) low (decide_keeps x n k (base + 2 ^ k) leaf both fewer leaves))
      (λ (only : n ≤ base + 2 ^ k). ap (list_all (keeps assignment test)) (decide-low x n (suc k) k base leaf refl only) ∙ low)
      (cases_lt (base + 2 ^ k) n)

  -- the tests of the bits of a code
  abbrev tests_keep : Bytes → ℕ → Type 0
  tests_keep x n = (j : ℕ) → j < code_width n → test (bit_test x j) ≡ true

  code_assigned_keeps : (target : Bytes) (n k : ℕ) → assignment target (Literal (code n k)) ≡ true → all_keep (code_assigned target n k)
  code_assigned_keeps target n k h = rw (keeps-Assign, h) refl

  copied_keeps : (target source : Bytes) → assignment target (Name source) ≡ true → keeps assignment test (copied target source) ≡ true
  copied_keeps target source h = rw (keeps-Assign, h) refl

  module _ (m : Machine) (is : IsMachine m) where
    some_states : 0 < length m.states
    some_states = let h = is.reset in omega arith

    -- the decisions of the two functions
    pub next_decision_keeps : tests_keep (codes "v1") (length m.states) → tests_keep (codes "v0") m.inputs → ((k : ℕ) → assignment (codes "v2") (Literal (code (length m.states) k)) ≡ true) →
        all_keep (decide_code (codes "v1") (length m.states) (input_decision m))
    next_decision_keeps states inputs leaves =
        decide_keeps (codes "v1") (length m.states) (code_width (length m.states)) 0 (input_decision m) some_states states
        (λ s h. decide_keeps (codes "v0") m.inputs (code_width m.inputs) 0 (λ i. code_assigned (codes "v2") (length m.states) (next_of m s i)) is.some_inputs inputs
        (λ i g. code_assigned_keeps (codes "v2") (length m.states) (next_of m s i) (leaves (next_of m s i))))

    pub shown_decision_keeps : tests_keep (codes "v0") (length m.states) → ((k : ℕ) → assignment (codes "v1") (Literal (code m.outputs k)) ≡ true) →
        all_keep (decide_code (codes "v0") (length m.states) (λ s. code_assigned (codes "v1") m.outputs (shown_in m s)))
    shown_decision_keeps states leaves =
        decide_keeps (codes "v0") (length m.states) (code_width (length m.states)) 0 (λ s. code_assigned (codes "v1") m.outputs (shown_in m s)) some_states states
        (λ s h. code_assigned_keeps (codes "v1") m.outputs (shown_in m s) (leaves (shown_in m s)))

    -- and their bodies
    pub next_body_keeps : assignment (codes "v0") (Name (codes "p0")) ≡ true → assignment (codes "v1") (Name (codes "p1")) ≡ true →
        tests_keep (codes "v1") (length m.states) → tests_keep (codes "v0") m.inputs → ((k : ℕ) → assignment (codes "v2") (Literal (code (length m.states) k)) ≡ true) → all_keep (next_body m)
    next_body_keeps first second states inputs leaves =
        and_both _ _ (copied_keeps (codes "v0") (codes "p0") first) (and_both _ _ (copied_keeps (codes "v1") (codes "p1") second) (next_decision_keeps states inputs leaves))

    pub shown_body_keeps : assignment (codes "v0") (Name (codes "p0")) ≡ true →
        tests_keep (codes "v0") (length m.states) → ((k : ℕ) → assignment (codes "v1") (Literal (code m.outputs k)) ≡ true) → all_keep (shown_body m)
    shown_body_keeps first states leaves = and_both _ _ (copied_keeps (codes "v0") (codes "p0") first) (shown_decision_keeps states leaves)

  -- the two processes
  pub clocked_keeps : (reset : Bits) (next : VExpr) → test Rising ≡ true → test Reset ≡ true → assignment (codes "s0") (Literal reset) ≡ true → assignment (codes "s0") next ≡ true →
      all_keep (clocked reset next).body
  clocked_keeps reset next a b c d = rw (keeps-If, branch_keeps-Branch, keeps-If, branch_keeps-Branch, keeps-Assign, keeps-Assign, a, b, c, d) refl

  pub showing_keeps : (shown : VExpr) → assignment (codes "outp") shown ≡ true → all_keep (showing shown).body
  showing_keeps shown a = rw (keeps-Assign, a) refl
