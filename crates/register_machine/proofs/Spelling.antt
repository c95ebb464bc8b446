-- The design of a machine can be spelled.
use Rattle.std.proofs.Common.{◌≢◌, ℕ, zero, suc, ◌+◌, ◌^◌, ◌<◌, ◌≤◌, List, [], ◌∷◌, length, refl, ap, sym, subst, arith, ⊎_elim}
use Rattle.std.specs.Prelude.{codes}
use Rattle.std.proofs.lemmas.Bool.{cases_lt}
use Rattle.vh_tree.specs.Bits.{Bytes}
use Rattle.vh_tree.specs.Grammar.{max_levels}
use Rattle.vh_tree.specs.Spellable as f
use Rattle.rw_base.specs.declared.bit.Bit9.TheVariants.{Zero}
use Rattle.vh_tree.specs.declared.token.Side.{Side}
use Rattle.vh_tree.specs.declared.token.Side.TheVariants as side
use Rattle.vh_tree.specs.declared.expr.VExpr.{VExpr}
use Rattle.vh_tree.specs.declared.expr.VExpr.TheVariants.{Name, Slice, Literal, Call}
use Rattle.vh_tree.specs.declared.stmt.Test.TheVariants.{Equal, Rising, Reset}
use Rattle.vh_tree.specs.declared.stmt.VStmt.{VStmt}
use Rattle.vh_tree.specs.declared.stmt.VStmt.TheVariants.{Assign}
use Rattle.register_machine.specs.Codes.{code, code_width}
use Rattle.register_machine.specs.Machine.{IsMachine, shown_in, next_of}
use Rattle.register_machine.specs.Decision.{either, decide}
use Rattle.register_machine.specs.OneRegister.{clocked, showing}
use Rattle.register_machine.specs.Design.{coded, copied, code_assigned, decide_code, input_decision, next_body, shown_body, next_function, shown_function, next_call, shown_call, machine_items, machine_design}
use Rattle.register_machine.specs.declared.machine.Machine.{Machine}
use Rattle.register_machine.proofs.Numbers.{decide-both, decide-low}
use Rattle.register_machine.proofs.Choices.{length-number_bits}
use Rattle.register_machine.proofs.Static.{code_width-most}

-- ---- names
-- a short name is not the library's
short_other : (x : Bytes) → length x < 14 → x ≢ codes "std_logic_1164"
short_other x h = λ e. let same = ap length e in omega arith

v0 : f.IdFits (codes "v0")
v0 = record { begins = refl; word = refl; low = refl; digit = refl; single = refl; other = short_other (codes "v0") (omega arith) }

v1 : f.IdFits (codes "v1")
v1 = record { begins = refl; word = refl; low = refl; digit = refl; single = refl; other = short_other (codes "v1") (omega arith) }

v2 : f.IdFits (codes "v2")
v2 = record { begins = refl; word = refl; low = refl; digit = refl; single = refl; other = short_other (codes "v2") (omega arith) }

p0 : f.IdFits (codes "p0")
p0 = record { begins = refl; word = refl; low = refl; digit = refl; single = refl; other = short_other (codes "p0") (omega arith) }

p1 : f.IdFits (codes "p1")
p1 = record { begins = refl; word = refl; low = refl; digit = refl; single = refl; other = short_other (codes "p1") (omega arith) }

f0 : f.IdFits (codes "f0")
f0 = record { begins = refl; word = refl; low = refl; digit = refl; single = refl; other = short_other (codes "f0") (omega arith) }

f1 : f.IdFits (codes "f1")
f1 = record { begins = refl; word = refl; low = refl; digit = refl; single = refl; other = short_other (codes "f1") (omega arith) }

s0 : f.IdFits (codes "s0")
s0 = record { begins = refl; word = refl; low = refl; digit = refl; single = refl; other = short_other (codes "s0") (omega arith) }

-- a list of one is not empty
one : 0 < 1
one = omega arith

-- ---- expressions
module _ (Args : List VExpr → Type 0) where
  named : (x : Bytes) → f.NameFits x → f.ExprFits Args (Name x)
  named x h = f.ExprFits.a_term (Name x) (f.TermFits.a_ref (Name x) (f.RefFits.a_name x h))

  spelled_code : (n k : ℕ) → f.ExprFits Args (Literal (code n k))
  spelled_code n k =
      let long = length-number_bits (code_width n) k in
      f.ExprFits.a_term (Literal (code n k)) (f.TermFits.a_literal (code n k) (omega (arith, long)))

  called : (x : Bytes) (es : List VExpr) → f.IdFits x → Args es → f.ExprFits Args (Call x es)
  called x es h args = f.ExprFits.a_term (Call x es) (f.TermFits.a_ref (Call x es) (f.RefFits.a_call x es h args))

-- ---- decisions
module _ (at : Side) where
  -- statements fit with any levels from so many on
  abbrev FitFrom : ℕ → List VStmt → Type 0
  FitFrom least body = (levels : ℕ) → least ≤ levels → f.StmtsFit at levels body

  either_fits : (x : Bytes) (k levels : ℕ) (low high : List VStmt) → f.IdFits x → k < 2 ^ 31 → f.StmtsFit at levels low → f.StmtsFit at levels high → f.StmtsFit at (suc levels) (either x k low high)
  either_fits x k levels low high id small l h =
      let bit = f.TestFits.equal (Slice x k k) (Zero ∷ []) (f.RefFits.a_slice x k k (f.NameFits.an_id x id) small small) one in
      let branch = f.BranchFits.a_branch (Equal (Slice x k k) (Zero ∷ []) ∷ []) low (one, (bit, tt)) l in
      (f.StmtFits.an_if _ high ((one, (branch, tt)), h), tt)

  decide_fits : (x : Bytes) (n k base least levels : ℕ) (leaf : ℕ → List VStmt) → f.IdFits x → base < n → k < 2 ^ 31 → k + least ≤ levels
      → ((j : ℕ) → j < n → FitFrom least (leaf j)) → f.StmtsFit at levels (decide x n k base leaf)
  decide_fits x n zero base least levels leaf id within small enough leaves = leaves base within levels (omega arith)
  decide_fits x n (suc k) base least zero leaf id within small enough leaves = absurd (omega arith)
  decide_fits x n (suc k) base least (suc levels) leaf id within small enough leaves = ⊎_elim
      (λ (both : base + 2 ^ k < n). subst (f.StmtsFit at (suc levels)) (sym (decide-both x n (suc k) k base leaf refl both))
      (either_fits x k levels (decide x n k base leaf) (decide x n k (base + 2 ^ k) leaf) id (omega arith)
      (decide_fits x n k base least levels leaf id within (omega arith) (omega arith) leaves) (decide_fits x n k (base + 2 ^ k) least levels leaf id both (omega arith) (omega arith) leaves)))
      (λ (only : n ≤ base + 2 ^ k). subst (f.StmtsFit at (suc levels)) (sym (decide-low x n (suc k) k base leaf refl only))
      (decide_fits x n k base least (suc levels) leaf id within (omega arith) (omega arith) leaves))
      (cases_lt (base + 2 ^ k) n)

  -- the decision on the code of a number
  decide_code_fits : (x : Bytes) (n least levels : ℕ) (leaf : ℕ → List VStmt) → f.IdFits x → 0 < n → n < 2 ^ 32 → 32 + least ≤ levels
      → ((j : ℕ) → j < n → FitFrom least (leaf j)) → f.StmtsFit at levels (decide_code x n leaf)
  decide_code_fits x n least levels leaf id some few enough leaves =
      let most = code_width-most n few in
      decide_fits x n (code_width n) 0 least levels leaf id some (omega arith) (omega arith) leaves

  code_assigned_fits : (x : Bytes) (n k : ℕ) → f.IdFits x → FitFrom 0 (code_assigned x n k)
  code_assigned_fits x n k id = λ levels enough.
      (f.StmtFits.an_assignment x (Literal (code n k)) (f.TargetFits.an_id at x id) (spelled_code (f.ArgsFit levels) n k), tt)

-- ---- declarations
width_fits : (n : ℕ) → n < 2 ^ 32 → f.WidthFits (code_width n)
width_fits n few = let most = code_width-most n few in (omega arith, omega arith)

coded_fits : (x : Bytes) (n : ℕ) → f.IdFits x → n < 2 ^ 32 → f.VarFits (coded x n)
coded_fits x n id few = record { name = id; width = width_fits n few }

copied_fits : (x y : Bytes) (levels : ℕ) → f.IdFits x → f.IdFits y → f.StmtFits side.Function (f.ArgsFit levels) (f.ChoiceFits side.Function levels) (copied x y)
copied_fits x y levels a b = f.StmtFits.an_assignment x (Name y) (f.TargetFits.an_id side.Function x a) (named (f.ArgsFit levels) y (f.NameFits.an_id y b))

module _ (m : Machine) (is : IsMachine m) where
  abbrev states : ℕ
  states = length m.states

  some_states : 0 < states
  some_states = let h = is.reset in omega arith

  next_of_state_fits : (s : ℕ) → FitFrom side.Function 32 (input_decision m s)
  next_of_state_fits s = λ levels enough.
      decide_code_fits side.Function (codes "v0") m.inputs 0 levels (λ i. code_assigned (codes "v2") states (next_of m s i)) v0 is.some_inputs is.few_inputs (omega arith)
      (λ i h. code_assigned_fits side.Function (codes "v2") states (next_of m s i) v2)

  next_body_fits : (levels : ℕ) → 64 ≤ levels → f.StmtsFit side.Function levels (next_body m)
  next_body_fits levels enough = (
    copied_fits (codes "v0") (codes "p0") levels v0 p0,
    (
      copied_fits (codes "v1") (codes "p1") levels v1 p1,
      decide_code_fits side.Function (codes "v1") states 32 levels (input_decision m) v1 some_states is.few_states (omega arith) (λ s h. next_of_state_fits s),
    ),
  )

  shown_body_fits : (levels : ℕ) → 64 ≤ levels → f.StmtsFit side.Function levels (shown_body m)
  shown_body_fits levels enough = (
    copied_fits (codes "v0") (codes "p0") levels v0 p0,
    decide_code_fits side.Function (codes "v0") states 0 levels (λ s. code_assigned (codes "v1") m.outputs (shown_in m s)) v0 some_states is.few_states (omega arith)
        (λ s h. code_assigned_fits side.Function (codes "v1") m.outputs (shown_in m s) v1),
  )

  next_function_fits : (levels : ℕ) → 64 ≤ levels → f.FunctionFits levels (next_function m)
  next_function_fits levels enough = record {
    name = f0;
    params = (p0, (p1, tt));
    vars = (coded_fits (codes "v0") m.inputs v0 is.few_inputs, (coded_fits (codes "v1") states v1 is.few_states, (coded_fits (codes "v2") states v2 is.few_states, tt)));
    body = next_body_fits levels enough;
    result = named (f.ArgsFit levels) (codes "v2") (f.NameFits.an_id (codes "v2") v2);
  }

  shown_function_fits : (levels : ℕ) → 64 ≤ levels → f.FunctionFits levels (shown_function m)
  shown_function_fits levels enough = record {
    name = f1;
    params = (p0, tt);
    vars = (coded_fits (codes "v0") states v0 is.few_states, (coded_fits (codes "v1") m.outputs v1 is.few_outputs, tt));
    body = shown_body_fits levels enough;
    result = named (f.ArgsFit levels) (codes "v1") (f.NameFits.an_id (codes "v1") v1);
  }

  items_fit : (levels : ℕ) → 64 ≤ levels → f.Each (f.ItemFits levels) (machine_items m)
  items_fit levels enough = (
    f.ItemFits.a_signal (coded (codes "s0") states) (coded_fits (codes "s0") states s0 is.few_states),
    (f.ItemFits.a_function (next_function m) (next_function_fits levels enough), (f.ItemFits.a_function (shown_function m) (shown_function_fits levels enough), tt)),
  )

  -- ---- processes, with three levels below
  state_name : (Args : List VExpr → Type 0) → f.ExprFits Args (Name (codes "s0"))
  state_name Args = named Args (codes "s0") (f.NameFits.an_id (codes "s0") s0)

  next_call_fits : (levels : ℕ) → f.ExprFits (f.ArgsFit (suc levels)) next_call
  next_call_fits levels =
      called (f.ArgsFit (suc levels)) (codes "f0") (Name (codes "inp") ∷ Name (codes "s0") ∷ []) f0
      (omega arith, (named (f.ArgsFit levels) (codes "inp") f.NameFits.the_input, (state_name (f.ArgsFit levels), tt)))

  shown_call_fits : (levels : ℕ) → f.ExprFits (f.ArgsFit (suc levels)) shown_call
  shown_call_fits levels = called (f.ArgsFit (suc levels)) (codes "f1") (Name (codes "s0") ∷ []) f1 (one, (state_name (f.ArgsFit levels), tt))

  to_state : (levels : ℕ) (e : VExpr) → f.ExprFits (f.ArgsFit levels) e → f.StmtsFit side.Process levels (Assign (codes "s0") e ∷ [])
  to_state levels e h = (f.StmtFits.an_assignment (codes "s0") e (f.TargetFits.an_id side.Process (codes "s0") s0) h, tt)

  clocked_fits : (levels : ℕ) → f.ProcessFits (suc (suc (suc levels))) (clocked (code states m.reset) next_call)
  clocked_fits levels =
      let restart = to_state (suc levels) (Literal (code states m.reset)) (spelled_code (f.ArgsFit (suc levels)) states m.reset) in
      let step = to_state (suc levels) next_call (next_call_fits levels) in
      let inner = f.BranchFits.a_branch (Reset ∷ []) _ (one, (f.TestFits.reset, tt)) restart in
      let choice = f.StmtFits.an_if _ _ ((one, (inner, tt)), step) in
      let outer = f.BranchFits.a_branch (Rising ∷ []) _ (one, (f.TestFits.rising, tt)) (choice, tt) in
      record {
        sensitive = (one, (f.SensitiveFits.the_clock, tt));
        body = (f.StmtFits.an_if _ [] ((one, (outer, tt)), tt), tt);
      }

  showing_fits : (levels : ℕ) → f.ProcessFits (suc levels) (showing shown_call)
  showing_fits levels = record {
    sensitive = (one, (f.SensitiveFits.an_id (codes "s0") s0, tt));
    body = (f.StmtFits.an_assignment (codes "outp") shown_call (f.TargetFits.the_output) (shown_call_fits levels), tt);
  }

  processes_fit : (levels : ℕ) → f.Each (f.ProcessFits (suc (suc (suc levels)))) (machine_design m).processes
  processes_fit levels = (clocked_fits levels, (showing_fits (suc (suc levels)), tt))

  pub is_spellable : f.IsSpellable (machine_design m)
  is_spellable = record {
    inp = width_fits m.inputs is.few_inputs;
    outp = width_fits m.outputs is.few_outputs;
    items = items_fit max_levels (omega arith);
    processes = processes_fit 4093;
  }
