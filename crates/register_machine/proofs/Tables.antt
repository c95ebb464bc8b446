-- The two functions of a machine give the entries that their arguments name.
use Rattle.std.proofs.Common.{◌≡◌, ℕ, zero, suc, ◌+◌, ◌^◌, ◌<◌, ◌≤◌, List, [], ◌∷◌, length, refl, ap, subst, map, ◌∙◌, replicate, arith, All}
use Rattle.std.specs.Prelude.{codes}
use Rattle.std.proofs.Math.Nat.{pow-le-pow_right}
use Rattle.vh_tree.specs.Bits.{Bytes, Bits}
use Rattle.vh_tree.specs.Functions.{Calls, Store, World, held, expr_of, stmt_of, stmts_of, scope_in, value_in, function_world, function_value, calls_of}
use Rattle.vh_tree.specs.Bench.{BenchInEveryOrder}
use Rattle.vh_tree_equations.specs.Equations.{expr_of-Name, expr_of-Literal, expr_of-Call, stmt_of-Assign}
use Rattle.rw_core.specs.Bits.{tag_width}
use Rattle.rw_core.specs.TagWidths.{tag_width-enough}
use Rattle.rw_base.specs.declared.bit.Bit9.TheVariants.{U}
use Rattle.vh_tree.specs.declared.stmt.VStmt.{VStmt}
use Rattle.register_machine.specs.Codes.{code, code_width}
use Rattle.register_machine.specs.Machine.{IsMachine, shown_in, next_of, outputs_from, machine_outputs}
use Rattle.register_machine.specs.OneRegister.{Computes, register_outputs}
use Rattle.register_machine.specs.Design.{copied, code_assigned, decide_code, input_decision, next_function, shown_function, next_call, shown_call, machine_items, register_of, machine_design}
use Rattle.register_machine.specs.declared.machine.Machine.{Machine}
use Rattle.register_machine.proofs.Choices.{decides}
use Rattle.register_machine.proofs.Registers.{register_reads}

-- each of n numbers has a code of its own
pub below_power : (n k : ℕ) → k < n → k < 2 ^ code_width n
below_power n k h =
    let grows : 2 ^ tag_width n ≤ 2 ^ code_width n = pow-le-pow_right (omega arith) (omega arith) in
    omega (arith, tag_width-enough n)

module _ (S : Type 0) where
  -- a decision by the codes of n numbers takes the statements of the number whose code is there
  decides_code : (w : World S) (x : Bytes) (s : S) (n k : ℕ) (leaf : ℕ → List VStmt) → k < n → (w.scope s).value x ≡ code n k →
      stmts_of S (decide_code x n leaf) w s ≡ stmts_of S (leaf k) w s
  decides_code w x s n k leaf h e =
      decides S w x s n (code_width n) 0 k leaf [] (below_power n k h) (omega arith) e ∙ ap (λ (j : ℕ). stmts_of S (leaf j) w s) (let same : 0 + k ≡ k = omega arith in same)

module _ (calls : Calls) where
  abbrev two : Bits → Bits → Bits → Bits → Bits → Store
  two x y v0 v1 v2 = held (codes "p0") x ∷ held (codes "p1") y ∷ held (codes "v0") v0 ∷ held (codes "v1") v1 ∷ held (codes "v2") v2 ∷ []

  first_taken : (x y v0 v1 v2 : Bits) → stmt_of Store (copied (codes "v0") (codes "p0")) (function_world calls) (two x y v0 v1 v2) ≡ two x y x v1 v2
  first_taken x y v0 v1 v2 = rw (stmt_of-Assign, expr_of-Name) refl

  second_taken : (x y v0 v1 v2 : Bits) → stmt_of Store (copied (codes "v1") (codes "p1")) (function_world calls) (two x y v0 v1 v2) ≡ two x y v0 y v2
  second_taken x y v0 v1 v2 = rw (stmt_of-Assign, expr_of-Name) refl

  third_taken : (n k : ℕ) (x y v0 v1 v2 : Bits) → stmts_of Store (code_assigned (codes "v2") n k) (function_world calls) (two x y v0 v1 v2) ≡ two x y v0 v1 (code n k)
  third_taken n k x y v0 v1 v2 = rw (stmt_of-Assign, expr_of-Literal) refl

  both_taken : (x y v0 v1 v2 : Bits) (rest : List VStmt) →
      stmts_of Store (copied (codes "v0") (codes "p0") ∷ copied (codes "v1") (codes "p1") ∷ rest) (function_world calls) (two x y v0 v1 v2)
      ≡ stmts_of Store rest (function_world calls) (two x y x y v2)
  both_taken x y v0 v1 v2 rest =
      ap (λ (s : Store). stmts_of Store (copied (codes "v1") (codes "p1") ∷ rest) (function_world calls) s) (first_taken x y v0 v1 v2)
      ∙ ap (λ (s : Store). stmts_of Store rest (function_world calls) s) (second_taken x y x v1 v2)

  next_decided : (m : Machine) (i s : ℕ) (v2 : Bits) → i < m.inputs → s < length m.states →
      stmts_of Store (decide_code (codes "v1") (length m.states) (input_decision m)) (function_world calls) (two (code m.inputs i) (code (length m.states) s) (code m.inputs i) (code (length m.states) s) v2)
      ≡ two (code m.inputs i) (code (length m.states) s) (code m.inputs i) (code (length m.states) s) (code (length m.states) (next_of m s i))
  next_decided m i s v2 p q =
      let store : Store = two (code m.inputs i) (code (length m.states) s) (code m.inputs i) (code (length m.states) s) v2 in
      decides_code Store (function_world calls) (codes "v1") store (length m.states) s (input_decision m) q refl
      ∙ decides_code Store (function_world calls) (codes "v0") store m.inputs i (λ j. code_assigned (codes "v2") (length m.states) (next_of m s j)) p refl
      ∙ third_taken (length m.states) (next_of m s i) (code m.inputs i) (code (length m.states) s) (code m.inputs i) (code (length m.states) s) v2

  -- the next state
  pub next_function-value : (m : Machine) (i s : ℕ) → i < m.inputs → s < length m.states →
      function_value calls (next_function m) (code m.inputs i ∷ code (length m.states) s ∷ []) ≡ code (length m.states) (next_of m s i)
  next_function-value m i s p q =
      let unset : ℕ → Bits = λ n. replicate (code_width n) U in
      expr_of-Name (codes "v2") _
      ∙ ap (λ (t : Store). value_in t calls (codes "v2"))
      (both_taken (code m.inputs i) (code (length m.states) s) (unset m.inputs) (unset (length m.states)) (unset (length m.states)) (decide_code (codes "v1") (length m.states) (input_decision m))
      ∙ next_decided m i s (unset (length m.states)) p q)

  abbrev one : Bits → Bits → Bits → Store
  one x v0 v1 = held (codes "p0") x ∷ held (codes "v0") v0 ∷ held (codes "v1") v1 ∷ []

  only_taken : (x v0 v1 : Bits) → stmt_of Store (copied (codes "v0") (codes "p0")) (function_world calls) (one x v0 v1) ≡ one x x v1
  only_taken x v0 v1 = rw (stmt_of-Assign, expr_of-Name) refl

  output_taken : (n k : ℕ) (x v0 v1 : Bits) → stmts_of Store (code_assigned (codes "v1") n k) (function_world calls) (one x v0 v1) ≡ one x v0 (code n k)
  output_taken n k x v0 v1 = rw (stmt_of-Assign, expr_of-Literal) refl

  -- the output
  pub shown_function-value : (m : Machine) (s : ℕ) → s < length m.states →
      function_value calls (shown_function m) (code (length m.states) s ∷ []) ≡ code m.outputs (shown_in m s)
  shown_function-value m s q =
      let leaf : ℕ → List VStmt = λ k. code_assigned (codes "v1") m.outputs (shown_in m k) in
      let x : Bits = code (length m.states) s in
      let unset : ℕ → Bits = λ n. replicate (code_width n) U in
      expr_of-Name (codes "v1") _
      ∙ ap (λ (t : Store). value_in t calls (codes "v1"))
      (ap (λ (t : Store). stmts_of Store (decide_code (codes "v0") (length m.states) leaf) (function_world calls) t) (only_taken x (unset (length m.states)) (unset m.outputs))
      ∙ decides_code Store (function_world calls) (codes "v0") (one x x (unset m.outputs)) (length m.states) s leaf q refl
      ∙ output_taken m.outputs (shown_in m s) x x (unset m.outputs))

-- the calls of the two processes
next_call-value : (calls : Calls) (store : Store) → expr_of next_call (scope_in calls store) ≡ calls (codes "f0") (value_in store calls (codes "inp") ∷ value_in store calls (codes "s0") ∷ [])
next_call-value calls store = rw (expr_of-Call, expr_of-Name, expr_of-Name) refl

shown_call-value : (calls : Calls) (store : Store) → expr_of shown_call (scope_in calls store) ≡ calls (codes "f1") (value_in store calls (codes "s0") ∷ [])
shown_call-value calls store = rw (expr_of-Call, expr_of-Name) refl

module _ (m : Machine) (is_machine : IsMachine m) where
  -- what the two expressions compute
  next : Bits → Bits → Bits
  next i s = calls_of (machine_items m) (codes "f0") (i ∷ s ∷ [])

  shown : Bits → Bits
  shown s = calls_of (machine_items m) (codes "f1") (s ∷ [])

  next_is : (i s : ℕ) → i < m.inputs → s < length m.states → next (code m.inputs i) (code (length m.states) s) ≡ code (length m.states) (next_of m s i)
  unfolding next
  next_is i s p q = next_function-value (λ x args. []) m i s p q

  shown_is : (s : ℕ) → s < length m.states → shown (code (length m.states) s) ≡ code m.outputs (shown_in m s)
  unfolding shown
  shown_is s q = shown_function-value _ m s q

  computes : Computes (register_of m) next shown
  unfolding next shown
  computes = record { steps = next_call-value (calls_of (machine_items m)); shows = shown_call-value (calls_of (machine_items m)) }

  outputs_are : (s : ℕ) (is : List ℕ) → s < length m.states → All (λ i. i < m.inputs) is →
      register_outputs next shown (code (length m.states) s) (map (code m.inputs) is) ≡ map (code m.outputs) (outputs_from m s is)
  outputs_are s [] q all = ap (λ (v : Bits). v ∷ []) (shown_is s q)
  outputs_are s (i ∷ is) q all =
      let here : i < m.inputs = all zero 0 (omega arith) in
      let there : All (λ i. i < m.inputs) is = λ k d h. all (suc k) d (omega arith) in
      ap (λ (v : Bits). v ∷ register_outputs next shown (next (code m.inputs i) (code (length m.states) s)) (map (code m.inputs) is)) (shown_is s q)
      ∙ ap (λ (v : Bits). code m.outputs (shown_in m s) ∷ register_outputs next shown v (map (code m.inputs) is)) (next_is i s here q)
      ∙ ap (λ (vs : List Bits). code m.outputs (shown_in m s) ∷ vs) (outputs_are (next_of m s i) is ((is_machine.states s q).next i here) there)

  pub machine_reads : (inputs : List ℕ) → All (λ i. i < m.inputs) inputs →
      BenchInEveryOrder 4 (machine_design m) (map (code m.inputs) inputs) (map (code m.outputs) (machine_outputs m inputs))
  machine_reads inputs all =
      subst (λ (rs : List Bits). BenchInEveryOrder 4 (machine_design m) (map (code m.inputs) inputs) rs) (outputs_are m.reset inputs is_machine.reset all)
      (register_reads (register_of m) next shown computes (code_width (length m.states), refl) (map (code m.inputs) inputs))
