-- The design of a machine keeps the static rules.
use Rattle.std.proofs.Common.{◌≡◌, ℕ, ◌+◌, ◌-◌, ◌^◌, ◌<◌, ◌≤◌, List, [], ◌∷◌, length, refl, ap, Bool, true, false, Option, Some, None, arith}
use Rattle.std.specs.Prelude.{◌&&◌, ◌==◌, not, codes, nat_le}
use Rattle.std.specs.List.{list_all}
use Rattle.std.proofs.lemmas.Bool.{lt-ltb, le-leb}
use Rattle.vh_tree.specs.Bits.{Bytes, is_among}
use Rattle.vh_tree.specs.StaticRules as rules
use Rattle.vh_tree.specs.StaticRules.{Names, Widths, Shape, IsStatic}
use Rattle.vh_tree_equations.specs.Equations as by
use Rattle.rw_core.specs.Bits.{tag_width}
use Rattle.rw_core.specs.TagWidths.{tag_width-least}
use Rattle.vh_tree.specs.declared.expr.VExpr.TheVariants.{Name, Slice, Literal}
use Rattle.vh_tree.specs.declared.design.Item.{Item}
use Rattle.register_machine.specs.Codes.{code, code_width}
use Rattle.register_machine.specs.Machine.{IsMachine}
use Rattle.register_machine.specs.OneRegister.{clocked, showing}
use Rattle.register_machine.specs.Design.{next_function, shown_function, next_call, shown_call, machine_items, machine_design}
use Rattle.register_machine.specs.declared.machine.Machine.{Machine}
use Rattle.register_machine.proofs.Choices.{length-number_bits}
use Rattle.register_machine.proofs.Keeping.{and_both, next_decision_keeps, shown_decision_keeps, next_body_keeps, shown_body_keeps, clocked_keeps, showing_keeps}

-- codes are at most 32 bits wide
pub code_width-most : (n : ℕ) → n < 2 ^ 32 → code_width n ≤ 32
code_width-most n h = let few : tag_width n ≤ 32 = tag_width-least n 32 (omega arith) in omega arith

eq_self : (n : ℕ) → (n == n) ≡ true
eq_self n = grind arith

is_width : (n : ℕ) → n < 2 ^ 32 → rules.is_width (code_width n) ≡ true
is_width n h =
    let few = code_width-most n h in
    and_both _ _ (le-leb 1 (code_width n) (omega arith)) (le-leb (code_width n) rules.greatest_width (omega arith))

is_port : (n : ℕ) → n < 2 ^ 32 → nat_le (code_width n) rules.greatest_port ≡ true
is_port n h = let few = code_width-most n h in le-leb (code_width n) rules.greatest_port (omega arith)

-- an expression of one of these forms agrees with a width
module _ (ws : Widths) where
  name_fits : (x : Bytes) (n : ℕ) → ws.named x ≡ Some n → rules.fits_in ws (Some n) (Name x) ≡ true
  name_fits x n e = rw (by.measured-Name, e) (eq_self n)

  code_fits : (n k : ℕ) → rules.fits_in ws (Some (code_width n)) (Literal (code n k)) ≡ true
  code_fits n k = rw (by.measured-Literal, length-number_bits) (eq_self (code_width n))

  bit_fits : (x : Bytes) (n j : ℕ) → ws.named x ≡ Some n → j < n → rules.fits_in ws (Some 1) (Slice x j j) ≡ true
  bit_fits x n j e h =
      let one : j + 1 - j ≡ 1 = omega arith in
      rw (by.measured-Slice, e, one, lt-ltb j n h, le-leb j j (omega arith)) refl

module _ (m : Machine) (is : IsMachine m) where
  abbrev states : ℕ
  states = length m.states

  abbrev items : List Item
  items = machine_items m

  -- V4
  next_names : rules.function_names_well items (next_function m) ≡ true
  next_names =
      let names : Names = rules.names_in_function items (next_function m) in
      and_both _ _ (and_both _ _ (and_both _ _ refl (rw (by.copies-Assign, by.is_name-Name, by.copies-Assign, by.is_name-Name) refl))
      (next_decision_keeps (λ x e. is_among x (rules.names_of (next_function m).vars) && rules.names_well names e) (rules.test_keeps (λ e bits. rules.names_well names e) false) m is
      (λ j h. by.names_well-Slice names (codes "v1") j j) (λ j h. by.names_well-Slice names (codes "v0") j j) (λ k. by.names_well-Literal names (code states k))))
      (rw by.names_well-Name refl)

  shown_names : rules.function_names_well items (shown_function m) ≡ true
  shown_names =
      let names : Names = rules.names_in_function items (shown_function m) in
      and_both _ _ (and_both _ _ (and_both _ _ refl (rw (by.copies-Assign, by.is_name-Name) refl))
      (shown_decision_keeps (λ x e. is_among x (rules.names_of (shown_function m).vars) && rules.names_well names e) (rules.test_keeps (λ e bits. rules.names_well names e) false) m is
      (λ j h. by.names_well-Slice names (codes "v0") j j) (λ k. by.names_well-Literal names (code m.outputs k))))
      (rw by.names_well-Name refl)

  abbrev process_names : Names
  process_names = rules.names_in_process items

  clocked_names : rules.process_names_well items (clocked (code states m.reset) next_call) ≡ true
  clocked_names =
      and_both _ _ refl
      (and_both _ _ refl
      (clocked_keeps (λ x e. is_among x (rules.driven_names items) && rules.names_well process_names e) (rules.test_keeps (λ e bits. rules.names_well process_names e) true) (code states m.reset) next_call
      refl refl (by.names_well-Literal process_names (code states m.reset)) (rw (by.names_well-Call, by.names_well-Name, by.names_well-Name) refl)))

  showing_names : rules.process_names_well items (showing shown_call) ≡ true
  showing_names =
      and_both _ _ refl
      (and_both _ _ refl
      (showing_keeps (λ x e. is_among x (rules.driven_names items) && rules.names_well process_names e) (rules.test_keeps (λ e bits. rules.names_well process_names e) true) shown_call
      (rw (by.names_well-Call, by.names_well-Name) refl)))

  names : rules.breaks_names (machine_design m) ≡ false
  names = ap not
      (and_both _ _ (and_both _ _ refl (and_both _ _ next_names (and_both _ _ shown_names refl))) (and_both _ _ clocked_names (and_both _ _ showing_names refl)))

  -- V5
  next_fits : (known : Bytes → Option Shape) → rules.function_fits known (next_function m) ≡ true
  next_fits known =
      let ws : Widths = rules.widths_in_function known (next_function m) in
      and_both _ _ (and_both _ _ (and_both _ _ (is_width m.inputs is.few_inputs) (and_both _ _ (is_width states is.few_states) (and_both _ _ (is_width states is.few_states) refl)))
      (next_body_keeps (λ x e. rules.fits_in ws (ws.named x) e) (rules.test_keeps (λ e bits. rules.fits_in ws (Some (length bits)) e) true) m is
      (name_fits ws (codes "p0") (code_width m.inputs) refl) (name_fits ws (codes "p1") (code_width states) refl)
      (λ j h. bit_fits ws (codes "v1") (code_width states) j refl h) (λ j h. bit_fits ws (codes "v0") (code_width m.inputs) j refl h) (λ k. code_fits ws states k)))
      (ap (λ (x : rules.Measured). x.fits) (by.measured-Name ws (codes "v2")))

  shown_fits : (known : Bytes → Option Shape) → rules.function_fits known (shown_function m) ≡ true
  shown_fits known =
      let ws : Widths = rules.widths_in_function known (shown_function m) in
      and_both _ _ (and_both _ _ (and_both _ _ (is_width states is.few_states) (and_both _ _ (is_width m.outputs is.few_outputs) refl))
      (shown_body_keeps (λ x e. rules.fits_in ws (ws.named x) e) (rules.test_keeps (λ e bits. rules.fits_in ws (Some (length bits)) e) true) m is
      (name_fits ws (codes "p0") (code_width states) refl) (λ j h. bit_fits ws (codes "v0") (code_width states) j refl h) (λ k. code_fits ws m.outputs k)))
      (ap (λ (x : rules.Measured). x.fits) (by.measured-Name ws (codes "v1")))

  abbrev process_widths : Widths
  process_widths = rules.widths_in_process (machine_design m)

  next_call_fits : rules.fits_in process_widths (Some (code_width states)) next_call ≡ true
  next_call_fits = rw (by.measured-Call, by.measured-Name, by.measured-Name, by.measured-Name)
      (and_both _ _ (and_both _ _ (eq_self (code_width m.inputs)) (and_both _ _ (eq_self (code_width states)) refl)) (eq_self (code_width states)))

  shown_call_fits : rules.fits_in process_widths (Some (code_width m.outputs)) shown_call ≡ true
  shown_call_fits = rw (by.measured-Call, by.measured-Name, by.measured-Name)
      (and_both _ _ (and_both _ _ (eq_self (code_width states)) refl) (eq_self (code_width m.outputs)))

  processes_fit : list_all (λ p. list_all (rules.stmt_fits process_widths) p.body) (machine_design m).processes ≡ true
  processes_fit =
      and_both _ _ (clocked_keeps (λ x e. rules.fits_in process_widths (process_widths.named x) e) (rules.test_keeps (λ e bits. rules.fits_in process_widths (Some (length bits)) e) true) (code states m.reset) next_call
      refl refl (code_fits process_widths states m.reset) next_call_fits)
      (and_both _ _ (showing_keeps (λ x e. rules.fits_in process_widths (process_widths.named x) e) (rules.test_keeps (λ e bits. rules.fits_in process_widths (Some (length bits)) e) true) shown_call shown_call_fits) refl)

  widths : rules.breaks_widths (machine_design m) ≡ false
  widths = ap not
      (and_both _ _ (and_both _ _ (and_both _ _ (is_width m.inputs is.few_inputs) (is_width m.outputs is.few_outputs))
      (and_both _ _ (is_width states is.few_states) (and_both _ _ (next_fits (λ x. None)) (and_both _ _ (shown_fits (rules.shaped (next_function m) (λ x. None))) refl))))
      processes_fit)

  -- V6
  clocked_drives_state : rules.drives (codes "s0") (clocked (code states m.reset) next_call) ≡ true
  clocked_drives_state = rw (by.assigns-If, by.branch_assigns-Branch, by.assigns-If, by.branch_assigns-Branch, by.assigns-Assign) refl

  clocked_drives_outp : rules.drives (codes "outp") (clocked (code states m.reset) next_call) ≡ false
  clocked_drives_outp = rw (by.assigns-If, by.branch_assigns-Branch, by.assigns-If, by.branch_assigns-Branch, by.assigns-Assign, by.assigns-Assign) refl

  showing_drives_state : rules.drives (codes "s0") (showing shown_call) ≡ false
  showing_drives_state = rw by.assigns-Assign refl

  showing_drives_outp : rules.drives (codes "outp") (showing shown_call) ≡ true
  showing_drives_outp = rw by.assigns-Assign refl

  drivers : rules.breaks_drivers (machine_design m) ≡ false
  drivers = rw (clocked_drives_outp, showing_drives_outp, clocked_drives_state, showing_drives_state) refl

  -- V7
  next_order : (usable : Bytes → Bool) → usable (codes "p0") ≡ true → usable (codes "p1") ≡ true → usable (codes "v2") ≡ true → rules.function_uses_earlier usable (next_function m) ≡ true
  next_order usable a b c =
      and_both _ _ (next_body_keeps (λ x e. rules.uses_earlier usable e) (rules.test_keeps (λ e bits. rules.uses_earlier usable e) true) m is
      (rw (by.uses_earlier-Name, a) refl) (rw (by.uses_earlier-Name, b) refl)
      (λ j h. by.uses_earlier-Slice usable (codes "v1") j j) (λ j h. by.uses_earlier-Slice usable (codes "v0") j j) (λ k. by.uses_earlier-Literal usable (code states k)))
      (rw (by.uses_earlier-Name, c) refl)

  shown_order : (usable : Bytes → Bool) → usable (codes "p0") ≡ true → usable (codes "v1") ≡ true → rules.function_uses_earlier usable (shown_function m) ≡ true
  shown_order usable a b =
      and_both _ _ (shown_body_keeps (λ x e. rules.uses_earlier usable e) (rules.test_keeps (λ e bits. rules.uses_earlier usable e) true) m is
      (rw (by.uses_earlier-Name, a) refl)
      (λ j h. by.uses_earlier-Slice usable (codes "v0") j j) (λ k. by.uses_earlier-Literal usable (code m.outputs k)))
      (rw (by.uses_earlier-Name, b) refl)

  order : rules.breaks_order (machine_design m) ≡ false
  order = ap not
      (and_both _ _ (next_order (λ x. not (is_among x (codes "f0" ∷ codes "f1" ∷ []))) refl refl refl)
      (and_both _ _ (shown_order (λ x. not (is_among x (codes "f1" ∷ []))) refl refl) refl))

  -- V8
  ports : rules.breaks_ports (machine_design m) ≡ false
  ports = ap not (and_both _ _ (is_port m.inputs is.few_inputs) (is_port m.outputs is.few_outputs))

  pub is_static : IsStatic (machine_design m)
  is_static = record { names = names; widths = widths; drivers = drivers; order = order; ports = ports }
