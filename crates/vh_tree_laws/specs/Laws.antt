-- Laws of the meaning of a design, each the contract of a public function.
use Rattle.std.specs.Prelude.{◌≡◌, ℕ, ◌<◌, ◌≤◌, List, map, length, Bool, true, false, Some, MatchOption}
use Rattle.vh_tree.specs.Bits.{Bytes, Bits}
use Rattle.vh_tree.specs.Functions.{Scope, Store, expr_of, scope_in, calls_of}
use Rattle.vh_tree.specs.DeltaCycle.{Orders, AreOrders, IsOrder, delta_cycle, cycles, is_quiet}
use Rattle.vh_tree.specs.Bench.{Schedule, IsSchedule, settled, text_schedule, bench_readings}
use Rattle.vh_tree.specs.StaticRules.{Names, Widths, Shape, names_well, uses_earlier, measured, process_vars, widths_in_process, names_in_process, shapes_of, IsStatic}
use Rattle.vh_tree.specs.Widths.{HasWidth, KeepsWidths, StoreHasWidths}
use Rattle.vh_tree.specs.declared.expr.VExpr.{VExpr}
use Rattle.vh_tree.specs.declared.wire.Settled.{Settled}
use Rattle.vh_tree.specs.declared.wire.State.{State}
use Rattle.vh_tree.specs.declared.process.Process.{Process}
use Rattle.vh_tree.specs.declared.design.Design.{Design}

-- one delta cycle is that in the order of the text, whatever the order
abbrev pub OneOrderLaw : Type 0
OneOrderLaw = (d : Design) → IsStatic d → (s : State) (order : List Process) → IsOrder d order → delta_cycle d order s ≡ delta_cycle d d.processes s

-- from every state, the states after each delta cycle are equal under every two lists of orders
abbrev pub EveryOrderLaw : Type 0
EveryOrderLaw = (d : Design) → IsStatic d → (s : State) (first second : Orders) → AreOrders d first → AreOrders d second → (n : ℕ) → cycles d first n s ≡ cycles d second n s

-- so are the quiet state and the count of the cycles that lead to it
abbrev pub SettledInEveryOrderLaw : Type 0
SettledInEveryOrderLaw = (d : Design) → IsStatic d → (s : State) (first second : Orders) → AreOrders d first → AreOrders d second → (most : ℕ) → settled d first most s ≡ settled d second most s

-- and what the bench reads
abbrev pub BenchInEveryOrderLaw : Type 0
BenchInEveryOrderLaw = (d : Design) → IsStatic d → (schedule : Schedule) → IsSchedule d schedule → (most : ℕ) (inputs : List Bits) →
    bench_readings most d schedule inputs ≡ bench_readings most d (text_schedule d) inputs

-- the order of the text is one of the orders
abbrev pub TextOrderLaw : Type 0
TextOrderLaw = (d : Design) → IsSchedule d (text_schedule d)

-- quiet after exactly `t.count` cycles, in the state `t.state`
pub record IsFirstQuiet (d : Design) (orders : Orders) (most : ℕ) (s : State) (t : Settled) : Type 0 where
  pub in_time : t.count ≤ most
  pub reached : t.state ≡ cycles d orders t.count s
  pub quiet : is_quiet t.state ≡ true
  pub not_before : (k : ℕ) → k < t.count → is_quiet (cycles d orders k s) ≡ false

-- settling answers the first quiet state, and nothing where the state is quiet after none of the cycles
abbrev pub SettledLaw : Type 0
SettledLaw = (d : Design) (orders : Orders) (most : ℕ) (s : State) →
    MatchOption (settled d orders most s) ((k : ℕ) → k ≤ most → is_quiet (cycles d orders k s) ≡ false) (IsFirstQuiet d orders most s)

-- the value of an expression of which the static rules hold has its static width
abbrev pub ExprWidthLaw : Type 0
ExprWidthLaw = (names : Names) (usable : Bytes → Bool) (ws : Widths) (s : Scope) → KeepsWidths names usable ws s →
    (e : VExpr) → names_well names e ≡ true → uses_earlier usable e ≡ true → (measured ws e).fits ≡ true → HasWidth (measured ws e).width (expr_of e s)

-- each function of a static design gives a value of its result's width
abbrev pub FunctionWidthLaw : Type 0
FunctionWidthLaw = (d : Design) → IsStatic d → (x : Bytes) (shape : Shape) → shapes_of d.items x ≡ Some shape →
    (args : List Bits) → map length args ≡ shape.params → HasWidth shape.result (calls_of d.items x args)

-- in its processes, over ports and signals of their widths, so does each expression
abbrev pub ProcessWidthLaw : Type 0
ProcessWidthLaw = (d : Design) → IsStatic d → (store : Store) → StoreHasWidths (process_vars d) store →
    (e : VExpr) → names_well (names_in_process d.items) e ≡ true → (measured (widths_in_process d) e).fits ≡ true →
    HasWidth (measured (widths_in_process d) e).width (expr_of e (scope_in (calls_of d.items) store))
