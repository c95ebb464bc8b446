-- Designs with one register: a clocked process that keeps the state, and a process that shows it.
use Rattle.std.specs.Prelude.{◌≡◌, ℕ, List, [], ◌∷◌, Bool, codes, if◌then◌else◌}
use Rattle.vh_tree.specs.Bits.{Bytes, Bits}
use Rattle.vh_tree.specs.Functions.{Store, calls_of, expr_of, scope_in, value_in}
use Rattle.vh_tree.specs.Bench.{signals_of, fresh}
use Rattle.vh_tree.specs.declared.expr.VExpr.{VExpr}
use Rattle.vh_tree.specs.declared.expr.VExpr.TheVariants.{Literal}
use Rattle.vh_tree.specs.declared.stmt.Test.{Test}
use Rattle.vh_tree.specs.declared.stmt.Test.TheVariants.{Rising, Reset}
use Rattle.vh_tree.specs.declared.stmt.VStmt.{VStmt}
use Rattle.vh_tree.specs.declared.stmt.VStmt.TheVariants.{Assign, If}
use Rattle.vh_tree.specs.declared.design.Item.{Item}
use Rattle.vh_tree.specs.declared.process.Process.{Process}
use Rattle.vh_tree.specs.declared.design.Design.{Design}

-- what may differ: the widths of the ports, what is declared, the next state as an expression of `inp` and `s0`, the
-- output as one of `s0`, the state after a reset, and which process stands first
pub record OneRegister : Type 0 where
  pub inp : ℕ
  pub outp : ℕ
  pub items : List Item
  pub next : VExpr
  pub shown : VExpr
  pub reset : Bits
  pub clocked_first : Bool

-- `if test then body else other end if ;`
abbrev pub when_holds : Test → List VStmt → List VStmt → VStmt
when_holds test body other = If (record { tests = test ∷ []; body = body } ∷ []) other

-- on a rising clock the register takes the reset value where `rst` is '1', and else the next state
abbrev pub on_clock : VStmt → VStmt → VStmt
on_clock restart step = when_holds Rising (when_holds Reset (restart ∷ []) (step ∷ []) ∷ []) []

-- a process of one statement that listens to one name
abbrev pub process_of : Bytes → VStmt → Process
process_of heard statement = record { sensitive = heard ∷ []; body = statement ∷ [] }

-- the process that keeps the state
abbrev pub clocked : Bits → VExpr → Process
clocked reset next = process_of (codes "clk") (on_clock (Assign (codes "s0") (Literal reset)) (Assign (codes "s0") next))

-- the process that shows it
abbrev pub showing : VExpr → Process
showing shown = process_of (codes "s0") (Assign (codes "outp") shown)

-- the design
abbrev pub design_of : OneRegister → Design
design_of r = record {
  inp = r.inp;
  outp = r.outp;
  items = r.items;
  processes = if r.clocked_first then clocked r.reset r.next ∷ showing r.shown ∷ [] else showing r.shown ∷ clocked r.reset r.next ∷ [];
}

-- `s0` is the only signal
abbrev pub HasOneSignal : List Item → Type 0
HasOneSignal items = (width : ℕ) × (signals_of items ≡ fresh (codes "s0") width ∷ [])

-- the two expressions give these functions of the input and of the state
pub record Computes (r : OneRegister) (next : Bits → Bits → Bits) (shown : Bits → Bits) : Type 0 where
  pub steps : (store : Store) → expr_of r.next (scope_in (calls_of r.items) store) ≡ next (value_in store (calls_of r.items) (codes "inp")) (value_in store (calls_of r.items) (codes "s0"))
  pub shows : (store : Store) → expr_of r.shown (scope_in (calls_of r.items) store) ≡ shown (value_in store (calls_of r.items) (codes "s0"))

-- the outputs from a state on
abbrev pub register_outputs : (Bits → Bits → Bits) → (Bits → Bits) → Bits → List Bits → List Bits
register_outputs next shown s [] = shown s ∷ []
register_outputs next shown s (i ∷ inputs) = shown s ∷ register_outputs next shown (next i s) inputs
