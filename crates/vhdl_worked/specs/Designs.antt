-- Designs on which the static rules are computed: the switch, the oscillator, and what differs from the switch in one place.
use Rattle.std.specs.Prelude.{ℕ, List, [], ◌∷◌, ◌++◌, map, codes}
use Rattle.vh_tree.specs.Bits.{Bytes}
use Rattle.rw_base.specs.declared.bit.Bit9.TheVariants.{U, X, Zero, One, Z, W, L, H, Dash}
use Rattle.vh_tree.specs.declared.expr.VExpr.{VExpr}
use Rattle.vh_tree.specs.declared.expr.VExpr.TheVariants.{Name, Slice, Literal, Call, Join}
use Rattle.vh_tree.specs.declared.stmt.Test.{Test}
use Rattle.vh_tree.specs.declared.stmt.Test.TheVariants.{Equal, Rising, Reset}
use Rattle.vh_tree.specs.declared.stmt.VStmt.{VStmt}
use Rattle.vh_tree.specs.declared.stmt.Branch.{Branch}
use Rattle.vh_tree.specs.declared.stmt.VStmt.TheVariants.{Assign, If}
use Rattle.vh_tree.specs.declared.function.Var.{Var}
use Rattle.vh_tree.specs.declared.function.Function.{Function}
use Rattle.vh_tree.specs.declared.process.Process.{Process}
use Rattle.vh_tree.specs.declared.design.Item.{Item}
use Rattle.vh_tree.specs.declared.design.Item.TheVariants.{Signal, Function as Declared}
use Rattle.vh_tree.specs.declared.design.Design.{Design}

-- a variable or a signal of one bit
abbrev pub one_bit : Bytes → Var
one_bit name = record { name = name; width = 1 }

-- `tests then body`, one branch of an `if`
abbrev pub branch : List Test → List VStmt → Branch
branch tests body = record { tests = tests; body = body }

-- a design with one bit in and one bit out
abbrev pub of_one_bit : List Item → List Process → Design
of_one_bit items processes = record { inp = 1; outp = 1; items = items; processes = processes }

-- `if v0 = "1" and v1 = "0" then v2 := "1" ; elsif v0 = "1" then v2 := "0" ; end if ;`
abbrev pub turn_over : VStmt
turn_over = If (branch (Equal (Name (codes "v0")) (One ∷ []) ∷ Equal (Name (codes "v1")) (Zero ∷ []) ∷ []) (Assign (codes "v2") (Literal (One ∷ [])) ∷ [])
    ∷ branch (Equal (Name (codes "v0")) (One ∷ []) ∷ []) (Assign (codes "v2") (Literal (Zero ∷ [])) ∷ []) ∷ []) []

-- `f0 ( p0 , p1 )` of the variables `v0`, `v1` and `v2`: it copies its parameters, and a third statement and what it returns are given
abbrev pub function_f0 : VStmt → VExpr → Function
function_f0 third result = record {
  name = codes "f0";
  params = codes "p0" ∷ codes "p1" ∷ [];
  vars = one_bit (codes "v0") ∷ one_bit (codes "v1") ∷ one_bit (codes "v2") ∷ [];
  body = Assign (codes "v0") (Name (codes "p0")) ∷ Assign (codes "v1") (Name (codes "p1")) ∷ third ∷ turn_over ∷ [];
  result = result;
}

-- `f0`, whose third statement is `v2 := set ;`
abbrev pub f0_setting : VExpr → Function
f0_setting set = function_f0 (Assign (codes "v2") set) (Name (codes "v2"))

-- `f0` of the switch, which is `v2 := v1 ;` there
abbrev pub switch_function : Function
switch_function = f0_setting (Name (codes "v1"))

-- `process ( clk )`: on a rising clock `s0` is '0' under reset, and else the given next value
abbrev pub clocked : VExpr → Process
clocked next = record {
  sensitive = codes "clk" ∷ [];
  body = If (branch (Rising ∷ []) (If (branch (Reset ∷ []) (Assign (codes "s0") (Literal (Zero ∷ [])) ∷ []) ∷ []) (Assign (codes "s0") next ∷ []) ∷ []) ∷ []) [] ∷ [];
}

-- `f0 ( inp , s0 )`
abbrev pub turned : VExpr
turned = Call (codes "f0") (Name (codes "inp") ∷ Name (codes "s0") ∷ [])

-- `process ( s0 ) begin outp <= shown ; end process ;`
abbrev pub showing : VExpr → Process
showing shown = record { sensitive = codes "s0" ∷ []; body = Assign (codes "outp") shown ∷ [] }

-- the switch with these functions after its signal, showing this
abbrev pub switch_of : List Function → VExpr → Design
switch_of functions shown = of_one_bit (Signal (one_bit (codes "s0")) ∷ map Declared functions) (clocked turned ∷ showing shown ∷ [])

-- the switch: a register of one bit that each 1 of the input turns over
abbrev pub switch : Design
switch = switch_of (switch_function ∷ []) (Name (codes "s0"))

-- the switch, showing another expression
abbrev pub switch_showing : VExpr → Design
switch_showing shown = switch_of (switch_function ∷ []) shown

-- the switch with other functions
abbrev pub switch_by : List Function → Design
switch_by functions = switch_of functions (Name (codes "s0"))

-- the switch with more signals and more processes
abbrev pub switch_with : List Var → List Process → Design
switch_with signals processes = record {
  inp = 1;
  outp = 1;
  items = map Signal signals ++ switch.items;
  processes = switch.processes ++ processes;
}

-- a function without parameters and variables, and what it returns
abbrev pub constant : Bytes → VExpr → Function
constant name result = record { name = name; params = []; vars = []; body = []; result = result }

-- `if s0 = "1" then s1 <= "0" ; else s1 <= "1" ; end if ;`
abbrev pub deny : VStmt
deny = If (branch (Equal (Name (codes "s0")) (One ∷ []) ∷ []) (Assign (codes "s1") (Literal (Zero ∷ [])) ∷ []) ∷ []) (Assign (codes "s1") (Literal (One ∷ [])) ∷ [])

-- a process of one statement that listens to one name
abbrev pub process_of : Bytes → VStmt → Process
process_of heard statement = record { sensitive = heard ∷ []; body = statement ∷ [] }

-- the oscillator: `s1` is not `s0`, and `s0` is `s1`
abbrev pub oscillator : Design
oscillator = of_one_bit (Signal (one_bit (codes "s0")) ∷ Signal (one_bit (codes "s1")) ∷ [])
    (process_of (codes "s0") deny ∷ process_of (codes "s1") (Assign (codes "s0") (Name (codes "s1"))) ∷ showing (Name (codes "s0")) ∷ [])

-- a port of this width in, of which `f0` reads one bit
abbrev pub wide_switch : ℕ → Design
wide_switch width = record {
  inp = width;
  outp = 1;
  items = switch.items;
  processes = clocked (Call (codes "f0") (Slice (codes "inp") 0 0 ∷ Name (codes "s0") ∷ [])) ∷ showing (Name (codes "s0")) ∷ [];
}

-- the switch with a port of this width in, all of which goes to `f0`
abbrev pub switch_of_width : ℕ → Design
switch_of_width width = record { inp = width; outp = 1; items = switch.items; processes = switch.processes }

-- a design that shows a join: its input, the nine values, and a function without parameters
abbrev pub joining : Design
joining = record {
  inp = 2;
  outp = 12;
  items = Declared (constant (codes "f0") (Literal (One ∷ []))) ∷ [];
  processes = process_of (codes "inp")
      (Assign (codes "outp") (Join (Name (codes "inp") ∷ Literal (U ∷ X ∷ Zero ∷ One ∷ Z ∷ W ∷ L ∷ H ∷ Dash ∷ []) ∷ Name (codes "f0") ∷ []))) ∷ [];
}

-- a port of this width out, which shows a signal of this width that keeps its value
abbrev pub wide_output : ℕ → Design
wide_output width = record {
  inp = 1;
  outp = width;
  items = Signal (record { name = codes "s0"; width = width }) ∷ [];
  processes = process_of (codes "s0") (Assign (codes "s0") (Name (codes "s0"))) ∷ showing (Name (codes "s0")) ∷ [];
}

-- the switch without the process that drives `outp`
abbrev pub undriven : Design
undriven = of_one_bit switch.items (clocked turned ∷ [])
