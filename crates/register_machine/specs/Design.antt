-- The design of a machine: its two functions, and the register between them.
use Rattle.std.specs.Prelude.{ℕ, List, [], ◌∷◌, length, true, codes}
use Rattle.vh_tree.specs.Bits.{Bytes}
use Rattle.register_machine.specs.Codes.{code, code_width}
use Rattle.register_machine.specs.Machine.{shown_in, next_of}
use Rattle.register_machine.specs.Decision.{decide}
use Rattle.register_machine.specs.OneRegister.{OneRegister, design_of}
use Rattle.register_machine.specs.declared.machine.Machine.{Machine}
use Rattle.vh_tree.specs.declared.expr.VExpr.{VExpr}
use Rattle.vh_tree.specs.declared.expr.VExpr.TheVariants.{Name, Literal, Call}
use Rattle.vh_tree.specs.declared.stmt.VStmt.{VStmt}
use Rattle.vh_tree.specs.declared.stmt.VStmt.TheVariants.{Assign}
use Rattle.vh_tree.specs.declared.function.Var.{Var}
use Rattle.vh_tree.specs.declared.function.Function.{Function}
use Rattle.vh_tree.specs.declared.design.Item.{Item}
use Rattle.vh_tree.specs.declared.design.Item.TheVariants.{Signal, Function as Declared}
use Rattle.vh_tree.specs.declared.design.Design.{Design}

-- a name with the width of codes among n
abbrev pub coded : Bytes → ℕ → Var
coded name n = record { name = name; width = code_width n }

-- a name put into another
abbrev pub copied : Bytes → Bytes → VStmt
copied target source = Assign target (Name source)

-- the code of number k among n put into a name
abbrev pub code_assigned : Bytes → ℕ → ℕ → List VStmt
code_assigned target n k = Assign target (Literal (code n k)) ∷ []

-- the decision for each of n numbers by their codes
abbrev pub decide_code : Bytes → ℕ → (ℕ → List VStmt) → List VStmt
decide_code x n leaf = decide x n (code_width n) 0 leaf

-- `v2` becomes the next state from state s, by the input `v0`
abbrev pub input_decision : Machine → ℕ → List VStmt
input_decision m s = decide_code (codes "v0") m.inputs (λ i. code_assigned (codes "v2") (length m.states) (next_of m s i))

-- `f0`: the next state, from an input and a state
abbrev pub next_variables : Machine → List Var
next_variables m = coded (codes "v0") m.inputs ∷ coded (codes "v1") (length m.states) ∷ coded (codes "v2") (length m.states) ∷ []

abbrev pub next_body : Machine → List VStmt
next_body m = copied (codes "v0") (codes "p0") ∷ copied (codes "v1") (codes "p1") ∷ decide_code (codes "v1") (length m.states) (input_decision m)

abbrev pub next_function : Machine → Function
next_function m = record {
  name = codes "f0";
  params = codes "p0" ∷ codes "p1" ∷ [];
  vars = next_variables m;
  body = next_body m;
  result = Name (codes "v2");
}

-- `f1`: the output, from a state
abbrev pub shown_variables : Machine → List Var
shown_variables m = coded (codes "v0") (length m.states) ∷ coded (codes "v1") m.outputs ∷ []

abbrev pub shown_body : Machine → List VStmt
shown_body m = copied (codes "v0") (codes "p0") ∷ decide_code (codes "v0") (length m.states) (λ s. code_assigned (codes "v1") m.outputs (shown_in m s))

abbrev pub shown_function : Machine → Function
shown_function m = record {
  name = codes "f1";
  params = codes "p0" ∷ [];
  vars = shown_variables m;
  body = shown_body m;
  result = Name (codes "v1");
}

-- the register and the two functions
abbrev pub machine_items : Machine → List Item
machine_items m = Signal (coded (codes "s0") (length m.states)) ∷ Declared (next_function m) ∷ Declared (shown_function m) ∷ []

-- `f0 ( inp , s0 )` and `f1 ( s0 )`
abbrev pub next_call : VExpr
next_call = Call (codes "f0") (Name (codes "inp") ∷ Name (codes "s0") ∷ [])

abbrev pub shown_call : VExpr
shown_call = Call (codes "f1") (Name (codes "s0") ∷ [])

-- the machine as a design with one register
abbrev pub register_of : Machine → OneRegister
register_of m = record {
  inp = code_width m.inputs;
  outp = code_width m.outputs;
  items = machine_items m;
  next = next_call;
  shown = shown_call;
  reset = code (length m.states) m.reset;
  clocked_first = true;
}

-- the design of a machine
abbrev pub machine_design : Machine → Design
machine_design m = design_of (register_of m)
