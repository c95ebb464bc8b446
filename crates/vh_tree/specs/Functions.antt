-- What expressions, statements and functions mean (IEEE Std 1076-1993, sections 2, 7 and 8).
use Rattle.std.specs.Prelude.{ℕ, List, [], ◌∷◌, ◌++◌, map, take, length, replicate, Bool, false, if◌then◌else◌}
use Rattle.std.specs.List.{flat_map, list_all}
use Rattle.vh_tree.specs.Bits.{Bytes, Bits, same_bits, same_name, slice_of}
use Rattle.rw_base.specs.declared.bit.Bit9.TheVariants.{U}
use Rattle.vh_tree.specs.declared.expr.VExpr.{VExpr}
use Rattle.vh_tree.specs.declared.expr.VExpr.TheOpen.{VExpr-F, Name, Slice, Literal, Call, Join}
use Rattle.vh_tree.specs.declared.expr.VExpr.TheFolds.{fold-VExpr}
use Rattle.vh_tree.specs.declared.stmt.Test.{Test}
use Rattle.vh_tree.specs.declared.stmt.Test.TheVariants.{Equal, Rising, Reset}
use Rattle.vh_tree.specs.declared.stmt.VStmt.{VStmt}
use Rattle.vh_tree.specs.declared.stmt.Branch.{Branch}
use Rattle.vh_tree.specs.declared.stmt.VStmt.TheOpen.{VStmt-F, Assign, If, Branch-F}
use Rattle.vh_tree.specs.declared.stmt.VStmt.TheFolds.{fold-VStmt, fold-Branch}
use Rattle.vh_tree.specs.declared.function.Var.{Var}
use Rattle.vh_tree.specs.declared.function.Function.{Function}
use Rattle.vh_tree.specs.declared.design.Item.{Item}
use Rattle.vh_tree.specs.declared.design.Item.TheVariants.{Signal, Function as Declared}
use Rattle.vh_tree.specs.declared.wire.Held.{Held}

-- what the functions declared so far give: of a name and the arguments, the value
abbrev pub Calls : Type 0
Calls = Bytes → List Bits → Bits

-- what an expression reads: the value of each name, and that of each call
pub record Scope : Type 0 where
  pub value : Bytes → Bits
  pub call : Calls

-- one production of expressions, over what its parts mean
abbrev pub expr_step : VExpr-F (Scope → Bits) → Scope → Bits
expr_step (Name x) s = s.value x
expr_step (Slice x a b) s = slice_of a b (s.value x)
expr_step (Literal bits) s = bits
expr_step (Call f args) s = s.call f (map (λ a. a s) args)
expr_step (Join parts) s = flat_map (λ p. p s) parts

-- the value of an expression
abbrev pub expr_of : VExpr → Scope → Bits
expr_of = fold-VExpr (Scope → Bits) expr_step

-- names with their values
abbrev pub Store : Type 0
Store = List Held

-- the value of a name; a name that is none of these is that of a function without parameters
abbrev pub value_in : Store → Calls → Bytes → Bits
value_in [] calls x = calls x []
value_in (h ∷ hs) calls x = if same_name h.name x then h.value else value_in hs calls x

-- the names of a store, and the functions declared so far
abbrev pub scope_in : Calls → Store → Scope
scope_in calls store = record { value = value_in store calls; call = calls }

-- where statements stand, over states of any kind: what they read, what an assignment does, and the two tests of a process
pub record World (S : Type 0) : Type 0 where
  pub scope : S → Scope
  pub assign : Bytes → Bits → S → S
  pub rising : Bool
  pub reset : Bool

-- what a statement does to a state
abbrev pub Effect : Type 0 → Type 0
Effect S = World S → S → S

-- whether a test holds; `=` compares element by element
abbrev pub test_holds : (S : Type 0) → Test → World S → S → Bool
test_holds S (Equal e bits) w s = same_bits (expr_of e (w.scope s)) bits
test_holds S Rising w s = w.rising
test_holds S Reset w s = w.reset

-- statements in order
abbrev pub in_order : (S : Type 0) → List (Effect S) → Effect S
in_order S [] w s = s
in_order S (e ∷ es) w s = in_order S es w (e w s)

-- a branch of an `if`: whether it is taken, and what it does
abbrev pub Choice : Type 0 → Type 0
Choice S = (World S → S → Bool) × Effect S

-- the first branch whose tests all hold, or else the last statements
abbrev pub first_taken : (S : Type 0) → List (Choice S) → Effect S → Effect S
first_taken S [] other w s = other w s
first_taken S (b ∷ bs) other w s = if b.0 w s then b.1 w s else first_taken S bs other w s

-- a branch, over what its statements do
abbrev pub branch_step : (S : Type 0) → Branch-F (Effect S) (Choice S) → Choice S
branch_step S b = (λ w s. list_all (λ t. test_holds S t w s) b.tests, in_order S b.body)

-- one production of statements, over what its parts do
abbrev pub stmt_step : (S : Type 0) → VStmt-F (Effect S) (Choice S) → Effect S
stmt_step S (Assign x e) w s = w.assign x (expr_of e (w.scope s)) s
stmt_step S (If branches other) w s = first_taken S branches (in_order S other) w s

-- what a statement does
abbrev pub stmt_of : (S : Type 0) → VStmt → Effect S
stmt_of S = fold-VStmt (Effect S) (Choice S) (stmt_step S) (branch_step S)

-- what a branch tests and does
abbrev pub branch_of : (S : Type 0) → Branch → Choice S
branch_of S = fold-Branch (Effect S) (Choice S) (stmt_step S) (branch_step S)

-- what statements do, one after the other
abbrev pub stmts_of : (S : Type 0) → List VStmt → Effect S
stmts_of S body = in_order S (map (stmt_of S) body)

-- a value put to a name
abbrev pub held : Bytes → Bits → Held
held x v = record { name = x; value = v }

-- an assignment to a variable takes effect at once
abbrev pub stored : Bytes → Bits → Store → Store
stored x v [] = []
stored x v (h ∷ hs) = if same_name h.name x then held h.name v ∷ hs else h ∷ stored x v hs

-- the statements of a function read and assign its variables; neither test of a process is there
abbrev pub function_world : Calls → World Store
function_world calls = record { scope = scope_in calls; assign = stored; rising = false; reset = false }

-- a variable is all 'U' at first
abbrev pub variable_of : Var → Held
variable_of v = held v.name (replicate v.width U)

-- each parameter is its argument
abbrev pub parameters_of : List Bytes → List Bits → Store
parameters_of (x ∷ xs) (v ∷ vs) = held x v ∷ parameters_of xs vs
parameters_of xs vs = []

-- a function's store at first: its parameters, then its variables
abbrev pub entered : Function → List Bits → Store
entered f args = parameters_of f.params args ++ map variable_of f.vars

-- the value of a function of these arguments, over the functions declared before it
abbrev pub function_value : Calls → Function → List Bits → Bits
function_value calls f args = expr_of f.result (scope_in calls (stmts_of Store f.body (function_world calls) (entered f args)))

-- the functions declared so far, and one more: a call of its name is a call of it
abbrev pub declared : Function → Calls → Calls
declared f calls x args = if same_name f.name x then function_value calls f args else calls x args

-- the functions of these items, each over those declared before it
abbrev pub calls_after : Calls → List Item → Calls
calls_after calls [] = calls
calls_after calls (Signal v ∷ items) = calls_after calls items
calls_after calls (Declared f ∷ items) = calls_after (declared f calls) items

-- the functions of a design; a name of none gives nothing
abbrev pub calls_of : List Item → Calls
calls_of = calls_after (λ x args. [])

-- the widths of a function's parameters: those of its first variables
abbrev pub parameter_widths : Function → List ℕ
parameter_widths f = take (length f.params) (map (λ v. v.width) f.vars)
