-- Which designs can be spelled at all: what the grammar asks of a tree, with no word of tokens.
use Rattle.std.specs.Prelude.{◌≡◌, ◌≢◌, ℕ, zero, suc, ◌<◌, ◌≤◌, ◌^◌, true, List, [], ◌∷◌, length, map, codes}
use Rattle.std.specs.List.{list_all, list_any}
use Rattle.std.specs.Char.{is_ascii_digit, to_ascii_lowercase}
use Rattle.rw_base.specs.declared.bit.Bit9.{Bit9}
use Rattle.vh_tree.specs.declared.token.Side.{Side}
use Rattle.vh_tree.specs.declared.token.Side.TheVariants as side
use Rattle.vh_tree.specs.declared.expr.VExpr.{VExpr}
use Rattle.vh_tree.specs.declared.expr.VExpr.TheVariants as w
use Rattle.vh_tree.specs.declared.stmt.Test.{Test}
use Rattle.vh_tree.specs.declared.stmt.Test.TheVariants as c
use Rattle.vh_tree.specs.declared.stmt.VStmt.{VStmt}
use Rattle.vh_tree.specs.declared.stmt.VStmt.TheVariants as s
use Rattle.vh_tree.specs.declared.stmt.Branch.{Branch}
use Rattle.vh_tree.specs.declared.function.Var.{Var}
use Rattle.vh_tree.specs.declared.function.Function.{Function}
use Rattle.vh_tree.specs.declared.process.Process.{Process}
use Rattle.vh_tree.specs.declared.design.Item.{Item}
use Rattle.vh_tree.specs.declared.design.Item.TheVariants as i
use Rattle.vh_tree.specs.declared.design.Design.{Design}
use Rattle.vh_tree.specs.Text.{in_word, begins_letter, single_underscores}
use Rattle.vh_tree.specs.Grammar.{max_levels}

-- a declared name: a word in lower case with a digit, other than `std_logic_1164`
pub record IdFits (x : List ℕ) : Type 0 where
  pub begins : begins_letter x ≡ true
  pub word : list_all in_word x ≡ true
  pub low : map to_ascii_lowercase x ≡ x
  pub digit : list_any is_ascii_digit x ≡ true
  pub single : single_underscores x ≡ true
  pub other : x ≢ codes "std_logic_1164"

-- a name in an expression
pub data NameFits : List ℕ → Type 0 where
  an_id : (x : List ℕ) → IdFits x → NameFits x
  the_input : NameFits (codes "inp")

-- a name on the left of an assignment
pub data TargetFits : Side → List ℕ → Type 0 where
  an_id : (at : Side) (x : List ℕ) → IdFits x → TargetFits at x
  the_output : TargetFits side.Process (codes "outp")

-- a name of a sensitivity list
pub data SensitiveFits : List ℕ → Type 0 where
  an_id : (x : List ℕ) → IdFits x → SensitiveFits x
  the_clock : SensitiveFits (codes "clk")
  the_reset : SensitiveFits (codes "rst")
  the_input : SensitiveFits (codes "inp")

-- every element fits
abbrev pub Each : {A : Type 0} → (A → Type 0) → List A → Type 0
Each Fits [] = Unit {0}
Each Fits (x ∷ xs) = Fits x × Each Fits xs

-- there is an element, and every one fits
abbrev pub OneOrMore : {A : Type 0} → (A → Type 0) → List A → Type 0
OneOrMore Fits xs = (0 < length xs) × Each Fits xs

-- a name, a slice or a call; Args is what may stand in the parentheses of a call
pub data RefFits (Args : List VExpr → Type 0) : VExpr → Type 0 where
  a_name : (x : List ℕ) → NameFits x → RefFits Args (w.Name x)
  a_slice : (x : List ℕ) (a b : ℕ) → NameFits x → a < 2 ^ 31 → b < 2 ^ 31 → RefFits Args (w.Slice x a b)
  a_call : (f : List ℕ) (es : List VExpr) → IdFits f → Args es → RefFits Args (w.Call f es)

-- what is no join
pub data TermFits (Args : List VExpr → Type 0) : VExpr → Type 0 where
  a_ref : (e : VExpr) → RefFits Args e → TermFits Args e
  a_literal : (bits : List Bit9) → 0 < length bits → TermFits Args (w.Literal bits)

-- an expression: a join has two parts or more, and none is a join
pub data ExprFits (Args : List VExpr → Type 0) : VExpr → Type 0 where
  a_term : (e : VExpr) → TermFits Args e → ExprFits Args e
  a_join : (e f : VExpr) (es : List VExpr) → Each (TermFits Args) (e ∷ f ∷ es) → ExprFits Args (w.Join (e ∷ f ∷ es))

-- what stands in a call's parentheses, with at most so many levels there, the call's own among them
abbrev pub ArgsFit : ℕ → List VExpr → Type 0
ArgsFit zero es = ⊥
ArgsFit (suc n) es = OneOrMore (ExprFits (ArgsFit n)) es

-- a test
pub data TestFits (Args : List VExpr → Type 0) : Test → Type 0 where
  equal : (e : VExpr) (bits : List Bit9) → RefFits Args e → 0 < length bits → TestFits Args (c.Equal e bits)
  rising : TestFits Args c.Rising
  reset : TestFits Args c.Reset

-- a branch of an `if`
pub data BranchFits (Args : List VExpr → Type 0) (Stmts : List VStmt → Type 0) : Branch → Type 0 where
  a_branch : (tests : List Test) (body : List VStmt) → OneOrMore (TestFits Args) tests → Stmts body → BranchFits Args Stmts (record { tests = tests; body = body })

-- a statement; Choice is what may stand behind an `if`
pub data StmtFits (at : Side) (Args : List VExpr → Type 0) (Choice : List Branch × List VStmt → Type 0) : VStmt → Type 0 where
  an_assignment : (x : List ℕ) (e : VExpr) → TargetFits at x → ExprFits Args e → StmtFits at Args Choice (s.Assign x e)
  an_if : (branches : List Branch) (other : List VStmt) → Choice (branches, other) → StmtFits at Args Choice (s.If branches other)

-- what stands behind an `if`, with at most so many levels there, its own among them
abbrev pub ChoiceFits : Side → ℕ → List Branch × List VStmt → Type 0
ChoiceFits at zero p = ⊥
ChoiceFits at (suc n) p = OneOrMore (BranchFits (ArgsFit n) (Each (StmtFits at (ArgsFit n) (ChoiceFits at n)))) p.0 × Each (StmtFits at (ArgsFit n) (ChoiceFits at n)) p.1

-- statements, with at most so many levels inside
abbrev pub StmtsFit : Side → ℕ → List VStmt → Type 0
StmtsFit at n = Each (StmtFits at (ArgsFit n) (ChoiceFits at n))

-- a width that a number can say
abbrev pub WidthFits : ℕ → Type 0
WidthFits n = (0 < n) × (n ≤ 2 ^ 31)

-- a variable or a signal
pub record VarFits (v : Var) : Type 0 where
  pub name : IdFits v.name
  pub width : WidthFits v.width

-- a function
pub record FunctionFits (levels : ℕ) (f : Function) : Type 0 where
  pub name : IdFits f.name
  pub params : Each IdFits f.params
  pub vars : Each VarFits f.vars
  pub body : StmtsFit side.Function levels f.body
  pub result : ExprFits (ArgsFit levels) f.result

-- what is declared in the architecture
pub data ItemFits (levels : ℕ) : Item → Type 0 where
  a_signal : (v : Var) → VarFits v → ItemFits levels (i.Signal v)
  a_function : (f : Function) → FunctionFits levels f → ItemFits levels (i.Function f)

-- a process
pub record ProcessFits (levels : ℕ) (p : Process) : Type 0 where
  pub sensitive : OneOrMore SensitiveFits p.sensitive
  pub body : StmtsFit side.Process levels p.body

-- a design that can be spelled
pub record IsSpellable (d : Design) : Type 0 where
  pub inp : WidthFits d.inp
  pub outp : WidthFits d.outp
  pub items : Each (ItemFits max_levels) d.items
  pub processes : Each (ProcessFits max_levels) d.processes
