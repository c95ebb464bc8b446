-- The canonical text of a design: its tokens in order, in lower case, with one space or one LF behind each.
use Rattle.std.specs.Prelude.{ℕ, ◌-◌, Bool, true, false, List, [], ◌∷◌, ◌++◌, map, if◌then◌else◌}
use Rattle.std.specs.List.{flat_map}
use Rattle.vh_tree.specs.declared.token.Mark.{Mark}
use Rattle.vh_tree.specs.declared.token.Mark.TheVariants as m
use Rattle.vh_tree.specs.declared.token.Token.{Token}
use Rattle.vh_tree.specs.declared.token.Token.TheVariants as t
use Rattle.vh_tree.specs.declared.token.Side.{Side}
use Rattle.vh_tree.specs.declared.token.Side.TheVariants as side
use Rattle.vh_tree.specs.declared.expr.VExpr.{VExpr}
use Rattle.vh_tree.specs.declared.expr.VExpr.TheOpen.{VExpr-F, Name, Slice, Literal, Call, Join}
use Rattle.vh_tree.specs.declared.expr.VExpr.TheFolds.{fold-VExpr}
use Rattle.vh_tree.specs.declared.stmt.Test.{Test}
use Rattle.vh_tree.specs.declared.stmt.Test.TheVariants.{Equal, Rising, Reset}
use Rattle.vh_tree.specs.declared.stmt.VStmt.{VStmt}
use Rattle.vh_tree.specs.declared.stmt.Branch.{Branch}
use Rattle.vh_tree.specs.declared.stmt.VStmt.TheOpen.{VStmt-F, Assign, If, Branch-F}
use Rattle.vh_tree.specs.declared.stmt.VStmt.TheFolds.{fold-VStmt, fold-Branch}
use Rattle.vh_tree.specs.declared.function.Var.{Var}
use Rattle.vh_tree.specs.declared.function.Function.{Function}
use Rattle.vh_tree.specs.declared.process.Process.{Process}
use Rattle.vh_tree.specs.declared.design.Item.{Item}
use Rattle.vh_tree.specs.declared.design.Item.TheVariants.{Signal, Function as Declared}
use Rattle.vh_tree.specs.declared.design.Design.{Design}
use Rattle.vh_tree.specs.VToken.{bytes_of, name_token, marks, assign_mark, library_marks, entity_marks, outp_marks, architecture_marks, end_marks}

-- ---- tokens and their text

-- these tokens end a line
abbrev pub ends_line : Token → Bool
ends_line (t.Mark m.Semicolon) = true
ends_line (t.Mark m.Is) = true
ends_line (t.Mark m.Begin) = true
ends_line (t.Mark m.Then) = true
ends_line (t.Mark m.Else) = true
ends_line _ = false

-- what stands behind a token: LF or a space
abbrev pub separator : Token → ℕ
separator x = if ends_line x then 10 else 32

-- a token and what stands behind it
unfoldable pub with_separator : Token → List ℕ
with_separator x = bytes_of x ++ separator x ∷ []

-- the text of tokens
abbrev pub spelled : List Token → List ℕ
spelled = flat_map with_separator

-- ---- lists

-- one after another
abbrev pub joined : List (List Token) → List Token
joined = flat_map (λ (ts : List Token). ts)

-- each with this mark before it
abbrev pub each_after : Mark → List (List Token) → List Token
each_after a = flat_map (λ (ts : List Token). t.Mark a ∷ ts)

-- with this mark between two
abbrev pub separated : Mark → List (List Token) → List Token
separated a [] = []
separated a (ts ∷ others) = ts ++ each_after a others

-- ---- expressions

-- `( a downto b )`
abbrev pub range_tokens : ℕ → ℕ → List Token
range_tokens a b = t.Mark m.Opens ∷ t.Number a ∷ t.Mark m.Downto ∷ t.Number b ∷ t.Mark m.Closes ∷ []

-- the tokens of an expression, from those of its parts
abbrev pub expr_step : VExpr-F (List Token) → List Token
expr_step (Name x) = name_token x ∷ []
expr_step (Slice x a b) = name_token x ∷ range_tokens a b
expr_step (Literal bits) = t.Bits bits ∷ []
expr_step (Call f args) = name_token f ∷ t.Mark m.Opens ∷ (separated m.Comma args ++ t.Mark m.Closes ∷ [])
expr_step (Join parts) = separated m.Amp parts

-- the tokens of an expression
abbrev pub expr_tokens : VExpr → List Token
expr_tokens = fold-VExpr (List Token) expr_step

-- ---- statements

-- the tokens of a test
abbrev pub test_tokens : Test → List Token
test_tokens (Equal e bits) = expr_tokens e ++ t.Mark m.Equal ∷ t.Bits bits ∷ []
test_tokens Rising = marks (m.RisingEdge ∷ m.Opens ∷ m.Clk ∷ m.Closes ∷ [])
test_tokens Reset = marks (m.Rst ∷ m.Equal ∷ m.High ∷ [])

-- `else` and its statements; an empty one is not written
abbrev pub else_tokens : List (List Token) → List Token
else_tokens [] = []
else_tokens (ts ∷ others) = t.Mark m.Else ∷ joined (ts ∷ others)

-- the tokens of a branch, from those of its statements
abbrev pub branch_step : Branch-F (List Token) (List Token) → List Token
branch_step b = separated m.And (map test_tokens b.tests) ++ t.Mark m.Then ∷ joined b.body

-- the tokens of a statement, from those of its parts
abbrev pub stmt_step : Side → VStmt-F (List Token) (List Token) → List Token
stmt_step at (Assign x e) = name_token x ∷ t.Mark (assign_mark at) ∷ (expr_tokens e ++ t.Mark m.Semicolon ∷ [])
stmt_step at (If branches other) = t.Mark m.If ∷ (separated m.Elsif branches ++ (else_tokens other ++ marks (m.End ∷ m.If ∷ m.Semicolon ∷ [])))

-- the tokens of a statement of a function or a process
abbrev pub stmt_tokens : Side → VStmt → List Token
stmt_tokens at = fold-VStmt (List Token) (List Token) (stmt_step at) branch_step

-- the tokens of a branch of an `if` there
abbrev pub branch_tokens : Side → Branch → List Token
branch_tokens at = fold-Branch (List Token) (List Token) (stmt_step at) branch_step

-- the tokens of statements
abbrev pub stmts_tokens : Side → List VStmt → List Token
stmts_tokens at body = joined (map (stmt_tokens at) body)

-- ---- declarations, processes, and the whole

-- the type of n wires
unfoldable pub vec_tokens : ℕ → List Token
vec_tokens n = t.Mark m.StdLogicVector ∷ range_tokens (n - 1) 0

-- a declaration of a variable or a signal
abbrev pub var_tokens : Mark → Var → List Token
var_tokens keyword v = t.Mark keyword ∷ name_token v.name ∷ t.Mark m.Colon ∷ (vec_tokens v.width ++ t.Mark m.Semicolon ∷ [])

-- a parameter
abbrev pub param_tokens : List ℕ → List Token
param_tokens name = name_token name ∷ marks (m.Colon ∷ m.StdLogicVector ∷ [])

-- the parameters of a function; where it has none, no parentheses either
abbrev pub params_tokens : List (List ℕ) → List Token
params_tokens [] = []
params_tokens (x ∷ xs) = t.Mark m.Opens ∷ (separated m.Semicolon (map param_tokens (x ∷ xs)) ++ t.Mark m.Closes ∷ [])

-- a function from its name to its variables
abbrev pub function_head : Function → List Token
function_head f =
    t.Mark m.Function ∷ name_token f.name ∷ (params_tokens f.params ++ (marks (m.Return ∷ m.StdLogicVector ∷ m.Is ∷ []) ++ joined (map (var_tokens m.Variable) f.vars)))

-- the end of a function of this name, from the `;` behind what it returns
abbrev pub function_end : List ℕ → List Token
function_end name = t.Mark m.Semicolon ∷ t.Mark m.End ∷ name_token name ∷ t.Mark m.Semicolon ∷ []

-- a function from `begin` to its end
abbrev pub function_tail : Function → List Token
function_tail f = t.Mark m.Begin ∷ (stmts_tokens side.Function f.body ++ t.Mark m.Return ∷ (expr_tokens f.result ++ function_end f.name))

-- the tokens of what is declared in the architecture
abbrev pub item_tokens : Item → List Token
item_tokens (Signal v) = var_tokens m.Signal v
item_tokens (Declared f) = function_head f ++ function_tail f

-- names with `,` between two
abbrev pub names_tokens : List (List ℕ) → List Token
names_tokens names = separated m.Comma (map (λ (name : List ℕ). name_token name ∷ []) names)

-- the tokens of a process
abbrev pub process_tokens : Process → List Token
process_tokens p =
    marks (m.Process ∷ m.Opens ∷ []) ++ (names_tokens p.sensitive
    ++ (marks (m.Closes ∷ m.Begin ∷ []) ++ (stmts_tokens side.Process p.body ++ marks (m.End ∷ m.Process ∷ m.Semicolon ∷ []))))

-- what stands before the declarations
unfoldable pub head_tokens : ℕ → ℕ → List Token
head_tokens inp outp = marks library_marks ++ (marks entity_marks ++ (vec_tokens inp ++ (marks outp_marks ++ (vec_tokens outp ++ marks architecture_marks))))

-- the tokens of a design
abbrev pub design_tokens : Design → List Token
design_tokens d =
    head_tokens d.inp d.outp ++ (joined (map item_tokens d.items) ++ t.Mark m.Begin ∷ (joined (map process_tokens d.processes) ++ marks end_marks))

-- the canonical text of a design
abbrev pub canonical_text : Design → List ℕ
canonical_text d = spelled (design_tokens d)
