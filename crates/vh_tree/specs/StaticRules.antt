-- The static rules of a design, V4 to V8: when each is broken, and which is the first.
use Rattle.std.specs.Prelude.{◌≡◌, ℕ, ◌+◌, ◌-◌, ◌^◌, List, [], ◌∷◌, ◌++◌, map, drop, length, Bool, true, false, not, ◌&&◌, ◌||◌, ◌==◌, nat_lt, nat_le, Option, Some, None, codes, count_by, if◌then◌else◌}
use Rattle.std.specs.List.{list_all, list_any}
use Rattle.vh_tree.specs.Bits.{Bytes, Bits, same_name, is_among}
use Rattle.vh_tree.specs.Functions.{parameter_widths}
use Rattle.rw_base.specs.declared.rule.VRule.{VRule}
use Rattle.rw_base.specs.declared.rule.VRule.TheVariants.{V4, V5, V6, V7, V8}
use Rattle.vh_tree.specs.declared.expr.VExpr.{VExpr}
use Rattle.vh_tree.specs.declared.expr.VExpr.TheOpen.{VExpr-F, Name, Slice, Literal, Call, Join}
use Rattle.vh_tree.specs.declared.expr.VExpr.TheFolds.{fold-VExpr}
use Rattle.vh_tree.specs.declared.stmt.Test.{Test}
use Rattle.vh_tree.specs.declared.stmt.Test.TheVariants.{Equal, Rising, Reset}
use Rattle.vh_tree.specs.declared.stmt.VStmt.{VStmt}
use Rattle.vh_tree.specs.declared.stmt.VStmt.TheOpen.{VStmt-F, Assign, If, Branch-F}
use Rattle.vh_tree.specs.declared.stmt.VStmt.TheFolds.{fold-VStmt}
use Rattle.vh_tree.specs.declared.function.Var.{Var}
use Rattle.vh_tree.specs.declared.function.Function.{Function}
use Rattle.vh_tree.specs.declared.process.Process.{Process}
use Rattle.vh_tree.specs.declared.design.Item.{Item}
use Rattle.vh_tree.specs.declared.design.Item.TheVariants.{Signal, Function as Declared}
use Rattle.vh_tree.specs.declared.design.Design.{Design}

-- == What all rules speak of ==

-- the functions of the items
abbrev pub functions_of : List Item → List Function
functions_of [] = []
functions_of (Signal v ∷ items) = functions_of items
functions_of (Declared f ∷ items) = f ∷ functions_of items

-- the declared signals of the items
abbrev pub declared_signals : List Item → List Var
declared_signals [] = []
declared_signals (Signal v ∷ items) = v ∷ declared_signals items
declared_signals (Declared f ∷ items) = declared_signals items

abbrev pub names_of : List Var → List Bytes
names_of vars = map (λ v. v.name) vars

-- the names of the items
abbrev pub item_names : List Item → List Bytes
item_names [] = []
item_names (Signal v ∷ items) = v.name ∷ item_names items
item_names (Declared f ∷ items) = f.name ∷ item_names items

-- no two of these are the same
abbrev pub are_distinct : List Bytes → Bool
are_distinct [] = true
are_distinct (x ∷ xs) = not (is_among x xs) && are_distinct xs

abbrev pub all_true : List Bool → Bool
all_true bs = list_all (λ b. b) bs

abbrev pub any_true : List Bool → Bool
any_true bs = list_any (λ b. b) bs

-- a rule for assignments and a rule for tests, over each of a statement's
abbrev pub rule_step : (Bytes → VExpr → Bool) → VStmt-F Bool Bool → Bool
rule_step assignment (Assign x e) = assignment x e
rule_step assignment (If branches other) = all_true branches && all_true other

abbrev pub branch_rule_step : (Test → Bool) → Branch-F Bool Bool → Bool
branch_rule_step test b = list_all test b.tests && all_true b.body

abbrev pub keeps : (Bytes → VExpr → Bool) → (Test → Bool) → VStmt → Bool
keeps assignment test = fold-VStmt Bool Bool (rule_step assignment) (branch_rule_step test)

-- a test by what its expression is asked, and by whether a process's tests may stand here
abbrev pub test_keeps : (VExpr → Bits → Bool) → Bool → Test → Bool
test_keeps equality in_process (Equal e bits) = equality e bits
test_keeps equality in_process Rising = in_process
test_keeps equality in_process Reset = in_process

-- whether a statement assigns to this name
abbrev pub assigns_step : Bytes → VStmt-F Bool Bool → Bool
assigns_step x (Assign y e) = same_name x y
assigns_step x (If branches other) = any_true branches || any_true other

abbrev pub branch_assigns_step : Branch-F Bool Bool → Bool
branch_assigns_step b = any_true b.body

abbrev pub assigns : Bytes → VStmt → Bool
assigns x = fold-VStmt Bool Bool (assigns_step x) branch_assigns_step

-- whether a process does
abbrev pub drives : Bytes → Process → Bool
drives x p = list_any (assigns x) p.body

-- == V4: names ==

-- what an expression may name: what it may read, and how many parameters each function has
pub record Names : Type 0 where
  pub reads : Bytes → Bool
  pub arity : Bytes → Option ℕ

-- how many parameters the function of this name has
abbrev pub arity_in : List Function → Bytes → Option ℕ
arity_in [] x = None
arity_in (f ∷ fs) x = if same_name f.name x then Some (length f.params) else arity_in fs x

abbrev pub has_arity : Option ℕ → ℕ → Bool
has_arity None n = false
has_arity (Some k) n = k == n

-- a name is read or is a function without parameters; a slice is of what is read; a call has as many arguments as parameters
abbrev pub names_step : Names → VExpr-F Bool → Bool
names_step names (Name x) = names.reads x || has_arity (names.arity x) 0
names_step names (Slice x a b) = names.reads x
names_step names (Literal bits) = true
names_step names (Call f args) = has_arity (names.arity f) (length args) && all_true args
names_step names (Join parts) = all_true parts

abbrev pub names_well : Names → VExpr → Bool
names_well names = fold-VExpr Bool (names_step names)

-- the same of a statement, which assigns to what it may
abbrev pub stmt_names_well : Names → (Bytes → Bool) → Bool → VStmt → Bool
stmt_names_well names assignable in_process =
    keeps (λ x e. assignable x && names_well names e) (test_keeps (λ e bits. names_well names e) in_process)

-- whether an expression is this bare name
abbrev pub is_name_step : Bytes → VExpr-F Bool → Bool
is_name_step x (Name y) = same_name x y
is_name_step x (Slice y a b) = false
is_name_step x (Literal bits) = false
is_name_step x (Call f args) = false
is_name_step x (Join parts) = false

abbrev pub is_name : Bytes → VExpr → Bool
is_name x = fold-VExpr Bool (is_name_step x)

-- whether a statement is `v := p ;`
abbrev pub copies_step : Bytes → Bytes → VStmt-F Bool Bool → Bool
copies_step v p (Assign x e) = same_name v x && is_name p e
copies_step v p (If branches other) = false

abbrev pub copies : Bytes → Bytes → VStmt → Bool
copies v p = fold-VStmt Bool Bool (copies_step v p) (λ b. false)

-- the first statements put the parameters, in order, into the first variables
abbrev pub begins_with_copies : List Bytes → List Var → List VStmt → Bool
begins_with_copies [] vars body = true
begins_with_copies (p ∷ ps) [] body = false
begins_with_copies (p ∷ ps) (v ∷ vs) [] = false
begins_with_copies (p ∷ ps) (v ∷ vs) (s ∷ body) = copies v.name p s && begins_with_copies ps vs body

-- in a function: its variables, and all functions of the design; a parameter is read by the first statements alone
abbrev pub names_in_function : List Item → Function → Names
names_in_function items f = record { reads = λ x. is_among x (names_of f.vars); arity = arity_in (functions_of items) }

abbrev pub function_names_well : List Item → Function → Bool
function_names_well items f =
    are_distinct (item_names items ++ (f.params ++ names_of f.vars))
    && begins_with_copies f.params f.vars f.body
    && list_all (stmt_names_well (names_in_function items f) (λ x. is_among x (names_of f.vars)) false) (drop (length f.params) f.body)
    && names_well (names_in_function items f) f.result

-- in a process: the signals, `inp`, and all functions
abbrev pub signal_names : List Item → List Bytes
signal_names items = names_of (declared_signals items)

abbrev pub names_in_process : List Item → Names
names_in_process items = record { reads = λ x. is_among x (codes "inp" ∷ signal_names items); arity = arity_in (functions_of items) }

-- what a process may assign to, and what it may listen to
abbrev pub driven_names : List Item → List Bytes
driven_names items = codes "outp" ∷ signal_names items

abbrev pub heard_names : List Item → List Bytes
heard_names items = codes "clk" ∷ codes "rst" ∷ codes "inp" ∷ signal_names items

abbrev pub process_names_well : List Item → Process → Bool
process_names_well items p =
    list_all (λ x. is_among x (heard_names items)) p.sensitive
    && are_distinct p.sensitive
    && list_all (stmt_names_well (names_in_process items) (λ x. is_among x (driven_names items)) true) p.body

-- V4 is broken
abbrev pub breaks_names : Design → Bool
breaks_names d =
    not (are_distinct (item_names d.items) && list_all (function_names_well d.items) (functions_of d.items) && list_all (process_names_well d.items) d.processes)

-- == V5: widths ==

-- a width, or None, unknown: it depends on a call that breaks V7
abbrev pub Width : Type 0
Width = Option ℕ

-- a function that is declared before: the widths of its parameters, and that of its result
pub record Shape : Type 0 where
  pub params : List ℕ
  pub result : Width

abbrev pub result_of : Option Shape → Width
result_of None = None
result_of (Some shape) = shape.result

-- the widths of what is read, and the functions declared before
pub record Widths : Type 0 where
  pub named : Bytes → Width
  pub known : Bytes → Option Shape

-- the width of a name: of what is read, or else of a function's result
abbrev pub width_of_name : Width → Option Shape → Width
width_of_name None shape = result_of shape
width_of_name (Some n) shape = Some n

-- two widths agree; an unknown one is left to V7
abbrev pub agree : Width → Width → Bool
agree None w = true
agree (Some n) None = true
agree (Some n) (Some m) = n == m

-- arguments agree with parameters, one by one, as far as both go
abbrev pub all_agree : List Width → List ℕ → Bool
all_agree [] ns = true
all_agree (w ∷ ws) [] = true
all_agree (w ∷ ws) (n ∷ ns) = agree w (Some n) && all_agree ws ns

abbrev pub arguments_agree : List Width → Option Shape → Bool
arguments_agree ws None = true
arguments_agree ws (Some shape) = all_agree ws shape.params

-- the sum of the parts' widths; none where a part's is unknown
abbrev pub sum_widths : Width → Width → Width
sum_widths None w = None
sum_widths (Some n) None = None
sum_widths (Some n) (Some m) = Some (n + m)

abbrev pub joined_width : List Width → Width
joined_width [] = Some 0
joined_width (w ∷ ws) = sum_widths w (joined_width ws)

-- the greatest width of a declaration and of a join
abbrev pub greatest_width : ℕ
greatest_width = 2 ^ 30

abbrev pub is_within : Width → Bool
is_within None = true
is_within (Some n) = nat_le n greatest_width

-- `a downto b` lies in a name of width n where n > a >= b
abbrev pub slice_lies : Width → ℕ → ℕ → Bool
slice_lies None a b = true
slice_lies (Some n) a b = nat_lt a n && nat_le b a

-- an expression's width, and whether the widths in it agree
pub record Measured : Type 0 where
  pub width : Width
  pub fits : Bool

abbrev pub widths_step : Widths → VExpr-F Measured → Measured
widths_step ws (Name x) = record { width = width_of_name (ws.named x) (ws.known x); fits = true }
widths_step ws (Slice x a b) = record { width = Some (a + 1 - b); fits = slice_lies (ws.named x) a b }
widths_step ws (Literal bits) = record { width = Some (length bits); fits = true }
widths_step ws (Call f args) = record {
  width = result_of (ws.known f);
  fits = list_all (λ m. m.fits) args && arguments_agree (map (λ m. m.width) args) (ws.known f);
}
widths_step ws (Join parts) =
    let width : Width = joined_width (map (λ m. m.width) parts) in
    record { width = width; fits = list_all (λ m. m.fits) parts && is_within width }

abbrev pub measured : Widths → VExpr → Measured
measured ws = fold-VExpr Measured (widths_step ws)

-- an expression fits and agrees with a width
abbrev pub fits_in : Widths → Width → VExpr → Bool
fits_in ws w e = (measured ws e).fits && agree w (measured ws e).width

-- the two sides of an assignment agree, and those of `=`
abbrev pub stmt_fits : Widths → VStmt → Bool
stmt_fits ws = keeps (λ x e. fits_in ws (ws.named x) e) (test_keeps (λ e bits. fits_in ws (Some (length bits)) e) true)

-- the width of a name among these
abbrev pub width_among : List Var → Bytes → Width
width_among [] x = None
width_among (v ∷ vs) x = if same_name v.name x then Some v.width else width_among vs x

-- parameters with the widths of the variables that they are put into
abbrev pub parameter_vars : List Bytes → List Var → List Var
parameter_vars (p ∷ ps) (v ∷ vs) = record { name = p; width = v.width } ∷ parameter_vars ps vs
parameter_vars ps vs = []

abbrev pub widths_in_function : (Bytes → Option Shape) → Function → Widths
widths_in_function known f = record { named = width_among (parameter_vars f.params f.vars ++ f.vars); known = known }

-- what a function is to those after it
abbrev pub shape_of : (Bytes → Option Shape) → Function → Shape
shape_of known f = record { params = parameter_widths f; result = (measured (widths_in_function known f) f.result).width }

abbrev pub shaped : Function → (Bytes → Option Shape) → Bytes → Option Shape
shaped f known x = if same_name f.name x then Some (shape_of known f) else known x

-- a declared width
abbrev pub is_width : ℕ → Bool
is_width n = nat_le 1 n && nat_le n greatest_width

abbrev pub function_fits : (Bytes → Option Shape) → Function → Bool
function_fits known f =
    list_all (λ v. is_width v.width) f.vars && list_all (stmt_fits (widths_in_function known f)) f.body && (measured (widths_in_function known f) f.result).fits

-- the items in order, each over the functions before it
abbrev pub items_fit : (Bytes → Option Shape) → List Item → Bool
items_fit known [] = true
items_fit known (Signal v ∷ items) = is_width v.width && items_fit known items
items_fit known (Declared f ∷ items) = function_fits known f && items_fit (shaped f known) items

abbrev pub shapes_after : (Bytes → Option Shape) → List Item → Bytes → Option Shape
shapes_after known [] = known
shapes_after known (Signal v ∷ items) = shapes_after known items
shapes_after known (Declared f ∷ items) = shapes_after (shaped f known) items

abbrev pub shapes_of : List Item → Bytes → Option Shape
shapes_of = shapes_after (λ x. None)

-- the ports and the signals
abbrev pub port : Bytes → ℕ → Var
port name width = record { name = name; width = width }

abbrev pub process_vars : Design → List Var
process_vars d = port (codes "clk") 1 ∷ port (codes "rst") 1 ∷ port (codes "inp") d.inp ∷ port (codes "outp") d.outp ∷ declared_signals d.items

abbrev pub widths_in_process : Design → Widths
widths_in_process d = record { named = width_among (process_vars d); known = shapes_of d.items }

-- V5 is broken
abbrev pub breaks_widths : Design → Bool
breaks_widths d =
    not (is_width d.inp && is_width d.outp && items_fit (λ x. None) d.items && list_all (λ p. list_all (stmt_fits (widths_in_process d)) p.body) d.processes)

-- == V6: drivers ==

-- V6 is broken: a signal or `outp` isn't assigned in exactly one process
abbrev pub breaks_drivers : Design → Bool
breaks_drivers d = not (list_all (λ x. count_by (drives x) d.processes == 1) (driven_names d.items))

-- == V7: functions before their use ==

-- a name that is called, or stands bare, is none of a function that is not declared before
abbrev pub order_step : (Bytes → Bool) → VExpr-F Bool → Bool
order_step usable (Name x) = usable x
order_step usable (Slice x a b) = true
order_step usable (Literal bits) = true
order_step usable (Call f args) = usable f && all_true args
order_step usable (Join parts) = all_true parts

abbrev pub uses_earlier : (Bytes → Bool) → VExpr → Bool
uses_earlier usable = fold-VExpr Bool (order_step usable)

abbrev pub stmt_uses_earlier : (Bytes → Bool) → VStmt → Bool
stmt_uses_earlier usable = keeps (λ x e. uses_earlier usable e) (test_keeps (λ e bits. uses_earlier usable e) true)

abbrev pub function_uses_earlier : (Bytes → Bool) → Function → Bool
function_uses_earlier usable f = list_all (stmt_uses_earlier usable) f.body && uses_earlier usable f.result

-- what may be used where these functions are not yet declared
abbrev pub all_use_earlier : List Function → Bool
all_use_earlier [] = true
all_use_earlier (f ∷ fs) = function_uses_earlier (λ x. not (is_among x (map (λ g. g.name) (f ∷ fs)))) f && all_use_earlier fs

-- V7 is broken; all functions are declared before the processes
abbrev pub breaks_order : Design → Bool
breaks_order d = not (all_use_earlier (functions_of d.items))

-- == V8: ports ==

abbrev pub greatest_port : ℕ
greatest_port = 1024

-- V8 is broken
abbrev pub breaks_ports : Design → Bool
breaks_ports d = not (nat_le d.inp greatest_port && nat_le d.outp greatest_port)

-- == All ==

-- the static rules hold
pub record IsStatic (d : Design) : Type 0 where
  pub names : breaks_names d ≡ false
  pub widths : breaks_widths d ≡ false
  pub drivers : breaks_drivers d ≡ false
  pub order : breaks_order d ≡ false
  pub ports : breaks_ports d ≡ false

-- the first of V4 to V8 that is broken
abbrev pub first_broken : Design → Option VRule
first_broken d =
    if breaks_names d then Some V4
    else if breaks_widths d then Some V5
    else if breaks_drivers d then Some V6
    else if breaks_order d then Some V7
    else if breaks_ports d then Some V8
    else None
