-- One equation for each production: what a fold over a design gives at it. A fold does not compute by itself.
use Rattle.std.specs.Prelude.{◌≡◌, ℕ, ◌+◌, ◌-◌, List, map, length, Bool, true, false, ◌&&◌, ◌||◌, Some}
use Rattle.std.specs.List.{list_all, flat_map}
use mathlib.Core.Path.{sym, ap, ◌∙◌}
use Rattle.vh_tree.specs.Bits.{Bytes, Bits, same_name, slice_of}
use Rattle.vh_tree.specs.Functions.{Scope, World, Effect, Choice, expr_step, expr_of, stmt_step, branch_step, stmt_of, branch_of, stmts_of, first_taken, test_holds}
use Rattle.vh_tree.specs.StaticRules.{Names, Widths, Measured, all_true, any_true, has_arity, width_of_name, result_of, slice_lies, arguments_agree, joined_width, is_within, names_step, names_well, is_name_step, is_name, widths_step, measured, order_step, uses_earlier, rule_step, branch_rule_step, keeps, assigns_step, branch_assigns_step, assigns, copies_step, copies}
use Rattle.vh_tree.specs.declared.expr.VExpr.{VExpr}
use Rattle.vh_tree.specs.declared.expr.VExpr.TheOpen as o
use Rattle.vh_tree.specs.declared.expr.VExpr.TheVariants as v
use Rattle.vh_tree.specs.declared.expr.VExpr.TheFolds.{fold-roll-VExpr}
use Rattle.vh_tree.specs.declared.stmt.Test.{Test}
use Rattle.vh_tree.specs.declared.stmt.VStmt.{VStmt}
use Rattle.vh_tree.specs.declared.stmt.Branch.{Branch}
use Rattle.vh_tree.specs.declared.stmt.VStmt.TheOpen as so
use Rattle.vh_tree.specs.declared.stmt.VStmt.TheVariants as sv
use Rattle.vh_tree.specs.declared.stmt.VStmt.TheFolds.{fold-roll-VStmt, fold-roll-Branch, fold-Branch}

-- the value of an expression
pub expr_of-Name : (x : Bytes) (s : Scope) → expr_of (v.Name x) s ≡ s.value x
expr_of-Name x s = ap (λ (e : VExpr). expr_of e s) (sym (v.rolls-Name x)) ∙ ap (λ (m : Scope → Bits). m s) (fold-roll-VExpr (Scope → Bits) expr_step (o.Name x))

pub expr_of-Slice : (x : Bytes) (a b : ℕ) (s : Scope) → expr_of (v.Slice x a b) s ≡ slice_of a b (s.value x)
expr_of-Slice x a b s = ap (λ (e : VExpr). expr_of e s) (sym (v.rolls-Slice x a b)) ∙ ap (λ (m : Scope → Bits). m s) (fold-roll-VExpr (Scope → Bits) expr_step (o.Slice x a b))

pub expr_of-Literal : (bits : Bits) (s : Scope) → expr_of (v.Literal bits) s ≡ bits
expr_of-Literal bits s = ap (λ (e : VExpr). expr_of e s) (sym (v.rolls-Literal bits)) ∙ ap (λ (m : Scope → Bits). m s) (fold-roll-VExpr (Scope → Bits) expr_step (o.Literal bits))

pub expr_of-Call : (f : Bytes) (args : List VExpr) (s : Scope) → expr_of (v.Call f args) s ≡ s.call f (map (λ a. a s) (map expr_of args))
expr_of-Call f args s = ap (λ (e : VExpr). expr_of e s) (sym (v.rolls-Call f args)) ∙ ap (λ (m : Scope → Bits). m s) (fold-roll-VExpr (Scope → Bits) expr_step (o.Call f args))

pub expr_of-Join : (parts : List VExpr) (s : Scope) → expr_of (v.Join parts) s ≡ flat_map (λ p. p s) (map expr_of parts)
expr_of-Join parts s = ap (λ (e : VExpr). expr_of e s) (sym (v.rolls-Join parts)) ∙ ap (λ (m : Scope → Bits). m s) (fold-roll-VExpr (Scope → Bits) expr_step (o.Join parts))

-- whether an expression's names are well used
pub names_well-Name : (names : Names) (x : Bytes) → names_well names (v.Name x) ≡ (names.reads x || has_arity (names.arity x) 0)
names_well-Name names x = ap (λ (e : VExpr). names_well names e) (sym (v.rolls-Name x)) ∙ fold-roll-VExpr Bool (names_step names) (o.Name x)

pub names_well-Slice : (names : Names) (x : Bytes) (a b : ℕ) → names_well names (v.Slice x a b) ≡ names.reads x
names_well-Slice names x a b = ap (λ (e : VExpr). names_well names e) (sym (v.rolls-Slice x a b)) ∙ fold-roll-VExpr Bool (names_step names) (o.Slice x a b)

pub names_well-Literal : (names : Names) (bits : Bits) → names_well names (v.Literal bits) ≡ true
names_well-Literal names bits = ap (λ (e : VExpr). names_well names e) (sym (v.rolls-Literal bits)) ∙ fold-roll-VExpr Bool (names_step names) (o.Literal bits)

pub names_well-Call : (names : Names) (f : Bytes) (args : List VExpr) → names_well names (v.Call f args) ≡ (has_arity (names.arity f) (length (map (names_well names) args)) && all_true (map (names_well names) args))
names_well-Call names f args = ap (λ (e : VExpr). names_well names e) (sym (v.rolls-Call f args)) ∙ fold-roll-VExpr Bool (names_step names) (o.Call f args)

pub names_well-Join : (names : Names) (parts : List VExpr) → names_well names (v.Join parts) ≡ all_true (map (names_well names) parts)
names_well-Join names parts = ap (λ (e : VExpr). names_well names e) (sym (v.rolls-Join parts)) ∙ fold-roll-VExpr Bool (names_step names) (o.Join parts)

-- whether an expression is a bare name
pub is_name-Name : (y : Bytes) (x : Bytes) → is_name y (v.Name x) ≡ same_name y x
is_name-Name y x = ap (λ (e : VExpr). is_name y e) (sym (v.rolls-Name x)) ∙ fold-roll-VExpr Bool (is_name_step y) (o.Name x)

pub is_name-Slice : (y : Bytes) (x : Bytes) (a b : ℕ) → is_name y (v.Slice x a b) ≡ false
is_name-Slice y x a b = ap (λ (e : VExpr). is_name y e) (sym (v.rolls-Slice x a b)) ∙ fold-roll-VExpr Bool (is_name_step y) (o.Slice x a b)

pub is_name-Literal : (y : Bytes) (bits : Bits) → is_name y (v.Literal bits) ≡ false
is_name-Literal y bits = ap (λ (e : VExpr). is_name y e) (sym (v.rolls-Literal bits)) ∙ fold-roll-VExpr Bool (is_name_step y) (o.Literal bits)

pub is_name-Call : (y : Bytes) (f : Bytes) (args : List VExpr) → is_name y (v.Call f args) ≡ false
is_name-Call y f args = ap (λ (e : VExpr). is_name y e) (sym (v.rolls-Call f args)) ∙ fold-roll-VExpr Bool (is_name_step y) (o.Call f args)

pub is_name-Join : (y : Bytes) (parts : List VExpr) → is_name y (v.Join parts) ≡ false
is_name-Join y parts = ap (λ (e : VExpr). is_name y e) (sym (v.rolls-Join parts)) ∙ fold-roll-VExpr Bool (is_name_step y) (o.Join parts)

-- the width of an expression, and whether it fits
pub measured-Name : (ws : Widths) (x : Bytes) → measured ws (v.Name x) ≡ record { width = width_of_name (ws.named x) (ws.known x); fits = true }
measured-Name ws x = ap (λ (e : VExpr). measured ws e) (sym (v.rolls-Name x)) ∙ fold-roll-VExpr Measured (widths_step ws) (o.Name x)

pub measured-Slice : (ws : Widths) (x : Bytes) (a b : ℕ) → measured ws (v.Slice x a b) ≡ record { width = Some (a + 1 - b); fits = slice_lies (ws.named x) a b }
measured-Slice ws x a b = ap (λ (e : VExpr). measured ws e) (sym (v.rolls-Slice x a b)) ∙ fold-roll-VExpr Measured (widths_step ws) (o.Slice x a b)

pub measured-Literal : (ws : Widths) (bits : Bits) → measured ws (v.Literal bits) ≡ record { width = Some (length bits); fits = true }
measured-Literal ws bits = ap (λ (e : VExpr). measured ws e) (sym (v.rolls-Literal bits)) ∙ fold-roll-VExpr Measured (widths_step ws) (o.Literal bits)

pub measured-Call : (ws : Widths) (f : Bytes) (args : List VExpr) → measured ws (v.Call f args) ≡ record { width = result_of (ws.known f); fits = list_all (λ m. m.fits) (map (measured ws) args) && arguments_agree (map (λ m. m.width) (map (measured ws) args)) (ws.known f) }
measured-Call ws f args = ap (λ (e : VExpr). measured ws e) (sym (v.rolls-Call f args)) ∙ fold-roll-VExpr Measured (widths_step ws) (o.Call f args)

pub measured-Join : (ws : Widths) (parts : List VExpr) → measured ws (v.Join parts) ≡ record { width = joined_width (map (λ m. m.width) (map (measured ws) parts)); fits = list_all (λ m. m.fits) (map (measured ws) parts) && is_within (joined_width (map (λ m. m.width) (map (measured ws) parts))) }
measured-Join ws parts = ap (λ (e : VExpr). measured ws e) (sym (v.rolls-Join parts)) ∙ fold-roll-VExpr Measured (widths_step ws) (o.Join parts)

-- whether an expression uses only what may be used here
pub uses_earlier-Name : (usable : Bytes → Bool) (x : Bytes) → uses_earlier usable (v.Name x) ≡ usable x
uses_earlier-Name usable x = ap (λ (e : VExpr). uses_earlier usable e) (sym (v.rolls-Name x)) ∙ fold-roll-VExpr Bool (order_step usable) (o.Name x)

pub uses_earlier-Slice : (usable : Bytes → Bool) (x : Bytes) (a b : ℕ) → uses_earlier usable (v.Slice x a b) ≡ true
uses_earlier-Slice usable x a b = ap (λ (e : VExpr). uses_earlier usable e) (sym (v.rolls-Slice x a b)) ∙ fold-roll-VExpr Bool (order_step usable) (o.Slice x a b)

pub uses_earlier-Literal : (usable : Bytes → Bool) (bits : Bits) → uses_earlier usable (v.Literal bits) ≡ true
uses_earlier-Literal usable bits = ap (λ (e : VExpr). uses_earlier usable e) (sym (v.rolls-Literal bits)) ∙ fold-roll-VExpr Bool (order_step usable) (o.Literal bits)

pub uses_earlier-Call : (usable : Bytes → Bool) (f : Bytes) (args : List VExpr) → uses_earlier usable (v.Call f args) ≡ (usable f && all_true (map (uses_earlier usable) args))
uses_earlier-Call usable f args = ap (λ (e : VExpr). uses_earlier usable e) (sym (v.rolls-Call f args)) ∙ fold-roll-VExpr Bool (order_step usable) (o.Call f args)

pub uses_earlier-Join : (usable : Bytes → Bool) (parts : List VExpr) → uses_earlier usable (v.Join parts) ≡ all_true (map (uses_earlier usable) parts)
uses_earlier-Join usable parts = ap (λ (e : VExpr). uses_earlier usable e) (sym (v.rolls-Join parts)) ∙ fold-roll-VExpr Bool (order_step usable) (o.Join parts)

-- what `keeps` and `assigns` say of a branch
abbrev pub branch_keeps : (Bytes → VExpr → Bool) → (Test → Bool) → Branch → Bool
branch_keeps assignment test = fold-Branch Bool Bool (rule_step assignment) (branch_rule_step test)

abbrev pub branch_assigns : Bytes → Branch → Bool
branch_assigns y = fold-Branch Bool Bool (assigns_step y) branch_assigns_step

pub stmt_of-Assign : (S : Type 0) (x : Bytes) (e : VExpr) (w : World S) (s : S) → stmt_of S (sv.Assign x e) w s ≡ w.assign x (expr_of e (w.scope s)) s
stmt_of-Assign S x e w s = ap (λ (t : VStmt). stmt_of S t w s) (sym (sv.rolls-Assign x e)) ∙ ap (λ (m : Effect S). m w s) (fold-roll-VStmt (Effect S) (Choice S) (stmt_step S) (branch_step S) (so.Assign x e))

pub stmt_of-If : (S : Type 0) (branches : List Branch) (other : List VStmt) (w : World S) (s : S) → stmt_of S (sv.If branches other) w s ≡ first_taken S (map (branch_of S) branches) (stmts_of S other) w s
stmt_of-If S branches other w s = ap (λ (t : VStmt). stmt_of S t w s) (sym (sv.rolls-If branches other)) ∙ ap (λ (m : Effect S). m w s) (fold-roll-VStmt (Effect S) (Choice S) (stmt_step S) (branch_step S) (so.If branches other))

pub keeps-Assign : (assignment : Bytes → VExpr → Bool) (test : Test → Bool) (x : Bytes) (e : VExpr) → keeps assignment test (sv.Assign x e) ≡ assignment x e
keeps-Assign assignment test x e = ap (λ (t : VStmt). keeps assignment test t) (sym (sv.rolls-Assign x e)) ∙ fold-roll-VStmt Bool Bool (rule_step assignment) (branch_rule_step test) (so.Assign x e)

pub keeps-If : (assignment : Bytes → VExpr → Bool) (test : Test → Bool) (branches : List Branch) (other : List VStmt) → keeps assignment test (sv.If branches other) ≡ (all_true (map (branch_keeps assignment test) branches) && all_true (map (keeps assignment test) other))
keeps-If assignment test branches other = ap (λ (t : VStmt). keeps assignment test t) (sym (sv.rolls-If branches other)) ∙ fold-roll-VStmt Bool Bool (rule_step assignment) (branch_rule_step test) (so.If branches other)

pub assigns-Assign : (y : Bytes) (x : Bytes) (e : VExpr) → assigns y (sv.Assign x e) ≡ same_name y x
assigns-Assign y x e = ap (λ (t : VStmt). assigns y t) (sym (sv.rolls-Assign x e)) ∙ fold-roll-VStmt Bool Bool (assigns_step y) branch_assigns_step (so.Assign x e)

pub assigns-If : (y : Bytes) (branches : List Branch) (other : List VStmt) → assigns y (sv.If branches other) ≡ (any_true (map (branch_assigns y) branches) || any_true (map (assigns y) other))
assigns-If y branches other = ap (λ (t : VStmt). assigns y t) (sym (sv.rolls-If branches other)) ∙ fold-roll-VStmt Bool Bool (assigns_step y) branch_assigns_step (so.If branches other)

pub copies-Assign : (y p : Bytes) (x : Bytes) (e : VExpr) → copies y p (sv.Assign x e) ≡ (same_name y x && is_name p e)
copies-Assign y p x e = ap (λ (t : VStmt). copies y p t) (sym (sv.rolls-Assign x e)) ∙ fold-roll-VStmt Bool Bool (copies_step y p) (λ b. false) (so.Assign x e)

pub copies-If : (y p : Bytes) (branches : List Branch) (other : List VStmt) → copies y p (sv.If branches other) ≡ false
copies-If y p branches other = ap (λ (t : VStmt). copies y p t) (sym (sv.rolls-If branches other)) ∙ fold-roll-VStmt Bool Bool (copies_step y p) (λ b. false) (so.If branches other)

pub branch_of-Branch : (S : Type 0) (b : Branch) → branch_of S b ≡ (λ w s. list_all (λ t. test_holds S t w s) b.tests, stmts_of S b.body)
branch_of-Branch S b = fold-roll-Branch (Effect S) (Choice S) (stmt_step S) (branch_step S) (record { tests = b.tests; body = b.body })

pub branch_keeps-Branch : (assignment : Bytes → VExpr → Bool) (test : Test → Bool) (b : Branch) → branch_keeps assignment test b ≡ (list_all test b.tests && all_true (map (keeps assignment test) b.body))
branch_keeps-Branch assignment test b = fold-roll-Branch Bool Bool (rule_step assignment) (branch_rule_step test) (record { tests = b.tests; body = b.body })

pub branch_assigns-Branch : (y : Bytes) (b : Branch) → branch_assigns y b ≡ any_true (map (assigns y) b.body)
branch_assigns-Branch y b = fold-roll-Branch Bool Bool (assigns_step y) branch_assigns_step (record { tests = b.tests; body = b.body })
