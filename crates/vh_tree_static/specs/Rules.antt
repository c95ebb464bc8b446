-- The static rules over what is known of names around a statement or an expression.
use Rattle.std.specs.Prelude.{ℕ, Bool, true, not, ◌&&◌, length, is_some}
pub use Rattle.vh_tree_equations.specs.Equations.{branch_keeps, branch_assigns}
use Rattle.vh_tree.specs.Bits.{Bytes}
use Rattle.vh_tree.specs.StaticRules.{Names, test_keeps, names_well, uses_earlier, function_uses_earlier}
use Rattle.vh_tree.specs.declared.expr.VExpr.{VExpr}
use Rattle.vh_tree.specs.declared.stmt.Test.{Test}
use Rattle.vh_tree.specs.declared.design.Item.{Item}
use Rattle.vh_tree.specs.declared.design.Item.TheVariants.{Signal, Function as Declared}
use Rattle.rw_base_tables.specs.Tables.{Known, put}

-- what may be named where these are the variables, and these the numbers of parameters
abbrev pub names_over : Known ℕ → Known ℕ → Names
names_over arities vars = record { reads = λ x. is_some (vars x); arity = arities }

-- an assignment to one of these, of what is named well
abbrev pub assigns_well : Known ℕ → Known ℕ → Known ℕ → Bytes → VExpr → Bool
assigns_well arities vars assigned x e = is_some (assigned x) && names_well (names_over arities vars) e

-- a test of what is named well
abbrev pub tests_well : Known ℕ → Known ℕ → Bool → Test → Bool
tests_well arities vars in_process = test_keeps (λ e bits. names_well (names_over arities vars) e) in_process

-- the numbers of parameters, and that of the item if it is a function
abbrev pub and_arity : Item → Known ℕ → Known ℕ
and_arity (Signal v) arities = arities
and_arity (Declared f) arities = put f.name (length f.params) arities

-- what is usable where these functions aren't declared yet
abbrev pub usable_before : Known (Unit {0}) → Bytes → Bool
usable_before later x = not (is_some (later x))

-- a test of what is declared before these functions
abbrev pub tests_early : Known (Unit {0}) → Test → Bool
tests_early later = test_keeps (λ e bits. uses_earlier (usable_before later) e) true

-- an item uses none of these functions
abbrev pub item_uses_earlier : Known (Unit {0}) → Item → Bool
item_uses_earlier later (Signal v) = true
item_uses_earlier later (Declared f) = function_uses_earlier (usable_before later) f

-- these functions, and the item if it is one
abbrev pub before_item : Item → Known (Unit {0}) → Known (Unit {0})
before_item (Signal v) later = later
before_item (Declared f) later = put f.name tt later
