-- What the width of an expression is, where widths in it agree.
use Rattle.std.specs.Prelude.{◌≡◌, ℕ, ◌-◌, ◌^◌, min, Bool, true, false, List, length, ◌++◌, ◌&&◌, Option, Some, None, Result, Ok, Err}
use Rattle.std.specs.Option.{option_map}
use Rattle.vh_tree.specs.Bits.{Bytes}
use Rattle.vh_tree.specs.StaticRules.{Width, Widths, Shape, Measured, width_among, fits_in, test_keeps, parameter_vars, items_fit, shapes_after, shapes_of, is_width, stmt_fits, measured}
use Rattle.vh_tree.specs.Functions.{parameter_widths}
use Rattle.std.specs.List.{list_all}
use Rattle.vh_tree.specs.declared.function.Var.{Var}
use Rattle.vh_tree.specs.declared.function.Function.{Function}
use Rattle.vh_tree.specs.declared.design.Item.{Item}
use Rattle.vh_tree.specs.declared.expr.VExpr.{VExpr}
use Rattle.vh_tree.specs.declared.stmt.Test.{Test}
use Rattle.rw_base_tables.specs.Tables.{Known, known_in}
use Rattle.vh_tree_static.specs.declared.widths.Callee.{Callee}
use Rattle.vh_tree_static.specs.declared.widths.Misfit.{Misfit}

-- a function that is declared before, as the rules see it
abbrev pub shape_at : Callee → Shape
shape_at callee = record { params = callee.params; result = callee.result }

-- the functions of a table
abbrev pub known_by : List (Bytes × Callee) → Bytes → Option Shape
known_by callees x = option_map shape_at (known_in callees x)

-- over these variables, and the functions of a table
abbrev pub widths_over : Known ℕ → List (Bytes × Callee) → Widths
widths_over vars callees = record { named = vars; known = known_by callees }

-- a width is found exactly where widths agree
abbrev pub Measures : Result (Option ℕ) Misfit → Measured → Type 0
Measures (Ok width) m = (m.fits ≡ true) × (width ≡ m.width)
Measures (Err e) m = m.fits ≡ false

-- a test passes exactly where it is so
abbrev pub Fits : Result (Unit {0}) Misfit → Bool → Type 0
Fits (Ok u) b = b ≡ true
Fits (Err e) b = b ≡ false

-- a width, or the greatest number where it is greater
abbrev pub capped : Width → Width
capped None = None
capped (Some n) = Some (min n (2 ^ 64 - 1))

-- the two sides of an assignment agree
abbrev pub assigns_fit : Known ℕ → List (Bytes × Callee) → Bytes → VExpr → Bool
assigns_fit vars callees x e = fits_in (widths_over vars callees) (vars x) e

-- and those of a test
abbrev pub tests_fit : Known ℕ → List (Bytes × Callee) → Test → Bool
tests_fit vars callees = test_keeps (λ e bits. fits_in (widths_over vars callees) (Some (length bits)) e) true

-- the parameters and variables of a function
abbrev pub function_vars : Function → List Var
function_vars f = parameter_vars f.params f.vars ++ f.vars

-- a function's variables have widths that may be declared, and widths agree in its statements
abbrev pub body_keeps : Known ℕ → List (Bytes × Callee) → Function → Bool
body_keeps vars callees f = list_all (λ v. is_width v.width) f.vars && list_all (stmt_fits (widths_over vars callees)) f.body

-- what a function over these variables is to those behind it, exactly where its widths agree
abbrev pub CalleeOver : Known ℕ → List (Bytes × Callee) → Function → Option Callee → Type 0
CalleeOver vars callees f None = (body_keeps vars callees f && (measured (widths_over vars callees) f.result).fits) ≡ false
CalleeOver vars callees f (Some callee) =
    ((body_keeps vars callees f && (measured (widths_over vars callees) f.result).fits) ≡ true)
    × (shape_at callee ≡ record { params = parameter_widths f; result = (measured (widths_over vars callees) f.result).width })

-- and over its own variables
abbrev pub CalleeOf : List (Bytes × Callee) → Function → Option Callee → Type 0
CalleeOf callees f = CalleeOver (width_among (function_vars f)) callees f

-- widths agree in these items, and then the functions known behind them are those
abbrev pub ItemsFit : Bool → (Bytes → Option Shape) → (Bytes → Option Shape) → List Item → Type 0
ItemsFit true before after items = (items_fit before items ≡ true) × (after ≡ shapes_after before items)
ItemsFit false before after items = items_fit before items ≡ false

-- what the functions of these items are, exactly where widths agree in them
abbrev pub CalleesOf : Option (List (Bytes × Callee)) → List Item → Type 0
CalleesOf None items = items_fit (λ x. None) items ≡ false
CalleesOf (Some callees) items = (items_fit (λ x. None) items ≡ true) × (known_by callees ≡ shapes_of items)
