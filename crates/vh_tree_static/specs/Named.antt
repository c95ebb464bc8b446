-- V4 over what is known of names, and over the ports and signals that processes name.
use Rattle.std.specs.Prelude.{◌≡◌, ℕ, Bool, true, false, not, List, ◌∷◌, ◌++◌, length, drop, codes, ◌&&◌, Option, Some, None, is_some}
use Rattle.std.specs.List.{list_all}
use Rattle.vh_tree.specs.Bits.{Bytes, is_among}
use Rattle.vh_tree.specs.StaticRules.{declared_signals, names_of, port, begins_with_copies, are_distinct, names_well, keeps, width_among}
use Rattle.vh_tree.specs.declared.stmt.VStmt.{VStmt}
use Rattle.vh_tree.specs.declared.function.Function.{Function}
use Rattle.vh_tree.specs.declared.process.Process.{Process}
use Rattle.vh_tree.specs.declared.design.Design.{Design}
use Rattle.vh_tree_static.specs.Rules.{assigns_well, names_over, tests_well}
use Rattle.rw_base_tables.specs.Tables.{Known, known_in}
use Rattle.vh_tree_static.specs.declared.names.Wires.{Wires}

-- a table has exactly these names, which are distinct, where there is one
abbrev pub IsSet : Option (List (Bytes × Unit {0})) → List Bytes → Type 0
IsSet None names = are_distinct names ≡ false
IsSet (Some set) names = (are_distinct names ≡ true) × ((x : Bytes) → is_some (known_in set x) ≡ is_among x names)

-- a statement assigns to one of these, and names what it may
abbrev pub stmt_well : Known ℕ → Known ℕ → Known ℕ → Bool → VStmt → Bool
stmt_well arities vars assigned in_process = keeps (assigns_well arities vars assigned) (tests_well arities vars in_process)

-- a function copies its parameters, and names what it may
abbrev pub body_well : Known ℕ → Known ℕ → Function → Bool
body_well arities vars f =
    begins_with_copies f.params f.vars f.body && list_all (stmt_well arities vars vars false) (drop (length f.params) f.body) && names_well (names_over arities vars) f.result

-- the names that a function declares
abbrev pub own_names : Function → List Bytes
own_names f = f.params ++ names_of f.vars

-- no two of these are the same, and none is declared
abbrev pub are_apart : Known (Unit {0}) → List Bytes → Bool
are_apart declared names = are_distinct names && list_all (λ x. not (is_some (declared x))) names

-- a function declares names of its own, copies its parameters, and names what it may
abbrev pub function_well : Known (Unit {0}) → Known ℕ → Function → Bool
function_well declared arities f = are_apart declared (own_names f) && body_well arities (width_among f.vars) f

-- the ports and signals that the processes of a design hear, read and drive
abbrev pub IsWires : Wires → Design → Type 0
IsWires w d =
    (known_in w.heard ≡ width_among (port (codes "clk") 1 ∷ port (codes "rst") 1 ∷ port (codes "inp") d.inp ∷ declared_signals d.items))
    × (known_in w.read ≡ width_among (port (codes "inp") d.inp ∷ declared_signals d.items))
    × (known_in w.driven ≡ width_among (port (codes "outp") d.outp ∷ declared_signals d.items))

-- a process hears some of these once, and names what it may
abbrev pub process_well : Known ℕ → Wires → Process → Bool
process_well arities w p =
    list_all (λ x. is_some (known_in w.heard x)) p.sensitive && are_distinct p.sensitive && list_all (stmt_well arities (known_in w.read) (known_in w.driven) true) p.body
