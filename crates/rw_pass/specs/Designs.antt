-- A design as a representation of devices.
use Rattle.std.specs.Prelude.{◌≡◌, ℕ, ◌+◌, List, sum_by, Ok}
use Rattle.vh_tree.specs.declared.stmt.VStmt.{VStmt}
use Rattle.vh_tree.specs.declared.stmt.VStmt.TheOpen.{VStmt-F, Assign, If, Branch-F}
use Rattle.vh_tree.specs.declared.stmt.VStmt.TheFolds.{fold-VStmt}
use Rattle.vh_tree.specs.declared.design.Item.{Item}
use Rattle.vh_tree.specs.declared.design.Item.TheVariants.{Signal, Function}
use Rattle.vh_tree.specs.declared.design.Design.{Design}
use Rattle.vh_tree.specs.Bench.{bench_readings, text_schedule}
use Rattle.vh_tree.specs.Spellable.{IsSpellable}
use Rattle.vh_tree.specs.StaticRules.{IsStatic}
use Rattle.rw_pass.specs.Passes.{Meaning}

-- the sequential statements of a statement, itself and those inside it
abbrev pub statement_step : VStmt-F ℕ ℕ → ℕ
statement_step (Assign x e) = 1
statement_step (If branches other) = 1 + (sum_by (λ n. n) branches + sum_by (λ n. n) other)

abbrev pub statements_of_branch : Branch-F ℕ ℕ → ℕ
statements_of_branch b = sum_by (λ n. n) b.body

abbrev pub statements_in : VStmt → ℕ
statements_in = fold-VStmt ℕ ℕ statement_step statements_of_branch

abbrev pub statements : List VStmt → ℕ
statements body = sum_by statements_in body

-- a function has its `return` besides
abbrev pub item_statements : Item → ℕ
item_statements (Signal v) = 0
item_statements (Function f) = 1 + statements f.body

-- the sequential statements of a design (IEEE Std 1076-1993, section 8)
abbrev pub design_statements : Design → ℕ
design_statements d = sum_by item_statements d.items + sum_by (λ p. statements p.body) d.processes

-- what the bench reads, in the order of the text, where each change is quiet after at most four delta cycles
abbrev pub design_denotes : Design → Meaning
design_denotes d inputs outputs = bench_readings 4 d (text_schedule d) inputs ≡ Ok outputs

-- a text spells it, and it keeps the static rules
pub record IsFitDesign (d : Design) : Type 0 where
  pub spellable : IsSpellable d
  pub static : IsStatic d
