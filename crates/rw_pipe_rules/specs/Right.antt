-- When a text is right for a source: the design that it spells shows what the source denotes.
use Rattle.std.specs.Prelude.{◌≡◌, ℕ, List, Ok}
use Rattle.std.specs.List.{AllByRecursion}
use Rattle.rw_scope_rules.specs.Bindings.{bound_program}
use Rattle.rw_core.specs.Values.{Val}
use Rattle.rw_core.specs.Bits.{width_of, IsValue}
use Rattle.rw_meaning.specs.Outputs.{Denotes}
use Rattle.vh_tree.specs.declared.design.Design.{Design}
use Rattle.vh_tree.specs.Spelling.{IsSpelled}
use Rattle.vh_tree.specs.StaticRules.{IsStatic}
use Rattle.vh_tree.specs.Bench.{BenchInEveryOrder}
use Rattle.rw_pass.specs.Denoting.{wires_of_all}
use Rattle.rw_pipe_rules.specs.Verdict.{JudgedProgram, WholeVerdict}

-- on these inputs the program denotes exactly one list of outputs, and in every order of the processes the bench on the design reads their encodings,
-- each change being quiet after at most four delta cycles
pub record ShowsOn (judged : JudgedProgram) (design : Design) (inputs : List Val) : Type 0 where
  pub outputs : List Val
  pub denoted : Denotes (bound_program judged.program).declarations inputs outputs
  pub only : (others : List Val) → Denotes (bound_program judged.program).declarations inputs others → others ≡ outputs
  pub values : AllByRecursion (IsValue judged.flat.types judged.flat.output) outputs
  pub read : BenchInEveryOrder 4 design (wires_of_all judged.flat.types judged.flat.input inputs) (wires_of_all judged.flat.types judged.flat.output outputs)

-- the text spells one design; the design keeps the static rules, has ports as wide as the input and output types of `start`, and shows what the source
-- denotes on every list of values of the input type
pub record IsRightFor (source text : List ℕ) : Type 0 where
  pub judged : JudgedProgram
  pub accepted : WholeVerdict source (Ok judged)
  pub design : Design
  pub spelled : IsSpelled text design
  pub one_design : (other : Design) → IsSpelled text other → other ≡ design
  pub static : IsStatic design
  pub inp : design.inp ≡ width_of judged.flat.types judged.flat.input
  pub outp : design.outp ≡ width_of judged.flat.types judged.flat.output
  pub shows : (inputs : List Val) → AllByRecursion (IsValue judged.flat.types judged.flat.input) inputs → ShowsOn judged design inputs
