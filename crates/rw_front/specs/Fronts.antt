-- What the front answers of a source.
use Rattle.std.specs.Prelude.{◌≡◌, ℕ, List, map, Result, Ok, Err}
use Rattle.rw_base.specs.declared.place.Span.{Span}
use Rattle.rw_base.specs.Answers.{Fail}
use Rattle.rw_base.specs.declared.fail.Failure.TheVariants as fail
use Rattle.rw_tree.specs.Views.{itself}
use Rattle.rw_tree.specs.Declarations.{PlainProgram, plain_program}
use Rattle.rw_scope_rules.specs.Bindings.{bound_program}
use Rattle.rw_types_rules.specs.Schemes.{world_of}
use Rattle.rw_types.specs.Inferred.{seen, AreDefault}
use Rattle.rw_front.specs.declared.source.Checked.{Checked}
use Rattle.rw_front.specs.Verdict.{Verdict}

-- the program that a source is, with its names bound, and the default typings of its declarations
abbrev pub IsFrontOf : PlainProgram Span → Checked → Type 0
IsFrontOf program made =
    (plain_program itself made.program ≡ bound_program program) × AreDefault (world_of program.declarations) (bound_program program).declarations (map seen made.typed)

-- the answer is the verdict on the source; where memory ran out nothing is said
abbrev pub Fronts : List ℕ → Result Checked Fail → Type 0
Fronts bytes (Ok made) = (program : PlainProgram Span) × Verdict bytes (Ok program) × IsFrontOf program made
Fronts bytes (Err (fail.Refused refusal)) = Verdict bytes (Err refusal)
Fronts bytes (Err fail.OutOfMemory) = Unit {0}
