use Rattle.std.proofs.Common.{refl, map, List}
use Rattle.rw_tree.specs.Declarations.{plain_program}
use Rattle.rw_types.specs.declared.typed.TypedDecl.{TypedDecl}
use Rattle.rw_types.specs.Inferred.{seen}
use Rattle.rw_front.proofs.Answered.{same_default, typed_ok, typed_err}
use Rattle.rw_front.proofs.stages.typed.Goals as goal

pub returns-in-Ok-clause-answers : goal.returns-in-Ok-clause-answers
returns-in-Ok-clause-answers c = (refl, typed_ok (plain_program (λ span. span) c.args.program.now) c.args.bound.now c.requires (map seen c.in-Ok.typed) c.in-Ok.ensures.inferred)

pub returns-in-Ok-clause-typed : goal.returns-in-Ok-clause-typed
returns-in-Ok-clause-typed c = same_default (plain_program (λ span. span) c.args.program.now) c.args.bound.now c.requires (map seen c.in-Ok.typed) c.in-Ok.ensures.inferred

pub returns-in-Err-clause-answers : goal.returns-in-Err-clause-answers
returns-in-Err-clause-answers c =
    typed_err {X = List TypedDecl} (λ _. plain_program (λ span. span) c.args.program.now) (plain_program (λ span. span) c.args.program.now) c.args.bound.now c.requires c.in-Err.fail c.told.result c.told.ensures c.in-Err.ensures.inferred
