-- One declaration more, or the first that has no typing.
use Rattle.std.proofs.Common.{All, sym, subst}
use Rattle.std.proofs.lemmas.List.Elements.{All-push}
use Rattle.std.proofs.lemmas.Result.{err_from_is_err_and}
use Rattle.rw_types_equations.specs.Seen.{seen_world}
use Rattle.rw_types.specs.Inferred.{HasSharedTypes}
use Rattle.rw_types.proofs.Programs.{default_next, answered_at}
use Rattle.rw_types.proofs.program.infer_all.Goals as goal

pub returns-in_err-typed-clause-inferred : goal.returns-in_err-typed-clause-inferred
returns-in_err-typed-clause-inferred c =
    let p = err_from_is_err_and c.from_residual.result c.from_residual.ensures.1 in
    answered_at (seen_world c.args.world.now) c.args.decls.now c.loop-decl.decl-index c.decl-item.result c.loop-decl.all c.in_err-typed.field-0.0 c.from_residual.result
    c.loop-decl-test.true c.decl-item.is c.loop-decl.invariant.default c.in_err-typed.ensures.inferred (cc)

pub loop-decl-preserved : goal.loop-decl-preserved
loop-decl-preserved c = record {
  default = default_next (seen_world c.args.world.now) c.args.decls.now c.loop-decl.decl-index c.decl-item.result c.loop-decl.all _ c.in_ok-typed.typed
      c.loop-decl-test.true c.decl-item.is c.in_ok-push.ensures.ok c.loop-decl.invariant.default c.in_ok-typed.ensures.inferred;
  shared = subst (All HasSharedTypes) (sym c.in_ok-push.ensures.ok) (All-push HasSharedTypes c.loop-decl.all c.in_ok-typed.typed c.loop-decl.invariant.shared c.in_ok-typed.ensures.shared);
}
