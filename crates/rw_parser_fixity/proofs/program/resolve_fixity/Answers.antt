-- The whole, from its declarations.
use Rattle.std.proofs.Common.{◌≡◌, ◌∙◌, ap, Err}
use Rattle.std.proofs.lemmas.Result.{err_from_is_err_and}
use Rattle.rw_base.specs.declared.fail.Failure.TheVariants as fail
use Rattle.rw_parser_grammar.specs.Chains.{strength_of_name}
use Rattle.rw_parser_grammar.specs.Resolution.{AreDeclarationsResolved}
use Rattle.rw_parser_chains.specs.Fixities.{strength_at}
use Rattle.rw_parser_fixity.proofs.Answered.{program_made, failed, kept_made, broken_made, kept_failed, broken_failed, refused_failed}
use Rattle.rw_parser_fixity.proofs.program.resolve_fixity.Goals as goal

pub returns : goal.returns
returns c =
    let program = c.args.program.now in
    let made = program_made program (strength_at c.in_ok-fixities.fixities) c.as_slice-2.result.now c.in_ok-items.field-0 (c.in_ok-fixities.ensures ∙ ap strength_of_name c.as_slice.ensures) c.as_slice-2.ensures
    c.in_ok-items.ensures in
    record {
      resolved = made;
      refused = λ refusal e. absurd (cc);
      kept = λ resolved d. kept_made program _ made resolved d;
      broken = λ at b. broken_made program _ made at b;
    }

pub returns-in_err-items : goal.returns-in_err-items
returns-in_err-items c =
    let p = err_from_is_err_and c.from_residual-in_err-items.result c.from_residual-in_err-items.ensures.1 in
    let program = c.args.program.now in
    let s = strength_at c.in_ok-fixities.fixities in
    let e = c.in_err-items.field-0.0 in
    let h = failed program s c.as_slice-2.result.now e (c.in_ok-fixities.ensures ∙ ap strength_of_name c.as_slice.ensures) c.as_slice-2.ensures c.in_err-items.ensures in
    let good = AreDeclarationsResolved s c.as_slice-2.result.now in
    rw (p.1, p.2) (record {
      resolved = tt;
      refused = λ refusal same. let f : e ≡ fail.Refused refusal = cc in refused_failed program good e h refusal f;
      kept = λ resolved d. kept_failed program good e h resolved d;
      broken = λ at b. broken_failed program good e h at b;
    })
