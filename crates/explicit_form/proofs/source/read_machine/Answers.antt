use Rattle.std.proofs.lemmas.Result.{err_from_is_err_and}
use Rattle.explicit_form.specs.Fit.{is_fit}
use Rattle.rw_base.specs.declared.fail.Failure.TheVariants as fail
use Rattle.explicit_form.proofs.Wholes.{apart, machine_well, same_refusal}
use Rattle.explicit_form.proofs.source.read_machine.Goals as goal

pub returns-in_err-form-clause-refused : goal.returns-in_err-form-clause-refused
returns-in_err-form-clause-refused c =
    let p = err_from_is_err_and c.from_residual.result c.from_residual.ensures.1 in
    rw (p.1, p.2) (λ e source. c.in_err-form.ensures.refused (same_refusal c.in_err-form.field-0.0 (fail.Refused (record {})) e) source.0 source.1.spelled)

pub returns-clause-refused : goal.returns-clause-refused
returns-clause-refused c e source = apart is_fit c.in_ok-form.form source.0 (c.in_ok-form.ensures.only source.0 source.1.spelled) (c.machine.ensures.refused e) source.1.fits

pub returns-clause-fits : goal.returns-clause-fits
returns-clause-fits c = machine_well c.args.source.now c.in_ok-form.form c.machine.result c.in_ok-form.ensures.found c.machine.ensures.found
