use Rattle.std.proofs.Common.{◌++◌, [], ◌∙◌, ap, sym}
use Rattle.std.specs.Prelude.{bytes_eq}
use Rattle.std.proofs.lemmas.Result.{err_from_is_err_and}
use Rattle.explicit_form.specs.declared.form.Data.{Data}
use Rattle.explicit_form.specs.Fit.{are_new, taken_constructors}
use Rattle.explicit_form.proofs.News.{not_refused, both, new_part}
use Rattle.explicit_form.proofs.judge.constructors.Goals as goal

pub returns-in_err-add_all : goal.returns-in_err-add_all
returns-in_err-add_all c =
    let p = err_from_is_err_and c.from_residual-in_err-add_all.result c.from_residual-in_err-add_all.ensures.1 in
    let good = new_part bytes_eq taken_constructors (λ (d : Data). d.constructors) (λ (d : Data). bytes_eq d.name c.args.name.now) c.args.datas.now c.in-Some.data.now
    (both _ _ c.requires).1 (sym c.in-Some.ensures) in
    rw (p.1, p.2) (not_refused c.in_err-add_all.field-0.0 (are_new bytes_eq (taken_constructors ++ c.new-all.result) c.as_slice-3.result.now) _ c.in_err-add_all.ensures
    (ap (λ s. are_new bytes_eq (taken_constructors ++ s) c.as_slice-3.result.now) c.new-all.ensures ∙ ap (are_new bytes_eq (taken_constructors ++ [])) c.as_slice-3.ensures ∙ good))
