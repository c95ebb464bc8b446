use Rattle.std.proofs.Common.{◌++◌, ◌∙◌, ap, sym, drop, ◌+◌}
use Rattle.std.specs.Prelude.{bytes_eq, flat_map}
use Rattle.std.proofs.lemmas.Result.{err_from_is_err_and}
use Rattle.explicit_form.specs.declared.form.Data.{Data}
use Rattle.explicit_form.specs.Fit.{are_new, taken_constructors}
use Rattle.explicit_form.proofs.News.{refused_on, part_stop, part_step}
use Rattle.explicit_form.proofs.judge.judge_constructors.Goals as goal

pub returns-in_err-add_all : goal.returns-in_err-add_all
returns-in_err-add_all c =
    let p = err_from_is_err_and c.from_residual.result c.from_residual.ensures.1 in
    rw (p.1, p.2) (refused_on c.in_err-add_all.field-0.0 (are_new bytes_eq (taken_constructors ++ c.loop-data.seen) c.as_slice.result.now) _ c.in_err-add_all.ensures
    (λ h. c.loop-data.invariant ∙ part_stop bytes_eq (taken_constructors ++ c.loop-data.seen) (λ (d : Data). d.constructors) c.args.datas.now c.loop-data.data-index c.data-item.result
    c.loop-data-test.true c.data-item.is (ap (are_new bytes_eq (taken_constructors ++ c.loop-data.seen)) (sym c.as_slice.ensures) ∙ h)))

pub loop-data-preserved : goal.loop-data-preserved
loop-data-preserved c =
    let item = c.data-item.result in
    let same_part = c.as_slice.ensures in
    c.loop-data.invariant
    ∙ part_step bytes_eq taken_constructors c.loop-data.seen (λ (d : Data). d.constructors) c.args.datas.now c.loop-data.data-index item c.loop-data-test.true c.data-item.is
    (ap (are_new bytes_eq (taken_constructors ++ c.loop-data.seen)) (sym same_part) ∙ c.in_ok-add_all.ensures.0)
    ∙ ap (λ s. are_new bytes_eq (taken_constructors ++ s) (flat_map (λ (d : Data). d.constructors) (drop (c.loop-data.data-index + 1) c.args.datas.now)))
    (ap (λ part. c.loop-data.seen ++ part) (sym same_part) ∙ sym c.in_ok-add_all.ensures.1)
