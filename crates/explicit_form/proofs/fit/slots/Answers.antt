use Rattle.std.proofs.Common.{◌≡◌, [], ◌∙◌, ap, sym, refl, rules, arith, None, ℕ, ◌&&◌, map, length, drop, replicate, nat_eq}
use Rattle.std.specs.List.{list_all}
use Rattle.std.proofs.lemmas.Result.{err_from_is_err_and}
use Rattle.explicit_form.specs.Fit.{fits_arm, entry_of, are_new}
use Rattle.explicit_form.proofs.News.{refused_on}
use Rattle.explicit_form.proofs.Slots.{no_entries}
use Rattle.explicit_form.proofs.Arms.{written_back, is_free_in, arms_stop, fits_step, fresh_step, filled_step}
use Rattle.explicit_form.proofs.fit.slots.Goals as goal

pub loop-arm-init : goal.loop-arm-init
loop-arm-init c =
    let e : c.in_ok-slots.slots.items ≡ replicate c.len.result None = c.in_ok-slots.ensures.items_if_clones_equal (search rules) in
    record {
      slots = e ∙ ap (λ n. replicate n None) c.len.ensures ∙ sym (no_entries 0 (length c.args.tables.now.inputs));
      fits = refl;
      fresh = refl;
    }

pub returns-in_err-add_arm : goal.returns-in_err-add_arm
returns-in_err-add_arm c =
    let p = err_from_is_err_and c.from_residual-in_err-add_arm.result c.from_residual-in_err-add_arm.ensures.1 in
    let inputs = c.args.tables.now.inputs in
    let names = c.args.tables.now.functions in
    rw (p.1, p.2) (refused_on c.in_err-add_arm.field-0.0 (is_free_in inputs names c.deref_mut.result.now c.arm-item.result) _ c.in_err-add_arm.ensures
    (λ h. ap (λ b. b && are_new nat_eq [] (map (λ (e : ℕ × ℕ). e.0) (map (entry_of inputs names) c.args.arms.now))) c.loop-arm.invariant.fits
    ∙ ap (λ b. list_all (fits_arm inputs names) (drop c.loop-arm.arm-index c.args.arms.now) && b) c.loop-arm.invariant.fresh
    ∙ arms_stop inputs names c.args.arms.now c.loop-arm.arm-index c.arm-item.result c.deref_mut.result.now (c.deref_mut.ensures.value ∙ c.loop-arm.invariant.slots)
    c.loop-arm-test.true c.arm-item.is h))

pub loop-arm-preserved : goal.loop-arm-preserved
loop-arm-preserved c =
    let inputs = c.args.tables.now.inputs in
    let names = c.args.tables.now.functions in
    let held = c.deref_mut.ensures.value ∙ c.loop-arm.invariant.slots in
    let good = c.in_ok-add_arm.ensures.0 in
    record {
      slots = written_back c.add_arm.new.slots c.loop-arm.slots.items c.loop-arm.slots.len (omega arith) ∙ c.in_ok-add_arm.ensures.1
          ∙ filled_step inputs names c.args.arms.now c.loop-arm.arm-index c.arm-item.result c.deref_mut.result.now held c.loop-arm-test.true c.arm-item.is good;
      fits = c.loop-arm.invariant.fits ∙ fits_step inputs names c.args.arms.now c.loop-arm.arm-index c.arm-item.result c.deref_mut.result.now c.loop-arm-test.true c.arm-item.is good;
      fresh = c.loop-arm.invariant.fresh ∙ fresh_step inputs names c.args.arms.now c.loop-arm.arm-index c.arm-item.result c.deref_mut.result.now held c.loop-arm-test.true c.arm-item.is good;
    }
