use Rattle.std.specs.Prelude.{bytes_eq}
use Rattle.std.proofs.Common.{◌∙◌, ap}
use Rattle.std.specs.Prelude.{ok_or}
use Rattle.rw_base.specs.Answers.{Unread}
use Rattle.rw_base.specs.declared.fail.Failure.TheVariants as fail
use Rattle.explicit_form.proofs.Slots.{place_judged}
use Rattle.explicit_form.proofs.fit.place.Goals as goal

pub returns-clause-found : goal.returns-clause-found
returns-clause-found c =
    let refusal : Unread = fail.Refused (record {}) in
    place_judged (bytes_eq c.args.name.now) c.args.names.now c.ok_or.result (c.ok_or.ensures.value ∙ ap (λ o. ok_or o refusal) c.place.ensures)
