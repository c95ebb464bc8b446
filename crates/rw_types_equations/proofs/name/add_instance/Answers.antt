-- One equation, or none that holds.
use Rattle.std.proofs.Common.{◌∙◌, sym, ap, map}
use Rattle.rw_types_solving.specs.Types.{var, apply, plains}
use Rattle.rw_types_rules.specs.WellTyped.{given}
use Rattle.rw_types_equations.specs.Seen.{seen_scheme}
use Rattle.rw_types_equations.proofs.Adding.{adds_as}
use Rattle.rw_types_equations.proofs.Names.{is_instance, no_instance}
use Rattle.rw_types_equations.proofs.name.add_instance.Goals as goal

pub returns-then-at-len : goal.returns-then-at-len
returns-then-at-len c = adds_as _ _ _ _ c.in_ok-never.ensures (no_instance (seen_scheme c.args.scheme.now) c.args.at (λ e. c.if-at-len.true (e ∙ sym c.len.ensures)))

pub returns : goal.returns
returns c = adds_as _ _ _ _ c.in_ok-equate_function.ensures
    (is_instance (seen_scheme c.args.scheme.now) c.args.at _ _ _ (c.as_slice-names.ensures ∙ c.in_ok-made.ensures) (c.if-at-len.false ∙ c.len.ensures) (c.in_ok-takes.ensures ∙ ap (λ z. map (apply (given (map var c.as_slice-names.result.now))) (plains z)) c.as_slice.ensures) c.in_ok-gives.ensures)
