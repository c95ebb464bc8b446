-- Fields and the whole, or none that holds.
use Rattle.std.proofs.Common.{◌∙◌, sym, ap}
use Rattle.rw_types_solving.specs.Types.{plains}
use Rattle.rw_types_equations.specs.Seen.{seen_scheme}
use Rattle.rw_types_equations.proofs.Adding.{adds_as, adds_two}
use Rattle.rw_types_equations.proofs.Names.{is_matched, no_match, as_many_takes}
use Rattle.rw_types_equations.proofs.name.add_match.Goals as goal
use Rattle.rw_types_equations.proofs.name.add_match.Goals.{then-at-len-via-then-at-len, then-at-len-via-else-at-len+then-parts-len}

pub returns-then-at-len : goal.returns-then-at-len
returns-then-at-len c = adds_as _ _ _ _ c.in_ok-never.ensures (no_match (seen_scheme c.args.scheme.now) c.args.at c.args.parts.now (λ e f. elim c.then-at-len.branch [
  | then-at-len-via-then-at-len w ↦ w.if-at-len.true (e ∙ sym c.len.ensures)
  | then-at-len-via-else-at-len+then-parts-len w ↦ w.if-parts-len.true (f ∙ as_many_takes c.args.scheme.now.takes ∙ sym w.len-else-at-len.ensures)
]))

pub returns : goal.returns
returns c = adds_as _ _ _ _ (adds_two _ _ _ _ _ c.in_ok-add_fields.ensures c.in_ok-equate.ensures)
    (is_matched (seen_scheme c.args.scheme.now) c.args.at _ c.args.parts.now _ _ (c.as_slice-names.ensures ∙ c.in_ok-made.ensures) (ap plains c.as_slice.ensures) (c.if-at-len.false ∙ c.len.ensures) c.in_ok-gives.ensures)
