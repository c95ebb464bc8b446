-- `StateT ()` has the one part.
use Rattle.std.proofs.Common.{ap, sym, ◌∙◌}
use Rattle.rw_types_solving.specs.Closing.{closed_as}
use Rattle.rw_types_solving.specs.declared.term.Head.TheVariants as h
use Rattle.rw_types_shared.proofs.Sharing.{type_of_one, one_pushed}
use Rattle.rw_types_shared.proofs.share.share_default.Goals as goal

pub returns-in_ok-number-in-Layer-clause-is : goal.returns-in_ok-number-in-Layer-clause-is
returns-in_ok-number-in-Layer-clause-is c =
    let e = c.in_ok-number-in-Layer.ensures in let unit = c.in_ok-unit-in-Layer.ensures in
    type_of_one _ _ c.in_ok-number-in-Layer.number h.StateT c.push.new.self.items c.in_ok-unit-in-Layer.unit _ unit.proper e.proper e.kept unit.within e.at
    (one_pushed _ _ c.in_ok-unit-in-Layer.unit c.new-parts.ensures.items c.in_ok-push-in-Layer.ensures.items) unit.is
    ∙ sym (ap closed_as c.in-Layer.is)
