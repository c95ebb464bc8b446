-- By the parts.
use Rattle.std.proofs.Common.{map, sym}
use Rattle.rw_types_shared.specs.Shared.{shown, type_at}
use Rattle.specialise_types.proofs.Nodes.{own_known, own_unknown, own_other}
use Rattle.specialise_types.proofs.counting.own_of_layer.Goals.{else-parts-eq2-via-then-parts-eq2+else-is_known_layer, else-parts-eq2-via-else-parts-eq2}
use Rattle.specialise_types.proofs.counting.own_of_layer.Goals as goal

pub returns-then-is_known_layer : goal.returns-then-is_known_layer
returns-then-is_known_layer c = sym (own_known (type_at (map shown c.args.nodes.now)) c.args.parts.now c.if-parts-eq2.true (sym c.if-is_known_layer.ensures))

pub returns-else-parts-eq2 : goal.returns-else-parts-eq2
returns-else-parts-eq2 c =
    elim c.else-parts-eq2.branch [
      | else-parts-eq2-via-then-parts-eq2+else-is_known_layer w ↦ sym (own_unknown (type_at (map shown c.args.nodes.now)) c.args.parts.now w.if-parts-eq2.true (sym w.if-is_known_layer.ensures))
      | else-parts-eq2-via-else-parts-eq2 w ↦ sym (own_other (type_at (map shown c.args.nodes.now)) c.args.parts.now w.if-parts-eq2.false)
    ]
