-- The parts are made, and stand under the head.
use Rattle.std.proofs.Common.{ℕ, map, get_or, length, ap, sym, ◌∙◌, subst}
use Rattle.rw_types_shared.specs.Shared.{shown, type_at, AreBelow}
use Rattle.specialise_types.proofs.Closed.{made_below, closed_other}
use Rattle.specialise_types.proofs.closing.closed_node.Goals as goal

pub number-requires : goal.number-requires
number-requires c =
    let made = c.args.made.now in let e = c.in_ok-parts-in_default.ensures ∙ ap (map (λ (k : ℕ). get_or made k 0)) c.as_slice.ensures.value in
    record {
      proper = c.requires.proper;
      earlier = subst (AreBelow (length c.args.types.now)) (sym e) (made_below (length c.args.types.now) made c.args.node.now.parts.items c.requires.made.within c.requires.parts);
    }

pub returns-in_ok-number-in_default-clause-is : goal.returns-in_ok-number-in_default-clause-is
returns-in_ok-number-in_default-clause-is c =
    let made = c.args.made.now in let e = c.in_ok-parts-in_default.ensures ∙ ap (map (λ (k : ℕ). get_or made k 0)) c.as_slice.ensures.value in let made_here = c.in_ok-number-in_default.ensures in
    closed_other (map (type_at c.args.types.now) c.args.arguments.now) (map shown c.args.nodes.now) c.args.types.now _ made c.args.node.now.parts.items c.in_ok-parts-in_default.parts.items c.args.node.now.head
    c.in_ok-number-in_default.number (λ k s. c.in_default.not-Unknown k s) c.requires.proper made_here.proper made_here.kept c.requires.made c.requires.parts e made_here.at
