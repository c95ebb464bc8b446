-- The group of a local function and of a pattern binding, and none of a signature.
use Rattle.rw_cover.proofs.Forms.{binding_first, local_is, no_group, same_groups, signature_is}
use Rattle.rw_cover.proofs.group.binding_place.Goals as goal

pub returns-in-Sig : goal.returns-in-Sig
returns-in-Sig c = no_group _ (signature_is c.args.counts.now c.args.known.now c.args.tree.now c.in-Sig.field-0 c.in-Sig.field-1 c.in-Sig.field-2 c.in-Sig.is)

pub returns-in-Fun : goal.returns-in-Fun
returns-in-Fun c =
    same_groups c.clauses_place.result _ _
    (local_is c.args.counts.now c.args.known.now c.args.tree.now c.in-Fun.field-0 c.in-Fun.field-1 c.in-Fun.clauses c.as_slice.result.now c.in-Fun.is c.as_slice.ensures)
    c.clauses_place.ensures

pub returns-in_ok-covered-in-Pattern : goal.returns-in_ok-covered-in-Pattern
returns-in_ok-covered-in-Pattern c =
    binding_first c.args.counts.now c.args.known.now c.args.tree.now c.in-Pattern.at c.in-Pattern.bound c.from_ref.result.now c.in_ok-covered-in-Pattern.covered c.unless.result
    c.in-Pattern.is c.from_ref.ensures.value c.in_ok-covered-in-Pattern.ensures c.unless.ensures
