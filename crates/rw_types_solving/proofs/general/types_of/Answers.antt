-- The types of one more variable, and of all.
use Rattle.std.proofs.Common.{arith}
use Rattle.rw_types_solving.proofs.MostGeneral.{length_next, made_next, small_next}
use Rattle.rw_types_solving.proofs.general.types_of.Goals as goal

pub loop-x-preserved : goal.loop-x-preserved
loop-x-preserved c =
    let n = c.loop-x.invariant.as_many in
    let e = c.in_ok-push-in-Ok.ensures.ok in record {
      as_many = length_next _ _ c.in-Ok.term c.loop-x.x e n;
      made = λ s f y l. made_next _ _ c.in-Ok.term c.loop-x.x s n e (c.in-Ok.ensures.made s f) (c.loop-x.invariant.made s f) y (omega arith);
      small = λ y l. small_next _ _ c.in-Ok.term c.loop-x.x n e c.in-Ok.ensures.small c.loop-x.invariant.small y (omega arith);
    }

pub returns-clause-made : goal.returns-clause-made
returns-clause-made c = λ s f x l. c.loop-x.invariant.made s f x (omega arith)
