-- Each group is what it was built to be.
use Rattle.rw_prelude.specs.PreludeText.{prelude}
use Rattle.rw_prelude.proofs.all.Goals as goal

pub returns : goal.returns
unfolding prelude
returns c =
    c.join-3.ensures _ _ c.strengths.ensures
    (c.join-2.ensures _ _ c.data.ensures
    (c.join-functions.ensures _ _ c.combinators.ensures
    (c.join.ensures _ _ c.logic.ensures (c.join-cases.ensures _ _ c.pairs.ensures c.cases.ensures))))
