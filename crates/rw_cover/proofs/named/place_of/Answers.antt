-- A constructor with another name is passed.
use Rattle.std.proofs.Common.{◌∙◌, sym}
use Rattle.rw_cover.proofs.Found.{place_passed}
use Rattle.rw_cover.proofs.named.place_of.Goals as goal

pub loop-at-preserved : goal.loop-at-preserved
loop-at-preserved c =
    sym (place_passed c.args.name.now c.args.decl c.loop-at.at c.args.constructors.now c.index-constructors-at.result c.is.result
    c.loop-at-test.true c.is.ensures c.if-is.false)
    ∙ c.loop-at.invariant
