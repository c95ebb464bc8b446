-- Each part is what it was built to be.
use Rattle.rw_prelude.specs.PreludeText.{negation}
use Rattle.rw_prelude.proofs.builder.Builder.negated.Goals as goal

pub returns : goal.returns
unfolding negation
returns c = c.function.ensures _ _ (c.arrow-written.ensures _ _ c.type_constructor.ensures c.type_constructor-2.ensures)
    (c.two.ensures _ _
    (c.clause-first.ensures _ _ (c.one.ensures _ (c.pattern_constructor.ensures _ c.none.ensures)) c.constructor.ensures)
    (c.clause-second.ensures _ _ (c.one-2.ensures _ (c.pattern_constructor-2.ensures _ c.none-2.ensures)) c.constructor-2.ensures))
