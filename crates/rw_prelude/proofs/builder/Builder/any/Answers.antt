-- Each part is what it was built to be.
use Rattle.rw_prelude.specs.PreludeText.{disjunction}
use Rattle.rw_prelude.proofs.builder.Builder.any.Goals as goal

pub returns : goal.returns
unfolding disjunction
returns c = c.function.ensures _ _ (c.arrow-written.ensures _ _ c.type_constructor.ensures (c.arrow.ensures _ _ c.type_constructor-2.ensures c.type_constructor-3.ensures))
    (c.two-3.ensures _ _
    (c.clause-first.ensures _ _ (c.two.ensures _ _ (c.pattern_constructor.ensures _ c.none.ensures) c.pattern_variable.ensures) c.constructor.ensures)
    (c.clause-second.ensures _ _ (c.two-2.ensures _ _ (c.pattern_constructor-2.ensures _ c.none-2.ensures) c.pattern_variable-2.ensures) c.variable.ensures))
