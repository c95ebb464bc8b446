-- Each part is what it was built to be.
use Rattle.rw_prelude.specs.PreludeText.{maybe_function}
use Rattle.rw_prelude.proofs.builder.Builder.on_maybe.Goals as goal

pub returns : goal.returns
unfolding maybe_function
returns c = c.function.ensures _ _ (c.arrow-written.ensures _ _ c.type_variable.ensures (c.arrow-3.ensures _ _ (c.arrow.ensures _ _ c.type_variable-2.ensures c.type_variable-3.ensures) (c.arrow-2.ensures _ _ (c.type_application.ensures _ _ c.type_constructor.ensures (c.one.ensures _ c.type_variable-4.ensures)) c.type_variable-5.ensures)))
    (c.two.ensures _ _
    (c.clause-first.ensures _ _ (c.three.ensures _ _ _ c.pattern_variable.ensures c.pattern_variable-2.ensures (c.pattern_constructor.ensures _ c.none.ensures)) c.variable.ensures)
    (c.clause-second.ensures _ _ (c.three-2.ensures _ _ _ c.pattern_variable-3.ensures c.pattern_variable-4.ensures (c.pattern_constructor-2.ensures _ (c.one-2.ensures _ c.pattern_variable-5.ensures))) (c.application.ensures _ _ c.variable-2.ensures (c.one-3.ensures _ c.variable-3.ensures))))
