-- Each part is what it was built to be.
use Rattle.rw_prelude.specs.PreludeText.{either_function}
use Rattle.rw_prelude.proofs.builder.Builder.on_either.Goals as goal

pub returns : goal.returns
unfolding either_function
returns c = c.function.ensures _ _ (c.arrow-written.ensures _ _ (c.arrow.ensures _ _ c.type_variable.ensures c.type_variable-2.ensures) (c.arrow-4.ensures _ _ (c.arrow-2.ensures _ _ c.type_variable-3.ensures c.type_variable-4.ensures) (c.arrow-3.ensures _ _ (c.type_application.ensures _ _ c.type_constructor.ensures (c.two.ensures _ _ c.type_variable-5.ensures c.type_variable-6.ensures)) c.type_variable-7.ensures)))
    (c.two-2.ensures _ _
    (c.clause-first.ensures _ _ (c.three.ensures _ _ _ c.pattern_variable.ensures c.pattern_variable-2.ensures (c.pattern_constructor.ensures _ (c.one.ensures _ c.pattern_variable-3.ensures))) (c.application.ensures _ _ c.variable.ensures (c.one-2.ensures _ c.variable-2.ensures)))
    (c.clause-second.ensures _ _ (c.three-2.ensures _ _ _ c.pattern_variable-4.ensures c.pattern_variable-5.ensures (c.pattern_constructor-2.ensures _ (c.one-3.ensures _ c.pattern_variable-6.ensures))) (c.application-2.ensures _ _ c.variable-3.ensures (c.one-4.ensures _ c.variable-4.ensures))))
