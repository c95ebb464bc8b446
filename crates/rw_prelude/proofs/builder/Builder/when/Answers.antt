-- Each part is what it was built to be.
use Rattle.rw_prelude.specs.PreludeText.{when_function}
use Rattle.rw_prelude.proofs.builder.Builder.when.Goals as goal

pub returns : goal.returns
unfolding when_function
returns c = c.function.ensures _ _ (c.arrow-written.ensures _ _ c.type_constructor.ensures (c.arrow.ensures _ _ (c.type_application.ensures _ _ c.type_variable.ensures (c.one.ensures _ (c.tuple_type.ensures _ c.none.ensures))) (c.type_application-2.ensures _ _ c.type_variable-2.ensures (c.one-2.ensures _ (c.tuple_type-2.ensures _ c.none-2.ensures)))))
    (c.two-3.ensures _ _
    (c.clause-first.ensures _ _ (c.two.ensures _ _ (c.pattern_constructor.ensures _ c.none-3.ensures) c.pattern_variable.ensures) c.variable.ensures)
    (c.clause-second.ensures _ _ (c.two-2.ensures _ _ (c.pattern_constructor-2.ensures _ c.none-4.ensures) c.pattern_variable-2.ensures) (c.application.ensures _ _ c.variable-2.ensures (c.one-3.ensures _ (c.tuple.ensures _ c.none-5.ensures)))))
