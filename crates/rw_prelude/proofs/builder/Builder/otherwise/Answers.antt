-- Each part is what it was built to be.
use Rattle.rw_prelude.specs.PreludeText.{otherwise_value}
use Rattle.rw_prelude.proofs.builder.Builder.otherwise.Goals as goal

pub returns : goal.returns
unfolding otherwise_value
returns c = c.function.ensures _ _ c.type_constructor-written.ensures
    (c.one.ensures _
    (c.clause-clause.ensures _ _ c.none.ensures c.constructor.ensures))
