-- Each part is what it was built to be.
use Rattle.rw_prelude.specs.PreludeText.{maybe_type}
use Rattle.rw_prelude.proofs.builder.Builder.maybes.Goals as goal

pub returns : goal.returns
unfolding maybe_type
returns c = c.data_type.ensures _ _ (c.one-2.ensures _ c.name.ensures)
    (c.two.ensures _ _ (c.constructs-nothing.ensures _ c.none.ensures) (c.constructs-just.ensures _ (c.one.ensures _ c.type_variable.ensures)))
