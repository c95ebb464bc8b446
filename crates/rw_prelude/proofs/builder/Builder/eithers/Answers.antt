-- Each part is what it was built to be.
use Rattle.rw_prelude.specs.PreludeText.{either_type}
use Rattle.rw_prelude.proofs.builder.Builder.eithers.Goals as goal

pub returns : goal.returns
unfolding either_type
returns c = c.data_type.ensures _ _ (c.two.ensures _ _ c.name.ensures c.name-2.ensures)
    (c.two-2.ensures _ _ (c.constructs-left.ensures _ (c.one.ensures _ c.type_variable.ensures)) (c.constructs-right.ensures _ (c.one-2.ensures _ c.type_variable-2.ensures)))
