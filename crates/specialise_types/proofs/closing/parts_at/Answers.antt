-- Parts are among what is made.
use Rattle.specialise_types.proofs.Below.{below_at}
use Rattle.specialise_types.proofs.closing.parts_at.Goals as goal

pub bounds-made-part : goal.bounds-made-part
bounds-made-part c = below_at _ _ _ _ c.requires c.loop-part-test.true
