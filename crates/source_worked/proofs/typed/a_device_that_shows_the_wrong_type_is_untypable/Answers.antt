-- No tree with these types agrees.
use Rattle.source_worked.proofs.Untypable.{never_agrees}
use Rattle.source_worked.proofs.typed.a_device_that_shows_the_wrong_type_is_untypable.Goals as goal

pub returns : goal.returns
returns c = λ it. never_agrees it.typed it.typing.erases it.typing.agrees
