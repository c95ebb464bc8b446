-- The law as it is proved.
use Rattle.register_machine.proofs.Spelling.{is_spellable}
use Rattle.register_machine.proofs.laws.spellable_law.Goals as goal

pub returns : goal.returns
returns c = λ m is. is_spellable m is
