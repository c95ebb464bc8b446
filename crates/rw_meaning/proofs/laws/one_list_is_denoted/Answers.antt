-- One list of outputs at most is denoted.
use Rattle.rw_meaning.proofs.Lasting.{one_list}
use Rattle.rw_meaning.proofs.laws.one_list_is_denoted.Goals as goal

pub returns : goal.returns
returns c = one_list
