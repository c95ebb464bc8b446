-- A layer is a node of its own but where it is known and stands over one monad.
use Rattle.std.proofs.Common.{arith}
use Rattle.std.proofs.lemmas.Grind.{common_steps}
use Rattle.std.proofs.lemmas.Bool.Decides.{nat_tests}
use Rattle.rw_types_solving.proofs.Plains.{own_known, own_other}
use Rattle.rw_types_solving.proofs.term.own.Goals as goal

pub returns-in-Layer : goal.returns-in-Layer
returns-in-Layer c = grind (arith, common_steps, nat_tests, own_known)

pub returns-in_default-2 : goal.returns-in_default-2
returns-in_default-2 c = grind (arith, common_steps, nat_tests, own_other)
