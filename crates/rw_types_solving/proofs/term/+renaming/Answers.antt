-- The plain form of an instance with parts.
use Rattle.std.proofs.Common.{arith}
use Rattle.std.proofs.lemmas.Grind.{common_steps}
use Rattle.rw_types_solving.proofs.Plains.{plain_forms, tys_map}
use Rattle.rw_types_solving.proofs.term.+renaming.Goals as goal

pub instance-returns-in_ok-instances-in-App : goal.instance-returns-in_ok-instances-in-App
instance-returns-in_ok-instances-in-App t c = grind (arith, common_steps, plain_forms, tys_map)
