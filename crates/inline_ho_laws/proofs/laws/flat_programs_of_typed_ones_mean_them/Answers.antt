-- Without its types it is a flat program for the program without them.
use Rattle.inline_ho_laws.proofs.Outputs.{denoted}
use Rattle.inline_ho_laws.proofs.Programs.{flat_of}
use Rattle.inline_ho_laws.proofs.laws.flat_programs_of_typed_ones_mean_them.Goals as goal

pub returns-clause-is_one : goal.returns-clause-is_one
returns-clause-is_one c world typed start others table functions system first h = flat_of world typed start others table functions system first h

pub returns-clause-denoted : goal.returns-clause-denoted
returns-clause-denoted c world typed start others table functions system first h inputs outputs d =
    denoted _ _ functions system (flat_of world typed start others table functions system first h) inputs outputs d
