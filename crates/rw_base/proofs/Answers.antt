-- Failures of parts are failures of the whole.
use Rattle.std.proofs.Common.{◌≡◌, Option, None}
use Rattle.rw_base.specs.declared.fail.Failure.{Failure}
use Rattle.rw_base.specs.declared.fail.Failure.TheVariants.{Refused, OutOfMemory}
use Rattle.rw_base.specs.Answers.{Fails}

-- a fault at a part is a fault of the whole
pub fails_on : {X Y R : Type 0} (e : Failure R) (part : Option X) (whole : Option Y) → Fails e part → (part ≡ None → whole ≡ None) → Fails e whole
fails_on OutOfMemory part whole h f = tt
fails_on (Refused r) part whole h f = f h
