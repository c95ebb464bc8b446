-- What the bench answers where a change is not quiet in time.
use Rattle.std.proofs.Common.{◌≡◌, ℕ, ◌+◌, List, [], ◌∷◌, Result, Ok, Err, ap, sym}
use Rattle.vh_tree.specs.Bits.{Bits}
use Rattle.vh_tree.specs.Bench.{Schedule, on_ok, outp_of, given, read_first, clocked, readings_from}
use Rattle.vh_tree.specs.declared.wire.State.{State}
use Rattle.vh_tree.specs.declared.design.Design.{Design}

pub late_reads : (most : ℕ) (d : Design) (schedule : Schedule) (change : ℕ) (s : State) (late : ℕ) → clocked most d schedule change s ≡ Err late → (inputs : List Bits) →
    Err late ≡ readings_from most d schedule change s inputs
late_reads most d schedule change s late e [] = sym (ap (λ (r : Result State ℕ). on_ok r (λ high. Ok (outp_of high ∷ []))) e)
late_reads most d schedule change s late e (input ∷ inputs) =
    sym (ap (λ (r : Result State ℕ). on_ok r (λ high. read_first (outp_of high) (readings_from most d schedule (change + 2) (given input high) inputs))) e)
