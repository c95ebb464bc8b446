-- From one reading to the next.
use Rattle.std.proofs.Common.{◌≡◌, ℕ, ◌+◌, ◌≤◌, List, [], ◌∷◌, ◌++◌, Result, Ok, Err, refl, ap, sym, ◌∙◌, arith}
use Rattle.std.proofs.lemmas.Grind.{common_steps}
use Rattle.vh_tree.specs.Bits.{Bits}
use Rattle.vh_tree.specs.Bench.{Schedule, IsSchedule, clocked, given, on_ok, read_first, readings_from, bench_readings, outp_of, start_of}
use Rattle.vh_tree.specs.declared.design.Design.{Design}
use Rattle.vh_tree.specs.declared.wire.State.{State}
use Rattle.rw_trace.specs.Traces.{line_of}
use Rattle.vhdl_cycle.specs.Simulating.{most_cycles}
use Rattle.vhdl_bench.specs.Showing.{lines_of, NeverSettles, IsShown}
use Rattle.vhdl_cycle.specs.declared.sim.Sim.{Sim}
use Rattle.vhdl_bench.specs.declared.fail.BenchFail.{BenchFail}
use Rattle.vhdl_bench.specs.declared.fail.BenchFail.TheVariants.{VhdlRefused, TraceRefused, NotSettled, OutOfMemory}
use Rattle.vhdl_bench.specs.Steps.{Leads, IsClocked, IsAfter, HasRead, readings_after, behind}

-- readings, one by one
readings_step : (d : Design) (schedule : Schedule) (change : ℕ) (s : State) (inputs : List Bits) →
    readings_from most_cycles d schedule change s inputs ≡ on_ok (clocked most_cycles d schedule change s) (λ high. read_first (outp_of high) (readings_after most_cycles d schedule (change + 2) high inputs))
readings_step d schedule change s [] = refl
readings_step d schedule change s (input ∷ inputs) = refl

-- where two changes lead to a state, its reading is the first
after_ok : (d : Design) (schedule : Schedule) (change : ℕ) (s high : State) (inputs : List Bits) → clocked most_cycles d schedule change s ≡ Ok high →
    readings_from most_cycles d schedule change s inputs ≡ read_first (outp_of high) (readings_after most_cycles d schedule (change + 2) high inputs)
after_ok d schedule change s high inputs led =
    readings_step d schedule change s inputs ∙ ap (λ r. on_ok r (λ high. read_first (outp_of high) (readings_after most_cycles d schedule (change + 2) high inputs))) led

after_err : (d : Design) (schedule : Schedule) (change : ℕ) (s : State) (inputs : List Bits) (k : ℕ) → clocked most_cycles d schedule change s ≡ Err k →
    readings_from most_cycles d schedule change s inputs ≡ Err k
after_err d schedule change s inputs k led =
    readings_step d schedule change s inputs ∙ ap (λ r. on_ok r (λ high. read_first (outp_of high) (readings_after most_cycles d schedule (change + 2) high inputs))) led

-- one reading more
behind_first : (done : List Bits) (reading : Bits) (rest : Result (List Bits) ℕ) → behind done (read_first reading rest) ≡ behind (done ++ (reading ∷ [])) rest
behind_first done reading (Ok readings) = grind (arith, common_steps)
behind_first done reading (Err change) = refl

-- nothing was read yet
behind_none : (rest : Result (List Bits) ℕ) → rest ≡ behind [] rest
behind_none (Ok readings) = refl
behind_none (Err change) = refl

-- lines, and one more
lines_more : (readings : List Bits) (reading : Bits) → lines_of (readings ++ (reading ∷ [])) ≡ lines_of readings ++ line_of reading
lines_more [] reading = grind (arith, common_steps)
lines_more (r ∷ rs) reading = grind (arith, common_steps, lines_more rs reading)

-- reset doesn't settle
pub reset_never : (d : Design) (inputs : List Bits) (k : ℕ) → Leads d 1 (start_of d) (Err k) → NeverSettles d inputs k
reset_never d inputs k led schedule is = after_err d schedule 1 (start_of d) inputs k (led schedule is)

-- the reading after reset
pub reset_read : (d : Design) (inputs : List Bits) (high : State) → Leads d 1 (start_of d) (Ok high) → HasRead d inputs 3 high inputs (line_of (outp_of high))
reset_read d inputs high led = record {
  readings = outp_of high ∷ [];
  lines = grind (arith, common_steps);
  whole = λ schedule is. after_ok d schedule 1 (start_of d) high inputs (led schedule is) ∙ behind_none (read_first (outp_of high) (readings_after most_cycles d schedule 3 high inputs)) ∙ behind_first [] (outp_of high) (readings_after most_cycles d schedule 3 high inputs);
}

-- an input doesn't settle
pub input_never : (d : Design) (inputs : List Bits) (change : ℕ) (high : State) (input : Bits) (later : List Bits) (text : List ℕ) (k : ℕ) →
    HasRead d inputs change high (input ∷ later) text → Leads d change (given input high) (Err k) → NeverSettles d inputs k
input_never d inputs change high input later text k read led schedule is =
    read.whole schedule is ∙ ap (behind read.readings) (after_err d schedule change (given input high) later k (led schedule is))

-- the reading after an input
pub input_read : (d : Design) (inputs : List Bits) (change : ℕ) (high next : State) (input : Bits) (later : List Bits) (text : List ℕ) →
    HasRead d inputs change high (input ∷ later) text → Leads d change (given input high) (Ok next) → HasRead d inputs (change + 2) next later (text ++ line_of (outp_of next))
input_read d inputs change high next input later text read led = record {
  readings = read.readings ++ (outp_of next ∷ []);
  lines = ap (λ t. t ++ line_of (outp_of next)) read.lines ∙ sym (lines_more read.readings (outp_of next));
  whole = λ schedule is. read.whole schedule is ∙ ap (behind read.readings) (after_ok d schedule change (given input high) next later (led schedule is))
      ∙ behind_first read.readings (outp_of next) (readings_after most_cycles d schedule (change + 2) next later);
}

-- all inputs were given
pub all_read : (d : Design) (inputs : List Bits) (change : ℕ) (high : State) (text : List ℕ) → HasRead d inputs change high [] text →
    (readings : List Bits) × ((schedule : Schedule) → IsSchedule d schedule → bench_readings most_cycles d schedule inputs ≡ Ok readings) × (text ≡ lines_of readings)
all_read d inputs change high text read = (read.readings, (λ schedule is. read.whole schedule is ∙ ap Ok (grind (arith, common_steps))), read.lines)

-- reset failed
pub reset_failed : (d : Design) (inputs : List Bits) (e : BenchFail) → IsClocked d 1 (start_of d) (Err e) → IsShown d inputs (Err e)
reset_failed d inputs (VhdlRefused rule) a = absurd a
reset_failed d inputs (TraceRefused line) a = absurd a
reset_failed d inputs (NotSettled k) a = reset_never d inputs k a
reset_failed d inputs OutOfMemory a = tt

-- an input failed
pub input_failed : (d : Design) (inputs : List Bits) (change : ℕ) (high : State) (input : Bits) (later : List Bits) (text : List ℕ) (sim : Sim) (e : BenchFail) → change + 2 ≤ 4294967295 →
    HasRead d inputs (change + 1) high (input ∷ later) text → IsAfter d change (given input high) sim (Err e) → IsShown d inputs (Err e)
input_failed d inputs change high input later text sim (VhdlRefused rule) few read a = absurd a
input_failed d inputs change high input later text sim (TraceRefused line) few read a = absurd a
input_failed d inputs change high input later text sim (NotSettled k) few read a = input_never d inputs (change + 1) high input later text k read (a few)
input_failed d inputs change high input later text sim OutOfMemory few read a = tt
