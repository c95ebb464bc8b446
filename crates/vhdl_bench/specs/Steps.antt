-- What functions inside promise each other: one change after another.
use Rattle.std.specs.Prelude.{◌≡◌, ℕ, ◌+◌, ◌≤◌, List, [], ◌∷◌, ◌++◌, ◌⊎◌, IfOk, Result, Ok, Err}
use Rattle.vh_tree.specs.Bench.{Schedule, IsSchedule, clocked, given, readings_from, bench_readings}
use Rattle.vh_tree.specs.Bits.{Bits}
use Rattle.vh_tree.specs.declared.design.Design.{Design}
use Rattle.vh_tree.specs.declared.wire.State.{State}
use Rattle.rw_base.specs.declared.rule.VRule.{VRule}
use Rattle.vhdl_cycle.specs.Simulating.{most_cycles, Simulates, state_of, change_of}
use Rattle.vhdl_cycle.specs.declared.sim.Sim.{Sim}
use Rattle.vhdl_bench.specs.Showing.{lines_of, IsAccepted, BreaksText}
use Rattle.vhdl_bench.specs.declared.fail.BenchFail.{BenchFail}
use Rattle.vhdl_bench.specs.declared.fail.BenchFail.TheVariants.{VhdlRefused, TraceRefused, NotSettled, OutOfMemory}

-- under every schedule, two changes from this one on lead to this answer
abbrev pub Leads : Design → ℕ → State → Result State ℕ → Type 0
Leads d change s answer = (schedule : Schedule) → IsSchedule d schedule → clocked most_cycles d schedule change s ≡ answer

-- a simulator after two changes
pub record IsAt (d : Design) (change : ℕ) (s : State) (sim : Sim) : Type 0 where
  pub runs : Simulates d sim
  pub count : change_of sim ≡ change + 1
  pub led : Leads d change s (Ok (state_of d sim))

-- it, or why there is none
abbrev pub IsClocked : Design → ℕ → State → Result Sim BenchFail → Type 0
IsClocked d change s (Ok sim) = IsAt d change s sim
IsClocked d change s (Err (VhdlRefused rule)) = ⊥
IsClocked d change s (Err (TraceRefused line)) = ⊥
IsClocked d change s (Err (NotSettled k)) = Leads d change s (Err k)
IsClocked d change s (Err OutOfMemory) = Unit {0}

-- a simulator after two changes more, or why it isn't there
abbrev pub IsAfter : Design → ℕ → State → Sim → Result Unit BenchFail → Type 0
IsAfter d change s sim (Ok done) = change + 2 ≤ 4294967295 → IsAt d (change + 1) s sim
IsAfter d change s sim (Err (VhdlRefused rule)) = ⊥
IsAfter d change s sim (Err (TraceRefused line)) = ⊥
IsAfter d change s sim (Err (NotSettled k)) = change + 2 ≤ 4294967295 → Leads d (change + 1) s (Err k)
IsAfter d change s sim (Err OutOfMemory) = Unit {0}

-- the readings after a state that was read, on the inputs that follow
abbrev pub readings_after : ℕ → Design → Schedule → ℕ → State → List Bits → Result (List Bits) ℕ
readings_after most d schedule change high [] = Ok []
readings_after most d schedule change high (input ∷ inputs) = readings_from most d schedule change (given input high) inputs

-- readings before those that are still to come
abbrev pub behind : List Bits → Result (List Bits) ℕ → Result (List Bits) ℕ
behind done (Ok readings) = Ok (done ++ readings)
behind done (Err change) = Err change

-- a bench that has read so many values: what it is to read is these, and what follows this state
pub record HasRead (d : Design) (inputs : List Bits) (change : ℕ) (high : State) (later : List Bits) (text : List ℕ) : Type 0 where
  pub readings : List Bits
  pub lines : text ≡ lines_of readings
  pub whole : (schedule : Schedule) → IsSchedule d schedule → bench_readings most_cycles d schedule inputs ≡ behind readings (readings_after most_cycles d schedule change high later)

-- a text that was read: what comes of it, both ways
pub record IsTextRead (text : List ℕ) (r : Result Design BenchFail) : Type 0 where
  pub ok : IfOk r (IsAccepted text)
  pub refused : (rule : VRule) → r ≡ Err (VhdlRefused rule) → BreaksText text rule
  pub few : (e : BenchFail) → r ≡ Err e → ((rule : VRule) × (e ≡ VhdlRefused rule)) ⊎ (e ≡ OutOfMemory)
  pub accepted : (d : Design) → IsAccepted text d → (r ≡ Ok d) ⊎ (r ≡ Err OutOfMemory)
  pub broken : (rule : VRule) → BreaksText text rule → (r ≡ Err (VhdlRefused rule)) ⊎ (r ≡ Err OutOfMemory)
