-- What a simulation of a text on a trace prints: the readings of the bench, one line each; or why it prints nothing.
use Rattle.std.specs.Prelude.{◌≡◌, ◌⊎◌, ℕ, ◌≤◌, List, map, length, Bool, true, false, nat_lt, if◌then◌else◌, Result, Ok, Err}
use Rattle.std.specs.List.{flat_map}
use Rattle.rw_base.specs.declared.bit.Bit9.{Bit9}
use Rattle.rw_base.specs.declared.bit.Bit9.TheVariants.{Zero, One}
use Rattle.rw_base.specs.declared.rule.VRule.{VRule}
use Rattle.rw_base.specs.declared.rule.VRule.TheVariants.{V1}
use Rattle.vh_tree.specs.Bits.{Bits}
use Rattle.vh_tree.specs.Bench.{Schedule, IsSchedule, BenchInEveryOrder, bench_readings}
use Rattle.vh_tree.specs.Spelling.{IsSpelled}
use Rattle.vh_tree.specs.StaticRules.{IsStatic}
use Rattle.vh_tree.specs.declared.design.Design.{Design}
use Rattle.vhdl_cycle.specs.Simulating.{most_cycles}
use Rattle.vhdl_read.specs.Reading.{IsFirstBroken}
use Rattle.rw_trace.specs.Traces.{trace_of, line_of}
use Rattle.vhdl_bench.specs.declared.fail.BenchFail.{BenchFail}
use Rattle.vhdl_bench.specs.declared.fail.BenchFail.TheVariants.{VhdlRefused, TraceRefused, NotSettled, OutOfMemory}

-- how many bytes a text has at most
abbrev pub most_of_text : ℕ
most_of_text = 67108864

-- a wire that is high or low
abbrev pub wire_of : Bool → Bit9
wire_of bit = if bit then One else Zero

-- the values that the lines of a trace give to `inp`
abbrev pub inputs_of : List (List Bool) → List Bits
inputs_of lines = map (map wire_of) lines

-- readings, one line each
abbrev pub lines_of : List Bits → List ℕ
lines_of readings = flat_map line_of readings

-- whatever the order of the processes, the bench reads these values of `outp`, and this is their text
abbrev pub ShowsText : Design → List Bits → List ℕ → Type 0
ShowsText d inputs text = (readings : List Bits) × BenchInEveryOrder most_cycles d inputs readings × (text ≡ lines_of readings)

-- whatever the order of the processes, the change of this number is the first that isn't quiet in time
abbrev pub NeverSettles : Design → List Bits → ℕ → Type 0
NeverSettles d inputs change = (schedule : Schedule) → IsSchedule d schedule → bench_readings most_cycles d schedule inputs ≡ Err change

-- a text that spells this design, of which the static rules hold
pub record IsAccepted (text : List ℕ) (d : Design) : Type 0 where
  pub within : length text ≤ most_of_text
  pub spelled : IsSpelled text d
  pub static : IsStatic d

-- the first of the rules V1 to V8 that a text breaks; a text with too many bytes breaks V1
abbrev pub breaks_first : Bool → List ℕ → VRule → Type 0
breaks_first true text rule = rule ≡ V1
breaks_first false text rule = IsFirstBroken text rule

abbrev pub BreaksText : List ℕ → VRule → Type 0
BreaksText text rule = breaks_first (nat_lt most_of_text (length text)) text rule

-- what a simulation of a text on a trace prints, or why it prints nothing
abbrev pub IsSimulated : (vhdl trace : List ℕ) → Result (List ℕ) BenchFail → Type 0
IsSimulated vhdl trace (Ok text) =
    (d : Design) × (bits : List (List Bool)) × IsAccepted vhdl d × (trace_of d.inp trace ≡ Ok bits) × ShowsText d (inputs_of bits) text
IsSimulated vhdl trace (Err (VhdlRefused rule)) = BreaksText vhdl rule
IsSimulated vhdl trace (Err (TraceRefused line)) = (d : Design) × IsAccepted vhdl d × (trace_of d.inp trace ≡ Err line)
IsSimulated vhdl trace (Err (NotSettled change)) =
    (d : Design) × (bits : List (List Bool)) × IsAccepted vhdl d × (trace_of d.inp trace ≡ Ok bits) × NeverSettles d (inputs_of bits) change
IsSimulated vhdl trace (Err OutOfMemory) = ⊥

-- the answer is this one, unless memory ran out
abbrev pub IsUnlessMemory : Result (List ℕ) BenchFail → Result (List ℕ) BenchFail → Type 0
IsUnlessMemory answer given = (given ≡ answer) ⊎ (given ≡ Err OutOfMemory)

-- what a design shows on its bench
abbrev pub IsShown : Design → List Bits → Result (List ℕ) BenchFail → Type 0
IsShown d inputs (Ok text) = ShowsText d inputs text
IsShown d inputs (Err (VhdlRefused rule)) = ⊥
IsShown d inputs (Err (TraceRefused line)) = ⊥
IsShown d inputs (Err (NotSettled change)) = NeverSettles d inputs change
IsShown d inputs (Err OutOfMemory) = Unit {0}
