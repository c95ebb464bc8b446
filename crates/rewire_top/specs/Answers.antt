-- What each answer of a command says of the source and of what is saved.
use Rattle.std.specs.Prelude.{◌≡◌, ℕ, List, [], Option, Some, None, Result, Ok, Err}
use Rattle.rw_base.specs.Outside.{Files, Loads, Saved, SavedInPart}
use Rattle.explicit_form.specs.Explicit.{IsCompiled, IsExplicitSource}
use Rattle.explicit_form.specs.Right.{IsRight}
use Rattle.rw_base.specs.declared.rule.Rule.{Rule}
use Rattle.rw_base.specs.declared.rule.Rule.TheVariants.{E00}
use Rattle.rw_base.specs.declared.place.Place.{Place}
use Rattle.rw_tree.specs.Declarations.{PlainProgram}
use Rattle.rw_base.specs.declared.place.Span.{Span}
use Rattle.rw_front.specs.Verdict.{Verdict}
use Rattle.vhdl_bench.specs.Showing.{IsSimulated}
use Rattle.vhdl_bench.specs.declared.fail.BenchFail.{BenchFail}
use Rattle.vhdl_bench.specs.declared.fail.BenchFail.TheVariants as bench
use Rattle.rewire_top.specs.Commands.{Command, Check, Compile, Sim}
use Rattle.rewire_top.specs.declared.status.Status.{Status}
use Rattle.rewire_top.specs.declared.status.Status.TheVariants.{Refused, VhdlRefused, TraceRefused, NotSettled, OutOfMemory}

-- how many bytes of a source are loaded, at most
abbrev pub most_of_source : ℕ
most_of_source = 262145

-- how many bytes of a VHDL text, and of a trace, are loaded, at most
abbrev pub most_of_vhdl : ℕ
most_of_vhdl = 67108865

abbrev pub most_of_trace : ℕ
most_of_trace = 16777217

-- Ok: the source breaks none of the rules E01 to E16; or it is of the explicit form, and the target holds the text of its design, which shows its
-- outputs
abbrev pub Compiles : Option Command → Files → Files → Type 0
Compiles None old new = ⊥
Compiles (Some (Check file)) old new = (source : List ℕ) × (program : PlainProgram Span) × Loads file most_of_source source old × Verdict source (Ok program)
Compiles (Some (Compile file target)) old new =
    (source text : List ℕ) × Loads file most_of_source source old × IsCompiled source text × IsRight source text × Saved target text old new
Compiles (Some (Sim vhdl trace)) old new = Unit {0}

-- WriteFault: the same, but the target holds what it held, or a prefix of that text
abbrev pub CompilesInPart : Option Command → Files → Files → Type 0
CompilesInPart None old new = ⊥
CompilesInPart (Some (Check file)) old new = ⊥
CompilesInPart (Some (Compile file target)) old new =
    (source text : List ℕ) × Loads file most_of_source source old × IsCompiled source text × IsRight source text × SavedInPart target text old new
CompilesInPart (Some (Sim vhdl trace)) old new = Unit {0}

-- Refused: of a source that is checked, the first broken rule of E01 to E16, first at this place; of one that is compiled, that it isn't of the
-- explicit form
abbrev pub IsRefusedAs : Option Command → Files → Rule → Place → Type 0
IsRefusedAs None files rule place = ⊥
IsRefusedAs (Some (Check file)) files rule place =
    (source : List ℕ) × Loads file most_of_source source files × Verdict source (Err (record { rule = rule; place = place }))
IsRefusedAs (Some (Compile file target)) files rule place =
    (source : List ℕ) × Loads file most_of_source source files × (rule ≡ E00) × (place ≡ record { line = 1; column = 1 }) × (IsExplicitSource source → ⊥)
IsRefusedAs (Some (Sim vhdl trace)) files rule place = ⊥

-- what a simulation of the files that were loaded answers
abbrev pub Simulates : Option Command → Files → Result (List ℕ) BenchFail → Type 0
Simulates None files answer = ⊥
Simulates (Some (Check file)) files answer = ⊥
Simulates (Some (Compile file target)) files answer = ⊥
Simulates (Some (Sim vhdl trace)) files answer =
    (text bytes : List ℕ) × Loads vhdl most_of_vhdl text files × Loads trace most_of_trace bytes files × IsSimulated text bytes answer

-- the text that a command puts to `out`
abbrev pub Prints : Option Command → List ℕ → Files → Type 0
Prints None text files = ⊥
Prints (Some (Check file)) text files = text ≡ []
Prints (Some (Compile file target)) text files = text ≡ []
Prints (Some (Sim vhdl trace)) text files = Simulates (Some (Sim vhdl trace)) files (Ok text)

-- a command can be done: the source breaks none of the rules E01 to E16, or is of the explicit form; or the text breaks none of V1 to V8, no line of
-- the trace is refused, and each change is quiet in time
abbrev pub CanBeDone : Option Command → Files → Type 0
CanBeDone None files = ⊥
CanBeDone (Some (Check file)) files = (source : List ℕ) × (program : PlainProgram Span) × Loads file most_of_source source files × Verdict source (Ok program)
CanBeDone (Some (Compile file target)) files = (source : List ℕ) × Loads file most_of_source source files × IsExplicitSource source
CanBeDone (Some (Sim vhdl trace)) files = (text : List ℕ) × Simulates (Some (Sim vhdl trace)) files (Ok text)

-- the status that tells why a simulation prints nothing
abbrev pub status_of : BenchFail → Status
status_of (bench.VhdlRefused rule) = VhdlRefused rule
status_of (bench.TraceRefused line) = TraceRefused line
status_of (bench.NotSettled change) = NotSettled change
status_of bench.OutOfMemory = OutOfMemory

-- the status is a refusal
abbrev pub IsRefusal : Status → Type 0
IsRefusal (Refused rule place) = Unit {0}
IsRefusal _ = ⊥

-- the status is that of a command that reads texts or traces
abbrev pub IsLater : Status → Type 0
IsLater (VhdlRefused rule) = Unit {0}
IsLater (TraceRefused line) = Unit {0}
IsLater (NotSettled change) = Unit {0}
IsLater _ = ⊥
