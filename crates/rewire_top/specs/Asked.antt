-- The words as the code reads them.
use Rattle.std.specs.Prelude.{Option, Some, None}
use Rattle.rewire_top.specs.Commands.{Command, Check, Compile, Sim}
use Rattle.rewire_top.specs.declared.words.Asked.{Asked}
use Rattle.rewire_top.specs.declared.words.Asked.TheVariants.{Check as Checks, Compile as Compiles, Sim as Simulates, Nothing}

-- the command that was asked for, if one was
abbrev pub asked_of : Asked → Option Command
asked_of Nothing = None
asked_of (Checks file) = Some (Check file.now)
asked_of (Compiles file target) = Some (Compile file.now target.now)
asked_of (Simulates vhdl trace) = Some (Sim vhdl.now trace.now)
