-- What a status says: the theorem of a command, a sentence a field.
use Rattle.std.specs.Prelude.{◌≡◌, ◌≢◌, ◌⊎◌, ℕ, List, Option, Some, Err}
use Rattle.rw_base.specs.Outside.{Files, Told, IfTold, Appended, AppendedPrefix}
use Rattle.rw_base.specs.declared.rule.Rule.{Rule}
use Rattle.rw_base.specs.declared.place.Place.{Place}
use Rattle.vhdl_bench.specs.declared.fail.BenchFail.{BenchFail}
use Rattle.vhdl_bench.specs.declared.fail.BenchFail.TheVariants.{OutOfMemory as WantOfMemory}
use Rattle.rewire_top.specs.Commands.{Command, files_of, HoldsAll, ReadsSource, PutsText, WriteFailed, KeepsOthers}
use Rattle.rewire_top.specs.Answers.{Compiles, CompilesInPart, IsRefusedAs, Simulates, Prints, CanBeDone, status_of, IsLater}
use Rattle.rewire_top.specs.declared.status.Status.{Status}
use Rattle.rewire_top.specs.declared.status.Status.TheVariants.{Ok, Refused, ReadFault, WriteFault, OutOfMemory}

-- this status, or why there is none: a load failed, or memory ran out
abbrev pub IsUnlessOutside : Status → Status → Type 0
IsUnlessOutside expected status = (status ≡ expected) ⊎ (status ≡ ReadFault) ⊎ (status ≡ OutOfMemory)

-- nothing fails outside: no count of the store or of `out` rose; or the store is sound and holds each file that the command loads, and the count of
-- `out` didn't rise
abbrev pub IsFaultless : Option Command → (sound loads saves puts : Type 0) → Files → Type 0
IsFaultless command sound loads saves puts files =
    ((loads → ⊥) × (saves → ⊥) × (puts → ⊥)) ⊎ (sound × HoldsAll (files_of command) files × (puts → ⊥))

-- of a command, where the store is sound, where the counts of failed loads, failed saves and failed puts to `out` rose, what the store held and
-- holds, and what was written to `out` before and after
pub record Answered (command : Option Command) (sound loads saves puts : Type 0) (old new : Option Files) (before after : Option (List ℕ)) (status : Status) : Type 0 where
  -- the faults: a read fault comes only where a load failed, and never at a sound store that holds the files
  pub read_fault : status ≡ ReadFault → loads
  pub read_fault_sound : sound → IfTold (HoldsAll (files_of command)) old → status ≢ ReadFault
  -- a write fault comes only where the save of `compile` failed, or the put of `sim`
  pub write_fault : status ≡ WriteFault → WriteFailed command saves puts
  -- the refusals: of a source, only by the first broken rule of E01 to E16 in `check`, and by E00 where the source isn't of the explicit form in
  -- `compile`; and wherever that is so
  pub refused : (rule : Rule) (place : Place) → status ≡ Refused rule place → ReadsSource command × IfTold (λ files. IsRefusedAs command files rule place) old
  pub refused_where : (files : Files) (rule : Rule) (place : Place) → old ≡ Some files → IsRefusedAs command files rule place → IsUnlessOutside (Refused rule place) status
  -- of a text, a trace or a change, only in `sim`, only as the simulation answers, and wherever it answers so
  pub no_other : IsLater status → PutsText command
  pub later : (fail : BenchFail) → fail ≢ WantOfMemory → status ≡ status_of fail → IfTold (λ files. Simulates command files (Err fail)) old
  pub later_where : (files : Files) → old ≡ Some files → (fail : BenchFail) → Simulates command files (Err fail) → IsUnlessOutside (status_of fail) status
  -- completeness: a command that can be done is done where nothing fails outside, unless memory runs out
  pub complete : (files : Files) → old ≡ Some files → CanBeDone command files → IsFaultless command sound loads saves puts files → (status ≡ Ok) ⊎ (status ≡ OutOfMemory)
  -- what stands afterwards: after Ok the source is accepted, and the target holds its text; after a write fault a prefix of it, or what it held;
  -- else all is as it was, and no other name changes ever
  pub ok : status ≡ Ok → Told (Compiles command) old new
  pub part : status ≡ WriteFault → Told (CompilesInPart command) old new
  pub others : Told (KeepsOthers command) old new
  pub kept : status ≢ Ok → status ≢ WriteFault → new ≡ old
  -- what is put to `out`, at once: all of it, or a prefix where the put failed, and nothing after any other status
  pub shown : status ≡ Ok → (text : List ℕ) × IfTold (Prints command text) old × Told (Appended text) before after
  pub shown_part : status ≡ WriteFault → (text : List ℕ) × IfTold (Prints command text) old × Told (AppendedPrefix text) before after
  pub out_kept : status ≢ Ok → status ≢ WriteFault → after ≡ before
