-- The commands, and which files each of them loads and saves.
use Rattle.std.specs.Prelude.{◌≡◌, ◌≢◌, ℕ, List, [], ◌∷◌, Option, Some, None, if◌then◌else◌, bytes_eq, codes}
use Rattle.rw_base.specs.Outside.{Files}

-- what the words ask for
pub data Command : Type 0 where
  Check : (file : List ℕ) → Command
  Compile : (file target : List ℕ) → Command
  Sim : (vhdl trace : List ℕ) → Command

-- the command that the words are, as a whole list, if they are one
abbrev pub command_of : List (List ℕ) → Option Command
command_of (word ∷ file ∷ []) = if bytes_eq word (codes "check") then Some (Check file) else None
command_of (word ∷ first ∷ second ∷ []) =
    if bytes_eq word (codes "compile") then Some (Compile first second)
    else if bytes_eq word (codes "sim") then Some (Sim first second)
    else None
command_of _ = None

-- the files that a command loads, in the order of the words
abbrev pub files_of : Option Command → List (List ℕ)
files_of None = []
files_of (Some (Check file)) = file ∷ []
files_of (Some (Compile file target)) = file ∷ []
files_of (Some (Sim vhdl trace)) = vhdl ∷ trace ∷ []

-- the store holds each of these names
abbrev pub HoldsAll : List (List ℕ) → Files → Type 0
HoldsAll [] files = Unit {0}
HoldsAll (name ∷ names) files = (files name ≢ None) × HoldsAll names files

-- a command that reads a source
abbrev pub ReadsSource : Option Command → Type 0
ReadsSource None = ⊥
ReadsSource (Some (Check file)) = Unit {0}
ReadsSource (Some (Compile file target)) = Unit {0}
ReadsSource (Some (Sim vhdl trace)) = ⊥

-- a command that puts a text to `out`
abbrev pub PutsText : Option Command → Type 0
PutsText None = ⊥
PutsText (Some (Check file)) = ⊥
PutsText (Some (Compile file target)) = ⊥
PutsText (Some (Sim vhdl trace)) = Unit {0}

-- the count that a write fault of the command raises: that of saves, or that of puts to `out`; `check` writes nothing
abbrev pub WriteFailed : Option Command → (saves puts : Type 0) → Type 0
WriteFailed None saves puts = ⊥
WriteFailed (Some (Check file)) saves puts = ⊥
WriteFailed (Some (Compile file target)) saves puts = saves
WriteFailed (Some (Sim vhdl trace)) saves puts = puts

-- the name that the command saves under
abbrev pub SavesUnder : Option Command → List ℕ → Type 0
SavesUnder None name = ⊥
SavesUnder (Some (Check file)) name = ⊥
SavesUnder (Some (Compile file target)) name = name ≡ target
SavesUnder (Some (Sim vhdl trace)) name = ⊥

-- every name that the command doesn't save under holds what it held
abbrev pub KeepsOthers : Option Command → Files → Files → Type 0
KeepsOthers command old new = (name : List ℕ) → (SavesUnder command name → ⊥) → new name ≡ old name
