use Rattle.std.proofs.Common.{◌≡◌, drop}
use Rattle.rw_base.specs.Memory.{find_file}
use Rattle.rw_base.proofs.memory.store.find.Given as goal

-- what is left to be searched finds what the whole list does
abbrev pub invariant-loop-file : goal.invariant-loop-file
invariant-loop-file l = find_file (drop l.file-index l.files) l.name ≡ find_file l.files l.name
