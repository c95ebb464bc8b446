-- Those so far are marked.
use Rattle.std.proofs.Common.{take}
use Rattle.specialise_tables.specs.Tabled.{AreMarked}
use Rattle.specialise_tables.proofs.marks.Marks.has_all.Given as goal

abbrev pub invariant-loop-n : goal.invariant-loop-n
invariant-loop-n l = AreMarked l.self (take l.n-index l.numbers)
