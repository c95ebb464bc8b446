use Rattle.bit_layout.specs.Widths.{AreWidths}
use Rattle.bit_layout.proofs.widths.widths.Given as goal

abbrev pub invariant-loop-ty : goal.invariant-loop-ty
invariant-loop-ty l = AreWidths l.cap l.types l.ty l.widths.items
