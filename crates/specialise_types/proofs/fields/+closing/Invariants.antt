-- The types so far have numbers.
use Rattle.std.proofs.Common.{take, map, length}
use Rattle.rw_types_rules.specs.WellTyped.{given}
use Rattle.rw_types_shared.specs.Shared.{type_at, AreBelow}
use Rattle.rw_types_shared.proofs.Loops.{SharedSoFar}
use Rattle.specialise_types.proofs.fields.+closing.Given as goal

abbrev pub invariant-field_types-loop-term : goal.invariant-field_types-loop-term
invariant-field_types-loop-term l = record {
  so_far : SharedSoFar (given (map (type_at l.fn.types) l.arguments)) l.fn.types l.types l.all.items (take l.term-index l.terms);
  arguments : AreBelow (length l.types) l.arguments;
}
