-- The search comes to the same as the steps that it began with.
use Rattle.std.proofs.Common.{map, ◌++◌, []}
use Rattle.rw_types_shared.specs.Shared.{type_at, Extends}
use Rattle.specialise_tables.specs.Fields.{seen_fields, world_with}
use Rattle.specialise_tables.specs.Tabled.{tabled}
use Rattle.specialise_tables.specs.Going.{see, GoesOn, IsUnderWay, steps_of}
use Rattle.specialise_tables.proofs.see.see_all.Given as goal

abbrev pub invariant-loop-turn : goal.invariant-loop-turn
invariant-loop-turn l = record {
  way : IsUnderWay l.types l.table.numbers.items l.table.marks l.stack l.room;
  kept : Extends l.fn.types l.types;
  goes : GoesOn (world_with (seen_fields l.fields)) (map see (map (type_at l.fn.types) l.numbers) ++ []) (tabled l.fn.types l.fn.table.numbers.items)
      (steps_of l.types l.stack) (tabled l.types l.table.numbers.items);
}
