-- The fields of the constructors so far have numbers.
use Rattle.std.proofs.Common.{◌≡◌, map, take, length}
use Rattle.std.specs.List.{flat_map}
use Rattle.rw_types_solving.specs.Types.{plains, apply}
use Rattle.rw_types_rules.specs.WellTyped.{given}
use Rattle.rw_types_shared.specs.Shared.{type_at, AreBelow, IsProper, Extends}
use Rattle.specialise_tables.proofs.open.fields_at.Given as goal

abbrev pub invariant-loop-fields : goal.invariant-loop-fields
invariant-loop-fields l = record {
  proper : IsProper l.types;
  kept : Extends l.fn.types l.types;
  within : AreBelow (length l.types) l.all.items;
  are : map (type_at l.types) l.all.items
      ≡ flat_map (λ takes. map (apply (given (map (type_at l.fn.types) l.arguments))) takes) (map (λ fields. plains fields.now) (take l.fields-index l.constructors));
}
