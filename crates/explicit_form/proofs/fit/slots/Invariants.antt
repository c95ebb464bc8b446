use Rattle.std.proofs.Common.{◌≡◌, [], drop, take, map, length, nat_eq}
use Rattle.std.specs.List.{list_all}
use Rattle.explicit_form.specs.Fit.{are_new, fits_arm, entry_of, entries_from}
use Rattle.explicit_form.proofs.fit.slots.Given as goal

-- the slots hold what the alternatives so far lead to, which are in order
abbrev pub invariant-loop-arm : goal.invariant-loop-arm
invariant-loop-arm l = record {
  slots : l.slots.items ≡ entries_from 0 (length l.tables.inputs) (map (entry_of l.tables.inputs l.tables.functions) (take l.arm-index l.arms));
  fits : list_all (fits_arm l.tables.inputs l.tables.functions) l.arms ≡ list_all (fits_arm l.tables.inputs l.tables.functions) (drop l.arm-index l.arms);
  fresh : are_new nat_eq [] (map (λ e. e.0) (map (entry_of l.tables.inputs l.tables.functions) l.arms))
      ≡ are_new nat_eq (map (λ e. e.0) (map (entry_of l.tables.inputs l.tables.functions) (take l.arm-index l.arms))) (map (λ e. e.0) (map (entry_of l.tables.inputs l.tables.functions) (drop l.arm-index l.arms)));
}
