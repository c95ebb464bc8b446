use Rattle.std.proofs.Common.{◌≡◌, drop, take, map}
use Rattle.std.specs.List.{list_all}
use Rattle.explicit_form.specs.Fit.{fits_function, state_of}
use Rattle.explicit_form.proofs.fit.states.Given as goal

-- the functions so far are in order, and their states stand in order
abbrev pub invariant-loop-function : goal.invariant-loop-function
invariant-loop-function l = record {
  fits : list_all (fits_function l.tables.inputs l.tables.outputs l.tables.functions) l.functions
      ≡ list_all (fits_function l.tables.inputs l.tables.outputs l.tables.functions) (drop l.function-index l.functions);
  states : l.states ≡ map (state_of l.tables.inputs l.tables.outputs l.tables.functions) (take l.function-index l.functions);
}
