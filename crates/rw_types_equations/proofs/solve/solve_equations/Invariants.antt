-- The solutions of the table, of which the rest holds, are the assignments under which all hold.
use Rattle.std.proofs.Common.{◌≡◌, length, drop}
use Rattle.rw_types_solving.specs.Tables.{equations, IsTable}
use Rattle.rw_types_equations.proofs.Solving.{Solved}
use Rattle.rw_types_equations.proofs.solve.solve_equations.Given as goal

abbrev pub invariant-loop-equation : goal.invariant-loop-equation
invariant-loop-equation l = record {
  table : IsTable (equations l.table);
  as_many : length l.table ≡ l.variables;
  solved : Solved (equations l.table) l.equations (drop l.equation-index l.equations);
}
