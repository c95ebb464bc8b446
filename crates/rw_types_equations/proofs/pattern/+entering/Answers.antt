-- The variables of the parts.
use Rattle.rw_types_equations.proofs.Entering.{entered_as}
use Rattle.rw_types_equations.proofs.PatternArms.{con_locals, tuple_locals}
use Rattle.rw_types_equations.proofs.pattern.+entering.Goals as goal

pub enter_pattern-returns-in_ok-enter_row-in-Con : goal.enter_pattern-returns-in_ok-enter_row-in-Con
enter_pattern-returns-in_ok-enter_row-in-Con t c = entered_as _ _ _ _ c.in_ok-enter_row-in-Con.ensures (con_locals c.args.tree.now _ _ _ _ c.in-Con.is c.as_slice.ensures)

pub enter_pattern-returns-in_ok-enter_row-in-Tuple : goal.enter_pattern-returns-in_ok-enter_row-in-Tuple
enter_pattern-returns-in_ok-enter_row-in-Tuple t c = entered_as _ _ _ _ c.in_ok-enter_row-in-Tuple.ensures (tuple_locals c.args.tree.now _ _ _ c.in-Tuple.is c.as_slice-in-Tuple.ensures)
