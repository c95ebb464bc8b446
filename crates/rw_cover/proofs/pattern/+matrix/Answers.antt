-- A constructor and a tuple, from their parts.
use Rattle.rw_cover.proofs.RowForms.{con_is, tuple_is}
use Rattle.rw_cover.proofs.pattern.+matrix.Goals as goal

pub matrix_pattern-returns-in_ok-parts-in-Con : goal.matrix_pattern-returns-in_ok-parts-in-Con
matrix_pattern-returns-in_ok-parts-in-Con t c =
    con_is c.args.counts.now c.args.pattern.now c.in-Con.at c.in-Con.field-1 c.in-Con.parts c.as_slice.result.now c.in_ok-parts-in-Con.parts c.built.result
    c.in-Con.is c.as_slice.ensures c.in_ok-parts-in-Con.ensures c.built.ensures

pub matrix_pattern-returns-in_ok-parts-in-Tuple : goal.matrix_pattern-returns-in_ok-parts-in-Tuple
matrix_pattern-returns-in_ok-parts-in-Tuple t c =
    tuple_is c.args.counts.now c.args.pattern.now c.in-Tuple.field-0 c.in-Tuple.parts c.as_slice-in-Tuple.result.now c.in_ok-parts-in-Tuple.parts
    c.in-Tuple.is c.as_slice-in-Tuple.ensures c.in_ok-parts-in-Tuple.ensures
