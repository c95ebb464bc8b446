-- What the pattern in a column says.
use Rattle.rw_cover_matrix.proofs.Plains.{count_past, count_any, count_con}
use Rattle.rw_cover_matrix.proofs.measures.among_at.Goals as goal

pub returns-then-column-row : goal.returns-then-column-row
returns-then-column-row c = λ others. count_past c.args.row.now c.args.column others c.if-column-row.true

pub returns-in-Any : goal.returns-in-Any
returns-in-Any c = λ others. count_any c.args.row.now c.args.column c.index-row-column.result others c.if-column-row.false c.index-row-column.is c.in-Any.is

pub returns-in-Con : goal.returns-in-Con
returns-in-Con c = λ others.
    count_con c.args.row.now c.args.column c.index-row-column.result c.in-Con.field-0 c.in-Con.among c.in-Con.field-2 others
    c.if-column-row.false c.index-row-column.is c.in-Con.is
