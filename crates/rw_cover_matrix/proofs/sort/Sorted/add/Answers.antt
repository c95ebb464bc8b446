-- What is added for one row: whether it reaches the column.
use Rattle.std.proofs.Common.{rules, get_or, []}
use Rattle.std.proofs.lemmas.Result.{on_ok_weaker}
use Rattle.rw_cover_matrix.specs.Matching.{plain_rows}
use Rattle.rw_cover_matrix.proofs.Plains.{add_past, none_past, cut_shorter, cut_grown}
use Rattle.rw_cover_matrix.proofs.sort.Sorted.add.Goals as goal

pub returns-then-len-column-clause-shorter : goal.returns-then-len-column-clause-shorter
returns-then-len-column-clause-shorter c = add_past c.push.new.self c.args.self.now.shorter c.args.row c.args.column c.in_ok-push.ensures.ok (search rules)

pub returns-then-len-column-clause-groups : goal.returns-then-len-column-clause-groups
returns-then-len-column-clause-groups c = λ t lt. none_past (plain_rows (get_or c.args.self.now.groups.items t [])) c.args.row c.args.column t (search rules)

pub returns-in-Some-clause-shorter : goal.returns-in-Some-clause-shorter
returns-in-Some-clause-shorter c =
    on_ok_weaker c.add_cell.result
    (λ e. cut_shorter (plain_rows c.args.self.now.shorter) (plain_rows c.add_cell.new.self.shorter) c.args.row c.pop.new.self c.in-Some.cell c.args.column
    c.in-Some.ensures (search rules) c.requires e)
    c.add_cell.ensures.shorter

pub returns-in-Some-clause-groups : goal.returns-in-Some-clause-groups
returns-in-Some-clause-groups c =
    on_ok_weaker c.add_cell.result
    (λ e t lt. cut_grown (plain_rows (get_or c.args.self.now.groups.items t [])) (plain_rows (get_or c.add_cell.new.self.groups.items t [])) c.args.row c.pop.new.self c.in-Some.cell c.args.column t
    c.in-Some.ensures (search rules) c.requires (e t lt))
    c.add_cell.ensures.groups
