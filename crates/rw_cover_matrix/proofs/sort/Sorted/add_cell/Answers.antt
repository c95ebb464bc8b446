-- What is added for one row, by its last pattern.
use Rattle.std.proofs.Common.{get_or, []}
use Rattle.std.proofs.lemmas.Result.{on_ok_weaker}
use Rattle.rw_cover_matrix.specs.Matching.{plain_rows}
use Rattle.rw_cover_matrix.proofs.Plains.{add_any, none_any, add_con, kept_con}
use Rattle.rw_cover_matrix.proofs.sort.Sorted.add_cell.Goals as goal

pub returns-in_ok-push-in-Any-clause-shorter : goal.returns-in_ok-push-in-Any-clause-shorter
returns-in_ok-push-in-Any-clause-shorter c = add_any c.push.new.self c.args.self.now.shorter c.args.front c.args.cell c.in_ok-push-in-Any.ensures.ok c.in-Any.is

pub returns-in_ok-push-in-Any-clause-groups : goal.returns-in_ok-push-in-Any-clause-groups
returns-in_ok-push-in-Any-clause-groups c = λ t lt. none_any (plain_rows (get_or c.args.self.now.groups.items t [])) c.args.front c.args.cell t c.in-Any.is

pub returns-in_ok-append-in-Con-clause-shorter : goal.returns-in_ok-append-in-Con-clause-shorter
returns-in_ok-append-in-Con-clause-shorter c =
    on_ok_weaker c.put.result
    (λ e. kept_con c.args.self.now.shorter c.put.new.self.shorter c.args.front c.in-Con.parts c.args.cell c.in-Con.place c.in-Con._among e c.in-Con.is)
    c.put.ensures.shorter

pub returns-in_ok-append-in-Con-clause-groups : goal.returns-in_ok-append-in-Con-clause-groups
returns-in_ok-append-in-Con-clause-groups c =
    on_ok_weaker c.put.result
    (λ e t lt. add_con (plain_rows (get_or c.args.self.now.groups.items t [])) (plain_rows (get_or c.put.new.self.groups.items t [])) c.args.front c.append.new.self c.in-Con.parts c.args.cell t c.in-Con.place c.in-Con._among
    (e t lt) c.in-Con.is c.in_ok-append-in-Con.ensures)
    c.put.ensures.groups
