-- One row more is sorted, and in the end no row is left.
use Rattle.std.proofs.Common.{arith, ◌≡◌, ◌∙◌, ◌<◌, ◌+◌, length, get_or, [], reverse, map}
use Rattle.std.proofs.lemmas.List.{length-map}
use Rattle.rw_cover_matrix.specs.Matching.{plain_rows}
use Rattle.rw_cover_matrix.specs.Columns.{group, shorter_rows}
use Rattle.rw_cover_matrix.proofs.Plains.{last_within, group_step, shorter_step, group_end, shorter_end}
use Rattle.rw_cover_matrix.proofs.sort.sort_rows.Goals as goal

pub add-requires : goal.add-requires
add-requires c = (last_within c.loop-row.left c.pop.new.self c.in-Some.row (c.args.column + 1) c.in-Some.ensures c.loop-row.invariant.within).1

pub loop-row-preserved : goal.loop-row-preserved
loop-row-preserved c = record {
  within = (last_within c.loop-row.left c.pop.new.self c.in-Some.row (c.args.column + 1) c.in-Some.ensures c.loop-row.invariant.within).0;
  count = c.in_ok-add.ensures.count ∙ c.loop-row.invariant.count;
  groups = λ t lt.
      let same : length c.add.new.self.groups.items ≡ length c.loop-row.all.groups.items = c.in_ok-add.ensures.count in
      let less : t < length c.loop-row.all.groups.items = omega arith in
      group_step c.args.column t c.loop-row.left c.pop.new.self c.in-Some.row (plain_rows (get_or c.add.new.self.groups.items t [])) (plain_rows (get_or c.loop-row.all.groups.items t []))
      (group c.args.column t (reverse (plain_rows c.args.rows))) c.in-Some.ensures (c.in_ok-add.ensures.groups t less) (c.loop-row.invariant.groups t less);
  shorter =
      shorter_step c.args.column c.loop-row.left c.pop.new.self c.in-Some.row (plain_rows c.add.new.self.shorter) (plain_rows c.loop-row.all.shorter)
      (shorter_rows c.args.column (reverse (plain_rows c.args.rows))) c.in-Some.ensures c.in_ok-add.ensures.shorter c.loop-row.invariant.shorter;
}

pub returns-clause-groups : goal.returns-clause-groups
returns-clause-groups c = λ t lt.
    group_end c.args.column t c.loop-row.left c.loop-row.all.groups.items (group c.args.column t (reverse (plain_rows c.args.rows))) c.in_default.ensures.0
    (c.loop-row.invariant.groups t (let m : length (map plain_rows c.loop-row.all.groups.items) ≡ length c.loop-row.all.groups.items = length-map c.loop-row.all.groups.items plain_rows in omega arith))

pub returns-clause-shorter : goal.returns-clause-shorter
returns-clause-shorter c =
    shorter_end c.args.column c.loop-row.left c.loop-row.all.shorter (shorter_rows c.args.column (reverse (plain_rows c.args.rows))) c.in_default.ensures.0 c.loop-row.invariant.shorter
