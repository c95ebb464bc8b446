-- What is seen: no column, a row of wildcards alone, or the groups of the last column.
use Rattle.std.proofs.Common.{arith, ◌∙◌, ◌-◌, ◌<◌, map, refl}
use Rattle.std.proofs.lemmas.List.{length-map}
use Rattle.rw_cover_matrix.specs.Matching.{plain_rows}
use Rattle.rw_cover_matrix.proofs.Popped.{width_in, width_to, no_width, open_row}
use Rattle.rw_cover_matrix.proofs.Owed.{fewer}
use Rattle.rw_cover_matrix.proofs.decide.look.Goals as goal

pub returns-then-width-eq0 : goal.returns-then-width-eq0
returns-then-width-eq0 c =
    no_width c.widest-width.result c.as_slice.result.now c.args.rows c.is_empty.result c.as_slice.ensures c.if-width-eq0.true c.widest-width.ensures.within c.is_empty.ensures

pub returns-then-has_open : goal.returns-then-has_open
returns-then-has_open c = open_row c.as_slice-2.result.now c.args.rows c.as_slice-2.ensures (c.has_open.ensures c.if-has_open.true)

pub returns : goal.returns
returns c =
    let n = c.widest-width.result - 1 in
    let some : 0 < c.widest-width.result = omega arith in
    let all = c.in_ok-sorted.sorted in
    fewer n (plain_rows c.args.rows)
    (width_in c.widest-width.result c.as_slice.result.now c.args.rows c.as_slice.ensures some c.widest-width.ensures.within)
    (width_to c.widest-width.result c.as_slice.result.now c.args.rows c.as_slice.ensures some c.widest-width.ensures.reached)
    (map plain_rows all.groups.items) (plain_rows all.shorter) c.in_ok-sorted.ensures.groups
    (length-map all.groups.items plain_rows ∙ c.in_ok-sorted.ensures.count) c.in_ok-sorted.ensures.shorter
    all c.in_ok-needed.needed refl refl c.in_ok-needed.ensures
