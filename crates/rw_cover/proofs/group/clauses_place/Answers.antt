-- The group of some clauses.
use Rattle.rw_cover.proofs.Forms.{clauses_first}
use Rattle.rw_cover.proofs.group.clauses_place.Goals as goal

pub returns-in_ok-covered-in-Some : goal.returns-in_ok-covered-in-Some
returns-in_ok-covered-in-Some c =
    clauses_first c.args.counts.now c.args.known.now c.args.clauses.now c.in-Some.field-0-1.now c.in-Some.first.now c.in_ok-covered-in-Some.covered c.unless.result
    c.in-Some.ensures.cases.0 c.in_ok-covered-in-Some.ensures c.unless.ensures
