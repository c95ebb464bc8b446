-- The group of a `<-`, and no group of other statements.
use Rattle.rw_cover.proofs.Forms.{statement_first, no_group, let_is, run_is}
use Rattle.rw_cover.proofs.group.statement_place.Goals as goal

pub returns-in_ok-covered-in-Bind : goal.returns-in_ok-covered-in-Bind
returns-in_ok-covered-in-Bind c =
    statement_first c.args.counts.now c.args.known.now c.args.tree.now c.in-Bind.at c.in-Bind.pat c.in-Bind.field-2 c.from_ref.result.now c.in_ok-covered-in-Bind.covered c.unless.result
    c.in-Bind.is c.from_ref.ensures.value c.in_ok-covered-in-Bind.ensures c.unless.ensures

pub returns-in-Let : goal.returns-in-Let
returns-in-Let c = no_group _ (let_is c.args.counts.now c.args.known.now c.args.tree.now c.in-Let.field-0 c.in-Let.field-1 c.in-Let.is)

pub returns-in-Run : goal.returns-in-Run
returns-in-Run c = no_group _ (run_is c.args.counts.now c.args.known.now c.args.tree.now c.in-Run.field-0 c.in-Run.field-1 c.in-Run.is)
