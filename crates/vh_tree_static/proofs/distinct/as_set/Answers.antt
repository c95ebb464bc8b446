-- A name that was seen stands again behind itself.
use Rattle.std.proofs.Common.{◌≡◌, ◌+◌, ◌-◌, ◌<◌, true, drop, length, is_some, sym, ap, ◌∙◌, arith}
use Rattle.vh_tree.specs.Bits.{is_among}
use Rattle.rw_base_tables.specs.Tables.{known_in}
use Rattle.vh_tree_static.proofs.FromTheLast.{stops, goes_on, sees}
use Rattle.vh_tree_static.proofs.distinct.as_set.Goals as goal

pub returns-then-has : goal.returns-then-has
returns-then-has c =
    let x = c.index-names-at.result in
    let again : is_among x (drop c.loop-at.at c.args.names.now) ≡ true = sym (c.loop-at.invariant.seen x) ∙ sym c.has.ensures ∙ c.if-has.true in
    stops c.args.names.now (c.loop-at.at - 1) c.loop-at.at x (omega arith) (omega arith) c.index-names-at.is again

pub loop-at-preserved : goal.loop-at-preserved
loop-at-preserved c =
    let x = c.index-names-at.result in
    let names = c.args.names.now in
    let next : c.loop-at.at ≡ c.loop-at.at - 1 + 1 = omega arith in
    let lt : c.loop-at.at - 1 < length names = omega arith in
    record {
      within = omega arith;
      seen = λ y. ap is_some (c.in_ok-put.ensures y) ∙ sees names (c.loop-at.at - 1) c.loop-at.at x next lt c.index-names-at.is c.as_slice.result.now y tt (known_in c.loop-at.seen y) c.as_slice.ensures (c.loop-at.invariant.seen y);
      distinct = goes_on names (c.loop-at.at - 1) c.loop-at.at x next lt c.index-names-at.is (sym (c.loop-at.invariant.seen x) ∙ sym c.has.ensures ∙ c.if-has.false) c.loop-at.invariant.distinct;
    }
