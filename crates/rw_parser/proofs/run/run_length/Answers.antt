-- Token after token.
use Rattle.std.proofs.Common.{◌∙◌, sym, arith}
use Rattle.rw_parser.proofs.Runs.{left_first, left_next, left_ends, left_none, depth_falls}
use Rattle.rw_parser.proofs.run.run_length.Goals as goal

pub loop-index-preserved : goal.loop-index-preserved
loop-index-preserved c =
    let h = sym c.depth_after.ensures ∙ c.in-Some.is in
    record {
      left = left_next c.args.tokens.now c.loop-index.index c.loop-index.depth c.in-Some.next c.index-tokens-index.result (omega arith) c.index-tokens-index.is h ∙ c.loop-index.invariant.left;
      within = let f = depth_falls c.loop-index.depth c.in-Some.next c.index-tokens-index.result h in let w = c.loop-index.invariant.within in omega (arith, f, w);
    }

pub returns-in-None-clause-ends : goal.returns-in-None-clause-ends
returns-in-None-clause-ends c =
    left_ends c.args.tokens.now c.loop-index.index c.loop-index.depth c.index-tokens-index.result (omega arith) c.index-tokens-index.is (sym c.depth_after.ensures ∙ c.in-None.is) c.loop-index.invariant.left

pub returns-clause-ends : goal.returns-clause-ends
returns-clause-ends c = left_none c.args.tokens.now c.loop-index.index c.loop-index.depth (omega arith) c.loop-index.invariant.left
