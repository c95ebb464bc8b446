-- The run ends at an entry of another kind, or goes on.
use Rattle.std.proofs.Common.{◌∙◌, sym}
use Rattle.rw_layout.specs.Steps.{is_run}
use Rattle.rw_layout.proofs.Stacks.{run_on, run_ends, run_past}
use Rattle.rw_layout.proofs.stack.Stack.run_len.Goals as goal

pub returns-in_default-clause-value : goal.returns-in_default-clause-value
returns-in_default-clause-value c = sym (run_ends (is_run c.args.run) c.args.self.now c.loop-n.n c.in-Some.entry (sym c.in-Some.ensures) (sym c.has.ensures ∙ c.if-has.false)) ∙ c.loop-n.invariant

pub returns-in_default-2-clause-value : goal.returns-in_default-2-clause-value
returns-in_default-2-clause-value c = sym (run_past (is_run c.args.run) c.args.self.now c.loop-n.n (cc)) ∙ c.loop-n.invariant

pub loop-n-preserved : goal.loop-n-preserved
loop-n-preserved c = sym (run_on (is_run c.args.run) c.args.self.now c.loop-n.n c.in-Some.entry (sym c.in-Some.ensures) (sym c.has.ensures ∙ c.if-has.true)) ∙ c.loop-n.invariant
