-- The nearest block or brace is under the other openers.
use Rattle.rw_layout.proofs.Stacks.{enclosing_run}
use Rattle.rw_layout.proofs.stack.Stack.enclosing.Goals as goal

pub returns : goal.returns
returns c = cc (enclosing_run c.args.self.now)
