-- What the walk keeps, and why it ends.
use Rattle.std.proofs.Common.{◌≡◌, ◌++◌, ◌+◌, ◌*◌, length, vec_len}
use Rattle.rw_scope_nodes.specs.Plain.{in_all, left_nodes, plain_nodes, task_nodes}
use Rattle.rw_scope_nodes.proofs.walk.walk.Given as goal

-- the nodes that were found, and behind them those that are left, are all
abbrev pub invariant-loop-next : goal.invariant-loop-next
invariant-loop-next g l = in_all l.found.items l.left.items ≡ plain_nodes l.fn.found.items ++ task_nodes l.fn.task

-- a step finds a node and puts five tasks on the list at most, or it takes one from the list alone
abbrev pub decreases-loop-next : goal.decreases-loop-next
decreases-loop-next g l = 6 * length (left_nodes l.left.items) + vec_len l.left
