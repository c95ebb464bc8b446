-- What the loop keeps, and what is left to do.
use Rattle.rw_scope_graph.specs.Meeting.{IsMeeting, meeting_work}
use Rattle.rw_scope_graph.proofs.circle.leads_back.Given as goal

abbrev pub invariant-loop-next : goal.invariant-loop-next
invariant-loop-next l = IsMeeting l.graph l.node l.states.items l.left.items

abbrev pub decreases-loop-next : goal.decreases-loop-next
decreases-loop-next l = meeting_work l.graph l.states.items l.left.items
