-- A search from a node begins, comes back, or ends.
use Rattle.std.proofs.Common.{ap, ◌∙◌, ◌++◌, subst, arith}
use Rattle.rw_scope_graph.specs.Meeting.{IsMeeting}
use Rattle.rw_scope_graph.proofs.Circling.{meeting_first, came_back, never_back, row_read, no_items}
use Rattle.rw_scope_graph.proofs.circle.leads_back.Goals as goal

pub loop-next-init : goal.loop-next-init
loop-next-init c = meeting_first c.args.graph.now c.args.node c.in_ok-states.states.items c.extend_from_slice.new.self.items c.requires c.in_ok-states.ensures
    (c.in_ok-extend_from_slice.ensures.items ∙ ap (λ ls. ls ++ c.as_slice.result.now) c.new-left.ensures.items ∙ c.as_slice.ensures ∙ row_read c.args.graph.now c.args.node c.index-graph-node.result c.requires c.index-graph-node.is)

pub returns-then-next-node : goal.returns-then-next-node
returns-then-next-node c =
    came_back c.args.graph.now c.args.node c.loop-next.states.items c.pop.new.self.items c.in-Some.next (subst (IsMeeting c.args.graph.now c.args.node c.loop-next.states.items) c.in-Some.ensures.items c.loop-next.invariant) c.if-next-node.true

pub returns : goal.returns
returns c =
    let counted = c.loop-next.left.ok.0 in
    let none = c.in_default.ensures.cases.0 in
    never_back c.args.graph.now c.args.node c.loop-next.states.items
    (subst (IsMeeting c.args.graph.now c.args.node c.loop-next.states.items) (no_items c.loop-next.left.items (omega (arith, none, counted))) c.loop-next.invariant)
