-- One turn of the walk.
use Rattle.rw_scope_nodes.specs.Plain.{plain_nodes}
use Rattle.rw_scope_nodes.proofs.Steps.{smaller, walked}
use Rattle.rw_scope_nodes.proofs.walk.walk.Goals as goal

pub loop-next-preserved : goal.loop-next-preserved
loop-next-preserved g c =
    walked (plain_nodes c.loop-next.found.items) _ _ c.loop-next.left.items c.pop.new.self.items c.in-Some.next c.in-Some.ensures.items c.in_ok-step.ensures.nodes c.loop-next.invariant

pub loop-next-smaller : goal.loop-next-smaller
loop-next-smaller g c =
    smaller c.loop-next.found.items c.step.new.found.items c.loop-next.left.items c.pop.new.self.items c.step.new.left.items c.in-Some.next
    c.loop-next.found.len c.step.new.found.len c.loop-next.left.len c.pop.new.self.len c.step.new.left.len c.loop-next.found.ok.0 c.step.new.found.ok.0
    c.in-Some.ensures.items c.in_ok-step.ensures.nodes c.in_ok-step.ensures.grows c.in_ok-step.ensures.count c.in-Some.ensures.cases
