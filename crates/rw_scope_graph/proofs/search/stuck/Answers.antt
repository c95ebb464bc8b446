-- One node more is known, and at last all are.
use Rattle.std.proofs.Common.{map, ap, subst, arith, ◌∙◌, take_all}
use Rattle.rw_scope_graph.specs.Search.{is_held, IsKept}
use Rattle.rw_scope_graph.proofs.Searching.{given_back, one_known, at_last}
use Rattle.rw_scope_graph.proofs.search.stuck.Goals as goal

pub loop-node-preserved : goal.loop-node-preserved
loop-node-preserved c =
    let s = c.in_ok-search.ensures.searched in
    let before = c.loop-node.invariant.searched in
    let counted = c.loop-node.states.ok.0 in
    let back = given_back c.search.new.states c.loop-node.states.items c.loop-node.states.len (omega arith) (omega arith) in
    record {
      searched = rw back s;
      empty = c.in_ok-search.ensures.empty;
      known = rw back (one_known c.loop-node.states.items c.search.new.states c.loop-node.node (subst (λ states. IsKept states c.search.new.states) c.as_mut_slice.ensures.value c.in_ok-search.ensures.kept) c.loop-node.invariant.known c.in_ok-search.ensures.known);
    }

pub returns : goal.returns
returns c =
    let value = c.deref-state-items.ensures.value in
    at_last c.args.graph.now c.loop-node.states.items c.loop-node.invariant.searched (λ i l. c.loop-node.invariant.known i (omega arith)) c.loop-state.marks.items
    (c.loop-state.invariant ∙ ap (map is_held) (take_all c.loop-state.state-index c.deref-state-items.result.now (omega arith) ∙ value))
