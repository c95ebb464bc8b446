-- A node is met for the first time.
use Rattle.std.proofs.Common.{sym, ap, ◌∙◌, ◌++◌, ◌∷◌, [], ◌<◌, set, subst, arith}
use Rattle.rw_scope_graph.specs.declared.search.State.TheVariants.{Held}
use Rattle.rw_scope_graph.specs.Search.{is_new, new_at}
use Rattle.rw_scope_graph.specs.Meeting.{IsMeeting, meeting_work}
use Rattle.rw_scope_graph.proofs.States.{new_within}
use Rattle.rw_scope_graph.proofs.Circling.{met_first, first_less, row_read}
use Rattle.rw_scope_graph.proofs.circle.meet.Goals as goal

pub returns-in_ok-extend_from_slice-in-New-clause-meeting : goal.returns-in_ok-extend_from_slice-in-New-clause-meeting
returns-in_ok-extend_from_slice-in-New-clause-meeting c =
    let new = ap (λ ss. new_at ss c.args.next) (sym c.as_slice.ensures.value) ∙ sym (ap is_new c.in-New.ensures) in
    let inside = new_within c.args.states.now.items c.args.next new in
    let sized = c.requires.meeting.sized in
    let row = c.as_slice-in-New.ensures ∙ row_read c.args.graph.now c.args.next c.index-graph-next.result (omega (arith, inside, sized)) c.index-graph-next.is in
    subst (IsMeeting c.args.graph.now c.args.node (set c.args.states.now.items c.args.next Held)) (sym (c.in_ok-extend_from_slice-in-New.ensures.items ∙ ap (λ r. c.args.left.now.items ++ r) row))
    (met_first c.args.graph.now c.args.node c.args.states.now.items c.args.left.now.items c.args.next c.requires.meeting c.requires.other new)

pub returns-in_ok-extend_from_slice-in-New-clause-less : goal.returns-in_ok-extend_from_slice-in-New-clause-less
returns-in_ok-extend_from_slice-in-New-clause-less c =
    let new = ap (λ ss. new_at ss c.args.next) (sym c.as_slice.ensures.value) ∙ sym (ap is_new c.in-New.ensures) in
    let inside = new_within c.args.states.now.items c.args.next new in
    let sized = c.requires.meeting.sized in
    let row = c.as_slice-in-New.ensures ∙ row_read c.args.graph.now c.args.next c.index-graph-next.result (omega (arith, inside, sized)) c.index-graph-next.is in
    subst (λ ls. meeting_work c.args.graph.now (set c.args.states.now.items c.args.next Held) ls < meeting_work c.args.graph.now c.args.states.now.items (c.args.left.now.items ++ c.args.next ∷ [])) (sym (c.in_ok-extend_from_slice-in-New.ensures.items ∙ ap (λ r. c.args.left.now.items ++ r) row))
    (first_less c.args.graph.now c.args.node c.args.states.now.items c.args.left.now.items c.args.next c.requires.meeting c.requires.other new)
