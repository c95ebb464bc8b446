-- A head over its parts, and one type more.
use Rattle.std.proofs.Common.{List, map, ap, ◌∙◌}
use Rattle.rw_types_solving.specs.declared.term.Term.{Term}
use Rattle.rw_types_solving.specs.Types.{plains, apply}
use Rattle.rw_types_solving.specs.Closing.{sort_of}
use Rattle.rw_types_rules.specs.Typings.{leftover}
use Rattle.rw_types_shared.proofs.Sharing.{head_over, extends_on, below_next, types_next}
use Rattle.rw_types_shared.proofs.share.+sharing.Goals as goal

pub share-returns-in_ok-number-in-App-clause-is : goal.share-returns-in_ok-number-in-App-clause-is
share-returns-in_ok-number-in-App-clause-is t c =
    let e = c.in_ok-number-in-App.ensures in let parts = c.in_ok-parts-in-App.ensures in
    head_over (leftover (sort_of c.args.sorts.now)) _ _ c.in_ok-number-in-App.number c.in-App.head c.in_ok-parts-in-App.parts.items c.args.term.now c.in-App.parts c.in-App.is
    parts.proper e.proper e.kept parts.within e.at (parts.are ∙ ap (λ (z : List Term). map (apply (leftover (sort_of c.args.sorts.now))) (plains z)) c.as_slice.ensures)

pub share_all-loop-term-preserved : goal.share_all-loop-term-preserved
share_all-loop-term-preserved t c =
    let so_far = c.loop-term.invariant in let e = c.in_ok-number.ensures in let more = c.in_ok-push.ensures.items in
    record {
      proper = e.proper;
      kept = extends_on _ _ _ so_far.kept e.kept;
      within = below_next _ _ c.loop-term.all.items _ c.in_ok-number.number e.kept so_far.within e.within more;
      are = types_next (leftover (sort_of c.args.sorts.now)) c.loop-term.types _ c.loop-term.all.items _ c.in_ok-number.number c.args.terms.now c.loop-term.term-index c.term-item.result
          c.loop-term-test.true c.term-item.is so_far.proper e.kept so_far.within e.is more so_far.are;
    }
