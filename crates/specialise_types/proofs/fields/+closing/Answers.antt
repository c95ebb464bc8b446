-- A head over its parts, and one type more.
use Rattle.std.proofs.Common.{List, map, ap, sym, ◌∙◌}
use Rattle.rw_types_solving.specs.declared.term.Term.{Term}
use Rattle.rw_types_solving.specs.Types.{Ty, plain, plains, apply}
use Rattle.rw_types_rules.specs.WellTyped.{given}
use Rattle.rw_types_shared.specs.Shared.{type_at}
use Rattle.rw_types_shared.proofs.Sharing.{head_over, extends_on, below_next, types_next}
use Rattle.specialise_types.proofs.Closed.{arguments_kept, still_below}
use Rattle.specialise_types.proofs.fields.+closing.Goals as goal

pub field_type-returns-in_ok-number-in-App-clause-is : goal.field_type-returns-in_ok-number-in-App-clause-is
field_type-returns-in_ok-number-in-App-clause-is t c =
    let e = c.in_ok-number-in-App.ensures in let parts = c.in_ok-parts-in-App.ensures in let s = given (map (type_at c.args.types.now) c.args.arguments.now) in
    head_over s _ _ c.in_ok-number-in-App.number c.in-App.head c.in_ok-parts-in-App.parts.items c.args.term.now c.in-App.parts c.in-App.is
    parts.proper e.proper e.kept parts.within e.at (parts.are ∙ ap (λ (z : List Term). map (apply s) (plains z)) c.as_slice.ensures)

pub field_types-loop-term-preserved : goal.field_types-loop-term-preserved
field_types-loop-term-preserved t c =
    let so_far = c.loop-term.invariant.so_far in let e = c.in_ok-number.ensures in let more = c.in_ok-push.ensures.items in let old = c.args.types.now in let ks = c.args.arguments.now in
    record {
      so_far = record {
        proper = e.proper;
        kept = extends_on _ _ _ so_far.kept e.kept;
        within = below_next _ _ c.loop-term.all.items _ c.in_ok-number.number e.kept so_far.within e.within more;
        are = types_next (given (map (type_at old) ks)) c.loop-term.types _ c.loop-term.all.items _ c.in_ok-number.number c.args.terms.now c.loop-term.term-index c.term-item.result
            c.loop-term-test.true c.term-item.is so_far.proper e.kept so_far.within
            (e.is ∙ sym (ap (λ (z : List Ty). apply (given z) (plain c.term-item.result)) (arguments_kept old c.loop-term.types ks c.requires.proper so_far.kept c.requires.arguments))) more so_far.are;
      };
      arguments = still_below c.loop-term.types _ ks e.kept c.loop-term.invariant.arguments;
    }
