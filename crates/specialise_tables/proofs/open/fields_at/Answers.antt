-- The fields of one constructor more.
use Rattle.std.proofs.Common.{List, [], ◌∷◌, ◌++◌, map, take, length, ap, sym, ◌∙◌, subst}
use Rattle.std.proofs.lemmas.List.{map_more}
use Rattle.rw_types_solving.specs.Types.{Ty, plains, apply}
use Rattle.rw_types_rules.specs.WellTyped.{given}
use Rattle.rw_types_shared.specs.Shared.{type_at, AreBelow}
use Rattle.rw_types_shared.proofs.Sharing.{extends_on}
use Rattle.specialise_types.proofs.Closed.{arguments_kept, still_below}
use Rattle.specialise_tables.proofs.Opened.{below_both, fields_next}
use Rattle.specialise_tables.proofs.open.fields_at.Goals as goal

pub field_types-requires-clause-arguments : goal.field_types-requires-clause-arguments
field_types-requires-clause-arguments c = still_below c.args.types.now c.loop-fields.types c.args.arguments.now c.loop-fields.invariant.kept c.requires.arguments

pub loop-fields-preserved : goal.loop-fields-preserved
loop-fields-preserved c =
    let so_far = c.loop-fields.invariant in let e = c.in_ok-made.ensures in let more = c.in_ok-extend_from_slice.ensures.items in let old = c.args.types.now in let now = c.loop-fields.types in let new = c.field_types.new.types in
    let ks = c.args.arguments.now in let all = c.loop-fields.all.items in let made = c.as_slice.result.now in let item = c.fields-item.result in
    record {
      proper = e.proper;
      kept = extends_on _ _ _ so_far.kept e.kept;
      within = subst (AreBelow (length new)) (sym more)
          (below_both (length new) all made (still_below now new all e.kept so_far.within) (subst (AreBelow (length new)) (sym c.as_slice.ensures.value) e.within));
      are = fields_next (apply (given (map (type_at old) ks))) now new all made _ (map (λ fields. plains fields.now) (take c.loop-fields.fields-index c.args.constructors.now)) _ (plains item.now)
          so_far.proper e.kept so_far.within more so_far.are
          (ap (map (type_at new)) c.as_slice.ensures.value ∙ e.are
          ∙ ap (λ (z : List Ty). map (apply (given z)) (plains item.now)) (sym (arguments_kept old now ks c.requires.proper so_far.kept c.requires.arguments)))
          (map_more (λ fields. plains fields.now) c.args.constructors.now c.loop-fields.fields-index item c.loop-fields-test.true
          ∙ ap (λ z. map (λ fields. plains fields.now) (take c.loop-fields.fields-index c.args.constructors.now) ++ plains z.now ∷ []) (sym c.fields-item.is));
    }
