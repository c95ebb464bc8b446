-- By the head of the type.
use Rattle.std.proofs.Common.{ℕ, List, [], map, get_or, length, ap, sym, ◌∙◌, subst}
use Rattle.std.specs.List.{flat_map}
use Rattle.rw_types_solving.specs.Types.{Ty, apply}
use Rattle.rw_types_rules.specs.WellTyped.{given}
use Rattle.rw_types_shared.specs.Shared.{shown, type_at, AreBelow}
use Rattle.rw_types_shared.proofs.Sharing.{extends_itself}
use Rattle.specialise_tables.specs.Fields.{seen_fields}
use Rattle.specialise_tables.proofs.Opened.{opened_data, opened_tuple, opened_other, parts_within}
use Rattle.specialise_tables.proofs.open.open.Goals as goal

pub fields_of-requires-clause-arguments : goal.fields_of-requires-clause-arguments
fields_of-requires-clause-arguments c =
    subst (AreBelow (length c.args.types.now)) (sym c.as_slice.ensures.value) (parts_within c.args.types.now c.args.number (shown c.in_ok-node.node) c.requires.proper c.requires.within c.in_ok-node.ensures)

pub returns-in_ok-parts-in-Data-clause-opened : goal.returns-in_ok-parts-in-Data-clause-opened
returns-in_ok-parts-in-Data-clause-opened c =
    let e = c.in_ok-parts-in-Data.ensures in let fields = seen_fields c.args.fields.now in
    opened_data fields c.args.types.now c.fields_of.new.types c.args.number c.in_ok-node.node.head c.in_ok-node.node.parts.items c.requires.proper e.kept c.requires.within (sym c.in_ok-node.ensures) c.in-Data.n
    c.in_ok-parts-in-Data.parts.items c.in-Data.is
    (e.are ∙ ap (λ (z : List ℕ). flat_map (λ (takes : List Ty). map (apply (given (map (type_at c.args.types.now) z))) takes) (get_or fields c.in-Data.n [])) c.as_slice.ensures.value)

pub returns-in-Tuple-clause-within : goal.returns-in-Tuple-clause-within
returns-in-Tuple-clause-within c = parts_within c.args.types.now c.args.number (shown c.in_ok-node.node) c.requires.proper c.requires.within c.in_ok-node.ensures

pub returns-in-Tuple-clause-opened : goal.returns-in-Tuple-clause-opened
returns-in-Tuple-clause-opened c =
    opened_tuple (seen_fields c.args.fields.now) c.args.types.now c.args.number c.in_ok-node.node.head c.in_ok-node.node.parts.items c.requires.proper (sym c.in_ok-node.ensures) c.in-Tuple.is

pub returns-in_default : goal.returns-in_default
returns-in_default c = record {
  proper = c.requires.proper;
  kept = extends_itself c.args.types.now;
  within = parts_within c.args.types.now c.args.number (shown c.in_ok-node.node) c.requires.proper c.requires.within c.in_ok-node.ensures;
  opened = opened_other (seen_fields c.args.fields.now) c.args.types.now c.args.number c.in_ok-node.node.head c.in_ok-node.node.parts.items c.requires.proper (sym c.in_ok-node.ensures)
      (λ n s. c.in_default.not-Data n s) (λ s. c.in_default.not-Tuple s);
}
