-- Both halves are asked, the second where the first holds.
use Rattle.std.proofs.Common.{◌≡◌, ◌∙◌, flat_map, map, ap}
use Rattle.rw_tree.specs.Declarations.{plain_constructor}
use Rattle.rw_scope_rules.specs.Names.{Bytes, is_among}
use Rattle.rw_scope_rules.specs.Scope.{are_among, fields_of, type_constructors, type_variables}
use Rattle.rw_scope_names.proofs.Sets.{both_known, first_unknown, put_in_none}
use Rattle.rw_scope_names.proofs.bound.fields_are_bound.Goals as goal
use Rattle.rw_scope_names.proofs.bound.fields_are_bound.Goals.{then-field_constructors_are, else-field_constructors_are}

pub returns : goal.returns
returns c =
    let params : (x : Bytes) → is_among x c.put_all.new.set ≡ is_among x c.args.made.now.params
    = λ x. put_in_none x c.put_all.new.set c.new-params.result c.as_slice.result.now c.args.made.now.params c.new-params.ensures c.as_slice.ensures (c.in_ok-put_all.ensures x) in
    let first = flat_map type_constructors (fields_of (map plain_constructor c.args.made.now.constructors)) in
    let second = flat_map type_variables (fields_of (map plain_constructor c.args.made.now.constructors)) in
    elim c.if-field_constructors_are.branch [
      | then-field_constructors_are w ↦
          both_known first second c.args.types.now c.put_all.new.set c.args.made.now.params c.field_constructors_are.result w.field_variables_are.result c.if-field_constructors_are.result params
          (c.field_constructors_are.ensures ∙ ap (λ ks. are_among (flat_map type_constructors (fields_of (map plain_constructor ks))) c.args.types.now) c.as_slice-constructors.ensures)
          (w.field_variables_are.ensures ∙ ap (λ ks. are_among (flat_map type_variables (fields_of (map plain_constructor ks))) c.put_all.new.set) c.as_slice-constructors.ensures)
          w.if-field_constructors_are.true w.result-is
      | else-field_constructors_are w ↦
          first_unknown first second c.args.types.now c.args.made.now.params c.field_constructors_are.result c.if-field_constructors_are.result
          (c.field_constructors_are.ensures ∙ ap (λ ks. are_among (flat_map type_constructors (fields_of (map plain_constructor ks))) c.args.types.now) c.as_slice-constructors.ensures)
          w.if-field_constructors_are.false (w.result-is ∙ w.if-field_constructors_are.false)
    ]
