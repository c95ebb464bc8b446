-- The variables of typed patterns see values of the shapes of their types.
use Rattle.std.proofs.Common.{◌≡◌, refl, sym, subst, ℕ, List, [], ◌∷◌, ◌++◌, map, nat_eq, Bool, true, false, ◌&&◌, Option, Some, None}
use Rattle.std.proofs.lemmas.Bool.{eqb-true}
use Rattle.std.specs.List.{AllByRecursion}
use Rattle.rw_scope_rules.specs.Names.{Bytes}
use Rattle.rw_scope_rules.specs.Bindings.{pattern_variables, parts_variables, row_variables}
use Rattle.rw_scope_rules.specs.declared.binding.Binding.{Binding}
use Rattle.rw_scope_rules.specs.declared.binding.Binding.TheVariants.{Declared, Operation as Operates, Constructor as Constructs, Local}
use Rattle.rw_tree.specs.Patterns.{Pattern, wildcard, variable_pattern, constructor_pattern, tuple_pattern, Patterns, no_patterns, more_patterns}
use Rattle.rw_types_solving.specs.Types.{Ty}
use Rattle.rw_types_rules.specs.Relabelled.{relabelled_parts}
use Rattle.rw_types_rules.specs.Schemes.{World}
use Rattle.rw_types_rules.specs.TypedTrees.{TypedNode, pattern_type, parts_types, row_types}
use Rattle.rw_types_rules.specs.WellTyped.{PatternAgrees, PartsAgree, RowAgrees}
use Rattle.rw_cover_matrix.specs.Values.{Shape, opaque, data_of, Shapes, no_shapes, more_shapes, Choices, one_choice, more_choices, fields_of, Value, opaque_value, built, Values, no_values, more_values, IsValue, AreValues}
use Rattle.rw_cover_matrix.specs.Matching.{matches, parts_match, row_matches}
use Rattle.rw_cover.specs.Rows.{built_by, matrix_pattern, matrix_parts, matrix_row}
use Rattle.rw_cover_laws.specs.Shapes.{fields_in, HasShape, HaveShapes, IsWorld}
use Rattle.rw_cover_laws.proofs.Stands.{listed-tys}
use Rattle.rw_meaning_matching.specs.Standing.{AreFirstValues, values_joined}
use Rattle.rw_meaning_matching.specs.Exact.{NamesConstructors, PartsNameConstructors, erased_pattern, erased_row}
use Rattle.rw_meaning_matching.specs.Matching.{seen_by, seen_by_parts, seen_by_row}
use Rattle.rw_meaning_matching.proofs.Typed.{FieldsHave, built_fields}

-- the types of variables
abbrev pub types_of : List (Bytes × TypedNode) → List Ty
types_of vs = map (λ v. v.1.type) vs

abbrev shapes_joined : Shapes → Shapes → Shapes
shapes_joined no_shapes others = others
shapes_joined (more_shapes s ss) others = more_shapes s (shapes_joined ss others)

values_behind : (vs : Values) (ss : Shapes) (ws : Values) (others : Shapes) → AreValues vs ss → AreValues ws others → AreValues (values_joined vs ws) (shapes_joined ss others)
values_behind no_values no_shapes ws others h k = k
values_behind no_values (more_shapes s ss) ws others h k = absurd h
values_behind (more_values v vs) no_shapes ws others h k = absurd h
values_behind (more_values v vs) (more_shapes s ss) ws others h k = (h.0, values_behind vs ss ws others h.1 k)

both_hold : (a b : Bool) → (a && b) ≡ true → (a ≡ true) × (b ≡ true)
both_hold true b h = (refl, h)
both_hold false b h = absurd (cc)

module _ (world : World) (counted : List ℕ) (is_world : IsWorld world counted) (variables unknowns : ℕ → Shape) (counts : List ℕ) where
  abbrev Have : Shapes → List Ty → Type 0
  Have = HaveShapes (fields_in world) variables unknowns

  shapes_behind : (ss others : Shapes) (vs ws : List (Bytes × TypedNode)) → Have ss (types_of vs) → Have others (types_of ws) → Have (shapes_joined ss others) (types_of (vs ++ ws))
  shapes_behind no_shapes others [] ws h k = k
  shapes_behind no_shapes others (v ∷ vs) ws h k = absurd h
  shapes_behind (more_shapes s ss) others [] ws h k = absurd h
  shapes_behind (more_shapes s ss) others (v ∷ vs) ws h k = (h.0, shapes_behind ss others vs ws h.1 k)

  -- values of the shapes of the types of variables
  abbrev See : Values → List (Bytes × TypedNode) → Type 0
  See values vs = (seen : Shapes) × Have seen (types_of vs) × AreValues values seen

  see_both : (values others : Values) (vs ws : List (Bytes × TypedNode)) → See values vs → See others ws → See (values_joined values others) (vs ++ ws)
  see_both values others vs ws h k = (shapes_joined h.0 k.0, shapes_behind h.0 k.0 vs ws h.1 k.1, values_behind values h.0 others k.0 h.2 k.2)

  abbrev PartsSee : Patterns TypedNode → Type 0
  PartsSee parts = (columns : Shapes) → Have columns (parts_types parts) → (fields : Values) → AreValues fields columns → parts_match (matrix_parts counts (relabelled_parts (λ (b : TypedNode). b.node) parts)) fields ≡ true
      → See (seen_by_parts (relabelled_parts (λ (b : TypedNode). b.node) parts) fields) (parts_variables parts)

  -- a constructor that matches is the value's
  built_sees : (bound : Option Binding) (parts : Patterns TypedNode) (choices : Choices) (tag : ℕ) (fields : Values) → FieldsHave world counted is_world variables unknowns bound (parts_types parts) (data_of choices) → PartsSee parts
      → AreValues fields (fields_of tag choices) → matches (built_by counts bound (matrix_parts counts (relabelled_parts (λ (b : TypedNode). b.node) parts))) (built tag fields) ≡ true
      → See (seen_by_parts (relabelled_parts (λ (b : TypedNode). b.node) parts) fields) (parts_variables parts)
  built_sees None parts choices tag fields have see are match = absurd have
  built_sees (Some (Declared n)) parts choices tag fields have see are match = absurd have
  built_sees (Some (Operates o)) parts choices tag fields have see are match = absurd have
  built_sees (Some (Local k)) parts choices tag fields have see are match = absurd have
  built_sees (Some (Constructs n place)) parts choices tag fields have see are match =
      let here = both_hold (nat_eq place tag) (parts_match (matrix_parts counts (relabelled_parts (λ (b : TypedNode). b.node) parts)) fields) match in
      see (fields_of place choices) have.1 fields (subst (λ (z : ℕ). AreValues fields (fields_of z choices)) (sym (eqb-true place tag here.0)) are) here.1

  mutual
    pub pattern_sees : (p : Pattern TypedNode) → PatternAgrees world p → NamesConstructors (erased_pattern p) → (shape : Shape) → HasShape (fields_in world) variables unknowns shape (pattern_type p) → (v : Value) → IsValue v shape
        → matches (matrix_pattern counts (erased_pattern p)) v ≡ true → See (seen_by (erased_pattern p) v) (pattern_variables p)
    pattern_sees (wildcard a) h names shape s v is match = (no_shapes, tt, tt)
    pattern_sees (variable_pattern a x) h names shape s v is match = (more_shapes shape no_shapes, (s, tt), (is, tt))
    pattern_sees (constructor_pattern a c parts) h names opaque s v is match =
        absurd (built_fields world counted is_world variables unknowns a.node.bound a.arguments (parts_types parts) a.type h.0 names.0 opaque s)
    pattern_sees (constructor_pattern a c parts) h names (data_of choices) s opaque_value is match = absurd is
    pattern_sees (constructor_pattern a c parts) h names (data_of choices) s (built tag fields) is match =
        built_sees a.node.bound parts choices tag fields (built_fields world counted is_world variables unknowns a.node.bound a.arguments (parts_types parts) a.type h.0 names.0 (data_of choices) s)
        (λ columns have given are e. parts_see parts h.1 names.1 columns have given are e) is.1 match
    pattern_sees (tuple_pattern a parts) h names opaque s v is match = absurd (subst (λ (t : Ty). HasShape (fields_in world) variables unknowns opaque t) h.0 s)
    pattern_sees (tuple_pattern a parts) h names (data_of (more_choices fields others)) s v is match =
        absurd (subst (λ (t : Ty). HasShape (fields_in world) variables unknowns (data_of (more_choices fields others)) t) h.0 s)
    pattern_sees (tuple_pattern a parts) h names (data_of (one_choice columns)) s opaque_value is match = absurd is
    pattern_sees (tuple_pattern a parts) h names (data_of (one_choice columns)) s (built tag fields) is match =
        let have = subst (λ (ts : List Ty). Have columns ts) (listed-tys (parts_types parts)) (subst (λ (t : Ty). HasShape (fields_in world) variables unknowns (data_of (one_choice columns)) t) h.0 s) in
        let here = both_hold (nat_eq 0 tag) (parts_match (matrix_parts counts (relabelled_parts (λ (b : TypedNode). b.node) parts)) fields) match in
        parts_see parts h.1 names columns have fields is.1 here.1

    parts_see : (ps : Patterns TypedNode) → PartsAgree world ps → PartsNameConstructors (relabelled_parts (λ (b : TypedNode). b.node) ps) → (columns : Shapes) → Have columns (parts_types ps) → (fields : Values) → AreValues fields columns
        → parts_match (matrix_parts counts (relabelled_parts (λ (b : TypedNode). b.node) ps)) fields ≡ true → See (seen_by_parts (relabelled_parts (λ (b : TypedNode). b.node) ps) fields) (parts_variables ps)
    parts_see no_patterns h names columns have fields are match = (no_shapes, tt, tt)
    parts_see (more_patterns p ps) h names no_shapes have fields are match = absurd have
    parts_see (more_patterns p ps) h names (more_shapes shape columns) have no_values are match = absurd are
    parts_see (more_patterns p ps) h names (more_shapes shape columns) have (more_values v vs) are match =
        let here = both_hold (matches (matrix_pattern counts (erased_pattern p)) v) (parts_match (matrix_parts counts (relabelled_parts (λ (b : TypedNode). b.node) ps)) vs) match in
        see_both (seen_by (erased_pattern p) v) (seen_by_parts (relabelled_parts (λ (b : TypedNode). b.node) ps) vs) (pattern_variables p) (parts_variables ps)
        (pattern_sees p h.0 names.0 shape have.0 v are.0 here.0) (parts_see ps h.1 names.1 columns have.1 vs are.1 here.1)

  pub row_sees : (pats : List (Pattern TypedNode)) (others : List Ty) → RowAgrees world pats → AllByRecursion NamesConstructors (erased_row pats) → (columns : Shapes) → Have columns (row_types pats ++ others) → (given : Values)
      → AreFirstValues given columns → row_matches (matrix_row counts (erased_row pats)) given ≡ true → See (seen_by_row (erased_row pats) given) (row_variables pats)
  row_sees [] others h names columns have given are match = (no_shapes, tt, tt)
  row_sees (p ∷ ps) others h names no_shapes have given are match = absurd have
  row_sees (p ∷ ps) others h names (more_shapes shape columns) have no_values are match = absurd (cc)
  row_sees (p ∷ ps) others h names (more_shapes shape columns) have (more_values v vs) are match =
      let here = both_hold (matches (matrix_pattern counts (erased_pattern p)) v) (row_matches (matrix_row counts (erased_row ps)) vs) match in
      see_both (seen_by (erased_pattern p) v) (seen_by_row (erased_row ps) vs) (pattern_variables p) (row_variables ps)
      (pattern_sees p h.0 names.0 shape have.0 v are.0 here.0) (row_sees ps others h.1 names.1 columns have.1 vs are.1 here.1)
