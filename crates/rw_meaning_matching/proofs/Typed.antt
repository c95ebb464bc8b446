-- Typed patterns fit the shapes of their types exactly.
use Rattle.std.proofs.Common.{◌≡◌, refl, sym, ap, subst, ◌∙◌, ℕ, ◌<◌, List, [], ◌∷◌, ◌++◌, map, get_or, slice_get, Option, Some, None}
use Rattle.std.specs.List.{AllByRecursion}
use Rattle.rw_scope_rules.specs.declared.binding.Binding.{Binding}
use Rattle.rw_scope_rules.specs.declared.binding.Binding.TheVariants.{Declared, Operation as Operates, Constructor as Constructs, Local}
use Rattle.rw_scope_rules.specs.declared.binding.Bound.{Bound}
use Rattle.rw_tree.specs.Patterns.{Pattern, wildcard, variable_pattern, constructor_pattern, tuple_pattern, Patterns, no_patterns, more_patterns}
use Rattle.rw_types_solving.specs.Types.{Ty, apply}
use Rattle.rw_types_rules.specs.Words.{functions, tuple_type, data_type}
use Rattle.rw_types_rules.specs.Relabelled.{relabelled_parts}
use Rattle.rw_types_rules.specs.Schemes.{Scheme, World, scheme_at}
use Rattle.rw_types_rules.specs.TypedTrees.{TypedNode, pattern_type, parts_types, row_types}
use Rattle.rw_types_rules.specs.WellTyped.{given, IsMatched, PatternAgrees, PartsAgree, RowAgrees}
use Rattle.rw_cover_matrix.specs.Values.{Shape, opaque, data_of, Shapes, no_shapes, more_shapes, one_choice, more_choices, choices_count, fields_of}
use Rattle.rw_cover_laws.specs.Shapes.{fields_in, HasShape, HaveShapes, HaveChoices, IsWorld}
use Rattle.rw_cover_laws.specs.Columns.{arguments_of}
use Rattle.rw_cover_laws.proofs.Stands.{listed-tys, applied_data, choice_at, slice_get-map}
use Rattle.rw_meaning_matching.specs.Exact.{IsConstructorAt, MayNameConstructor, NamesConstructors, PartsNameConstructors, IsExactly, AreExactly, IsExactRow, erased_pattern, erased_row}

-- what `IsExactly` says of a constructor's pattern, and of a tuple's
abbrev BuiltExactly : Option Binding → Patterns Bound → Shape → Type 0
BuiltExactly bound parts opaque = ⊥
BuiltExactly bound parts (data_of choices) = IsConstructorAt bound (λ place. (place < choices_count choices) × AreExactly parts (fields_of place choices))

abbrev TupledExactly : Patterns Bound → Shape → Type 0
TupledExactly parts (data_of (one_choice columns)) = AreExactly parts columns
TupledExactly parts _ = ⊥

-- the first arguments of a function of these
pub arguments_first : (ts : List Ty) (to : Ty) → arguments_of (functions ts to) ≡ ts ++ arguments_of to
arguments_first [] to = refl
arguments_first (t ∷ ts) to = ap (λ (us : List Ty). t ∷ us) (arguments_first ts to)

module _ (world : World) (counts : List ℕ) (is : IsWorld world counts) (variables unknowns : ℕ → Shape) where
  abbrev Has : Shape → Ty → Type 0
  Has = HasShape (fields_in world) variables unknowns

  abbrev Have : Shapes → List Ty → Type 0
  Have = HaveShapes (fields_in world) variables unknowns

  -- a shape is one of data, of which a constructor's fields have these types
  abbrev pub FieldsHave : Option Binding → List Ty → Shape → Type 0
  FieldsHave bound types opaque = ⊥
  FieldsHave bound types (data_of choices) = IsConstructorAt bound (λ place. (place < choices_count choices) × Have (fields_of place choices) types)

  -- the shapes of the fields of a constructor at its data type, which has shapes of data alone
  fields_at : (n place : ℕ) (s : Scheme) (arguments types : List Ty) → slice_get (get_or world.constructed n []) place ≡ Some s → types ≡ map (apply (given arguments)) s.takes → (shape : Shape) → Has shape (data_type n arguments)
      → FieldsHave (Some (Constructs n place)) types shape
  fields_at n place s arguments types found are opaque h =
      let there : slice_get (fields_in world n) place ≡ Some s.takes = slice_get-map (λ (x : Scheme). x.takes) (get_or world.constructed n []) place s found in
      let empty : List (List Ty) = [] in
      let none : slice_get empty place ≡ Some s.takes = subst (λ (all : List (List Ty)). slice_get all place ≡ Some s.takes) h there in
      absurd (cc)
  fields_at n place s arguments types found are (data_of choices) h =
      let have = subst (λ (ts : List Ty). HaveChoices (fields_in world) variables unknowns choices ts (fields_in world n)) (listed-tys arguments) h in
      let here = choice_at (fields_in world) variables unknowns choices arguments (fields_in world n) place s.takes have (slice_get-map (λ (x : Scheme). x.takes) (get_or world.constructed n []) place s found) in
      (here.0, subst (λ (ts : List Ty). Have (fields_of place choices) ts) (sym are) here.1)

  matched_fields : (n place : ℕ) (found : Option Scheme) (arguments types : List Ty) (type : Ty) → slice_get (get_or world.constructed n []) place ≡ found → IsMatched found arguments types type → (shape : Shape) → Has shape type
      → FieldsHave (Some (Constructs n place)) types shape
  matched_fields n place None arguments types type found h shape s = absurd h
  matched_fields n place (Some scheme) arguments types type found h shape s =
      fields_at n place scheme arguments types found h.1 shape
      (subst (λ (t : Ty). Has shape t) (h.2 ∙ ap (apply (given arguments)) (is.gives n place scheme found) ∙ applied_data n scheme.kinds arguments h.0) s)

  pub built_fields : (bound : Option Binding) (arguments types : List Ty) (type : Ty) → IsMatched (scheme_at world bound) arguments types type → MayNameConstructor bound → (shape : Shape) → Has shape type → FieldsHave bound types shape
  built_fields None arguments types type h names shape s = absurd h
  built_fields (Some (Declared n)) arguments types type h names shape s = absurd names
  built_fields (Some (Operates o)) arguments types type h names shape s = absurd names
  built_fields (Some (Local k)) arguments types type h names shape s = absurd h
  built_fields (Some (Constructs n place)) arguments types type h names shape s = matched_fields n place (slice_get (get_or world.constructed n []) place) arguments types type refl h shape s

  built_exact : (bound : Option Binding) (types : List Ty) (parts : Patterns Bound) (shape : Shape) → FieldsHave bound types shape → ((columns : Shapes) → Have columns types → AreExactly parts columns) → BuiltExactly bound parts shape
  built_exact bound types parts opaque h fit = absurd h
  built_exact None types parts (data_of choices) h fit = absurd h
  built_exact (Some (Declared n)) types parts (data_of choices) h fit = absurd h
  built_exact (Some (Operates o)) types parts (data_of choices) h fit = absurd h
  built_exact (Some (Local k)) types parts (data_of choices) h fit = absurd h
  built_exact (Some (Constructs n place)) types parts (data_of choices) h fit = (h.0, fit (fields_of place choices) h.1)

  -- the one constructor of a tuple
  tuple_exact : (types : List Ty) (parts : Patterns Bound) → ((columns : Shapes) → Have columns types → AreExactly parts columns) → (shape : Shape) → Has shape (tuple_type types) → TupledExactly parts shape
  tuple_exact types parts fit opaque h = absurd h
  tuple_exact types parts fit (data_of (one_choice columns)) h = fit columns (subst (λ (ts : List Ty). Have columns ts) (listed-tys types) h)
  tuple_exact types parts fit (data_of (more_choices columns others)) h = absurd h

  mutual
    pub pattern_exact : (p : Pattern TypedNode) → PatternAgrees world p → NamesConstructors (erased_pattern p) → (shape : Shape) → Has shape (pattern_type p) → IsExactly (erased_pattern p) shape
    pattern_exact (wildcard a) h names shape s = tt
    pattern_exact (variable_pattern a x) h names shape s = tt
    pattern_exact (constructor_pattern a c parts) h names opaque s =
        built_exact a.node.bound (parts_types parts) (relabelled_parts (λ (b : TypedNode). b.node) parts) opaque
        (built_fields a.node.bound a.arguments (parts_types parts) a.type h.0 names.0 opaque s) (λ columns have. parts_exact parts h.1 names.1 columns have)
    pattern_exact (constructor_pattern a c parts) h names (data_of choices) s =
        built_exact a.node.bound (parts_types parts) (relabelled_parts (λ (b : TypedNode). b.node) parts) (data_of choices)
        (built_fields a.node.bound a.arguments (parts_types parts) a.type h.0 names.0 (data_of choices) s) (λ columns have. parts_exact parts h.1 names.1 columns have)
    pattern_exact (tuple_pattern a parts) h names opaque s =
        tuple_exact (parts_types parts) (relabelled_parts (λ (b : TypedNode). b.node) parts) (λ columns have. parts_exact parts h.1 names columns have) opaque (subst (λ (t : Ty). Has opaque t) h.0 s)
    pattern_exact (tuple_pattern a parts) h names (data_of (one_choice fields)) s =
        tuple_exact (parts_types parts) (relabelled_parts (λ (b : TypedNode). b.node) parts) (λ columns have. parts_exact parts h.1 names columns have) (data_of (one_choice fields))
        (subst (λ (t : Ty). Has (data_of (one_choice fields)) t) h.0 s)
    pattern_exact (tuple_pattern a parts) h names (data_of (more_choices fields others)) s =
        tuple_exact (parts_types parts) (relabelled_parts (λ (b : TypedNode). b.node) parts) (λ columns have. parts_exact parts h.1 names columns have) (data_of (more_choices fields others))
        (subst (λ (t : Ty). Has (data_of (more_choices fields others)) t) h.0 s)

    parts_exact : (ps : Patterns TypedNode) → PartsAgree world ps → PartsNameConstructors (relabelled_parts (λ (b : TypedNode). b.node) ps) → (columns : Shapes) → Have columns (parts_types ps)
        → AreExactly (relabelled_parts (λ (b : TypedNode). b.node) ps) columns
    parts_exact no_patterns h names no_shapes have = tt
    parts_exact no_patterns h names (more_shapes shape columns) have = absurd have
    parts_exact (more_patterns p ps) h names no_shapes have = absurd have
    parts_exact (more_patterns p ps) h names (more_shapes shape columns) have = (pattern_exact p h.0 names.0 shape have.0, parts_exact ps h.1 names.1 columns have.1)

  -- the patterns of a row
  pub row_exact : (pats : List (Pattern TypedNode)) → RowAgrees world pats → AllByRecursion NamesConstructors (erased_row pats) → (columns : Shapes) → Have columns (row_types pats) → IsExactRow (erased_row pats) columns
  row_exact [] h names columns have = tt
  row_exact (p ∷ ps) h names no_shapes have = absurd have
  row_exact (p ∷ ps) h names (more_shapes shape columns) have = (pattern_exact p h.0 names.0 shape have.0, row_exact ps h.1 names.1 columns have.1)

  -- the patterns of a row that are those of the first of some columns
  pub first_exact : (pats : List (Pattern TypedNode)) (others : List Ty) → RowAgrees world pats → AllByRecursion NamesConstructors (erased_row pats) → (columns : Shapes) → Have columns (row_types pats ++ others)
      → IsExactRow (erased_row pats) columns
  first_exact [] others h names columns have = tt
  first_exact (p ∷ ps) others h names no_shapes have = absurd have
  first_exact (p ∷ ps) others h names (more_shapes shape columns) have = (pattern_exact p h.0 names.0 shape have.0, first_exact ps others h.1 names.1 columns have.1)
