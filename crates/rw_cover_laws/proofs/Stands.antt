-- Typed patterns stand at the shapes of their types.
use Rattle.std.proofs.Common.{◌≡◌, ◌∙◌, refl, sym, ap, subst, arith, ℕ, zero, suc, ◌+◌, ◌<◌, List, [], ◌∷◌, ◌++◌, Bool, true, false, if◌then◌else◌, map, length, get_or, slice_get, Option, Some, None}
use Rattle.std.specs.List.{AllByRecursion}
use Rattle.rw_scope_rules.specs.declared.binding.Binding.{Binding}
use Rattle.rw_scope_rules.specs.declared.binding.Binding.TheVariants.{Declared, Operation as Operates, Constructor as Constructs, Local}
use Rattle.rw_tree.specs.Patterns.{Pattern, wildcard, variable_pattern, constructor_pattern, tuple_pattern, Patterns, no_patterns, more_patterns}
use Rattle.rw_tree.specs.Trees.{Alternative, alternative}
use Rattle.rw_cover.specs.declared.known.Known.{Known}
use Rattle.rw_types_solving.specs.declared.term.Head.TheVariants as h
use Rattle.rw_types_solving.specs.Types.{Ty, app, more, tys, apply, apply_in}
use Rattle.rw_types_rules.specs.declared.kind.VariableKind.{VariableKind}
use Rattle.rw_types_rules.specs.Words.{tuple_type, unit_type, data_type, variables_from}
use Rattle.rw_types_rules.specs.Relabelled.{relabelled_pattern, relabelled_parts, relabelled_row, relabelled_side, relabelled_alternative}
use Rattle.rw_types_rules.specs.Schemes.{Scheme, World, scheme_at}
use Rattle.rw_types_rules.specs.TypedTrees.{TypedNode, pattern_type, parts_types, row_types}
use Rattle.rw_types_rules.specs.WellTyped.{given, IsMatched, PatternAgrees, PartsAgree, RowAgrees}
use Rattle.rw_cover_matrix.specs.Values.{Shape, opaque, data_of, Shapes, no_shapes, more_shapes, Choices, one_choice, more_choices, choices_count, fields_of}
use Rattle.rw_cover_matrix.specs.Matching.{PlainPattern, PlainPatterns, constructed, IsOfShape, ArePartsOf, IsRowOf, AreRowsOf}
use Rattle.rw_cover.specs.Rows.{built_by, matrix_pattern, matrix_parts, matrix_row, is_total, counted_rows}
use Rattle.rw_cover_laws.specs.Shapes.{fields_in, listed, HasShape, HaveShapes, HaveChoices, IsWorld, HasRow}

pub listed-tys : (ts : List Ty) → listed (tys ts) ≡ ts
listed-tys [] = refl
listed-tys (t ∷ ts) = ap (λ (us : List Ty). t ∷ us) (listed-tys ts)

-- variables from a number on, each of which stands for an argument
given_from : (n : ℕ) (all : List Ty) (kinds : List VariableKind) (arguments : List Ty) → length arguments ≡ length kinds → ((k : ℕ) → given all (n + k) ≡ get_or arguments k unit_type)
    → apply_in (given all) (tys (variables_from n kinds)) ≡ tys arguments
given_from n all [] [] e f = refl
given_from n all [] (t ∷ ts) e f = absurd (let g : suc (length ts) ≡ 0 = e in omega arith)
given_from n all (k ∷ kinds) [] e f = absurd (let g : 0 ≡ suc (length kinds) = e in omega arith)
given_from n all (k ∷ kinds) (t ∷ ts) e f =
    let here : given all n ≡ t = ap (given all) (let z : n ≡ n + 0 = omega arith in z) ∙ f 0 in
    let rest : apply_in (given all) (tys (variables_from (suc n) kinds)) ≡ tys ts =
    given_from (suc n) all kinds ts (let g : suc (length ts) ≡ suc (length kinds) = e in omega arith)
    (λ j. ap (given all) (let z : suc n + j ≡ n + suc j = omega arith in z) ∙ f (suc j)) in
    ap (λ (u : Ty). more u (apply_in (given all) (tys (variables_from (suc n) kinds)))) here ∙ ap (more t) rest

-- a data type at its arguments
pub applied_data : (n : ℕ) (kinds : List VariableKind) (arguments : List Ty) → length arguments ≡ length kinds → apply (given arguments) (data_type n (variables_from 0 kinds)) ≡ data_type n arguments
applied_data n kinds arguments e = ap (app (h.Data n)) (given_from 0 arguments kinds arguments e (λ k. ap (given arguments) (let z : 0 + k ≡ k = omega arith in z)))

module _ (fields : ℕ → List (List Ty)) (variables unknowns : ℕ → Shape) where
  -- the shapes of the fields of one constructor
  choices_of : (choices : Choices) (arguments : List Ty) (all : List (List Ty)) → HaveChoices fields variables unknowns choices arguments all → length all ≡ choices_count choices
  choices_of (one_choice columns) arguments [] h = absurd h
  choices_of (one_choice columns) arguments (takes ∷ []) h = refl
  choices_of (one_choice columns) arguments (takes ∷ others ∷ rest) h = absurd h
  choices_of (more_choices columns others) arguments [] h = absurd h
  choices_of (more_choices columns others) arguments (takes ∷ rest) h = ap suc (choices_of others arguments rest h.1)

  pub choice_at : (choices : Choices) (arguments : List Ty) (all : List (List Ty)) (place : ℕ) (takes : List Ty) → HaveChoices fields variables unknowns choices arguments all → slice_get all place ≡ Some takes
      → (place < choices_count choices) × HaveShapes fields variables unknowns (fields_of place choices) (map (apply (given arguments)) takes)
  choice_at (one_choice columns) arguments [] place takes h e = absurd h
  choice_at (one_choice columns) arguments (first ∷ []) zero takes h e = (omega arith, subst (λ (ts : List Ty). HaveShapes fields variables unknowns columns (map (apply (given arguments)) ts)) (let f : first ≡ takes = cc in f) h)
  choice_at (one_choice columns) arguments (first ∷ []) (suc place) takes h e = absurd (cc)
  choice_at (one_choice columns) arguments (first ∷ second ∷ rest) place takes h e = absurd h
  choice_at (more_choices columns others) arguments [] place takes h e = absurd h
  choice_at (more_choices columns others) arguments (first ∷ rest) zero takes h e =
      (omega arith, subst (λ (ts : List Ty). HaveShapes fields variables unknowns columns (map (apply (given arguments)) ts)) (let f : first ≡ takes = cc in f) h.0)
  choice_at (more_choices columns others) arguments (first ∷ rest) (suc place) takes h e =
      let r = choice_at others arguments rest place takes h.1 e in
      let within = r.0 in
      (omega arith, r.1)

pub slice_get-map : {X Y : Type 0} (f : X → Y) (xs : List X) (i : ℕ) (x : X) → slice_get xs i ≡ Some x → slice_get (map f xs) i ≡ Some (f x)
slice_get-map f [] i x e = absurd (cc)
slice_get-map f (y ∷ ys) zero x e = ap (λ z. Some (f z)) (let g : y ≡ x = cc in g)
slice_get-map f (y ∷ ys) (suc i) x e = slice_get-map f ys i x e

length_map : {X Y : Type 0} (f : X → Y) (xs : List X) → length (map f xs) ≡ length xs
length_map f [] = refl
length_map f (x ∷ xs) = ap suc (length_map f xs)

module _ (world : World) (counts : List ℕ) (is : IsWorld world counts) (variables unknowns : ℕ → Shape) where
  abbrev Has : Shape → Ty → Type 0
  Has = HasShape (fields_in world) variables unknowns

  abbrev Have : Shapes → List Ty → Type 0
  Have = HaveShapes (fields_in world) variables unknowns

  -- a constructor at its data type
  at_data : (n place : ℕ) (s : Scheme) (arguments types : List Ty) (parts : PlainPatterns) → slice_get (get_or world.constructed n []) place ≡ Some s → types ≡ map (apply (given arguments)) s.takes
      → ((columns : Shapes) → Have columns types → ArePartsOf parts columns) → (shape : Shape) → Has shape (data_type n arguments) → IsOfShape (constructed place (get_or counts n 0) parts) shape
  at_data n place s arguments types parts found are stand opaque h =
      let there : slice_get (fields_in world n) place ≡ Some s.takes = slice_get-map (λ (x : Scheme). x.takes) (get_or world.constructed n []) place s found in
      let empty : List (List Ty) = [] in
      let none : slice_get empty place ≡ Some s.takes = subst (λ (all : List (List Ty)). slice_get all place ≡ Some s.takes) h there in
      absurd (cc)
  at_data n place s arguments types parts found are stand (data_of choices) h =
      let have = subst (λ (ts : List Ty). HaveChoices (fields_in world) variables unknowns choices ts (fields_in world n)) (listed-tys arguments) h in
      let takes : Scheme → List Ty = λ (x : Scheme). x.takes in
      let here = choice_at (fields_in world) variables unknowns choices arguments (fields_in world n) place s.takes have (slice_get-map (λ (x : Scheme). x.takes) (get_or world.constructed n []) place s found) in (
        is.counted n ∙ sym (length_map (λ (x : Scheme). x.takes) (get_or world.constructed n [])) ∙ choices_of (fields_in world) variables unknowns choices arguments (fields_in world n) have,
        here.0,
        stand (fields_of place choices) (subst (λ (ts : List Ty). Have (fields_of place choices) ts) (sym are) here.1),
      )

  matched : (n place : ℕ) (found : Option Scheme) (arguments types : List Ty) (type : Ty) (parts : PlainPatterns) → slice_get (get_or world.constructed n []) place ≡ found → IsMatched found arguments types type
      → ((columns : Shapes) → Have columns types → ArePartsOf parts columns) → (shape : Shape) → Has shape type → IsOfShape (constructed place (get_or counts n 0) parts) shape
  matched n place None arguments types type parts found h stand shape s = absurd h
  matched n place (Some scheme) arguments types type parts found h stand shape s =
      at_data n place scheme arguments types parts found h.1 stand shape
      (subst (λ (t : Ty). Has shape t) (h.2 ∙ ap (apply (given arguments)) (is.gives n place scheme found) ∙ applied_data n scheme.kinds arguments h.0) s)

  built_stands : (bound : Option Binding) (arguments types : List Ty) (type : Ty) (parts : PlainPatterns) → IsMatched (scheme_at world bound) arguments types type
      → ((columns : Shapes) → Have columns types → ArePartsOf parts columns) → (shape : Shape) → Has shape type → IsOfShape (built_by counts bound parts) shape
  built_stands None arguments types type parts h stand shape s = tt
  built_stands (Some (Declared n)) arguments types type parts h stand shape s = tt
  built_stands (Some (Operates o)) arguments types type parts h stand shape s = tt
  built_stands (Some (Local k)) arguments types type parts h stand shape s = tt
  built_stands (Some (Constructs n place)) arguments types type parts h stand shape s = matched n place (slice_get (get_or world.constructed n []) place) arguments types type parts refl h stand shape s

  -- the one constructor of a tuple
  tuple_stands : (types : List Ty) (parts : PlainPatterns) → ((columns : Shapes) → Have columns types → ArePartsOf parts columns) → (shape : Shape) → Has shape (tuple_type types) → IsOfShape (constructed 0 1 parts) shape
  tuple_stands types parts stand opaque h = absurd h
  tuple_stands types parts stand (data_of (one_choice columns)) h = (refl, omega arith, stand columns (subst (λ (ts : List Ty). Have columns ts) (listed-tys types) h))
  tuple_stands types parts stand (data_of (more_choices columns others)) h = absurd h

  mutual
    pub pattern_stands : (p : Pattern TypedNode) → PatternAgrees world p → (shape : Shape) → Has shape (pattern_type p) → IsOfShape (matrix_pattern counts (relabelled_pattern (λ (a : TypedNode). a.node) p)) shape
    pattern_stands (wildcard a) h shape s = tt
    pattern_stands (variable_pattern a x) h shape s = tt
    pattern_stands (constructor_pattern a c parts) h shape s =
        built_stands a.node.bound a.arguments (parts_types parts) a.type (matrix_parts counts (relabelled_parts (λ (a : TypedNode). a.node) parts)) h.0 (λ columns have. parts_stand parts h.1 columns have) shape s
    pattern_stands (tuple_pattern a parts) h shape s =
        tuple_stands (parts_types parts) (matrix_parts counts (relabelled_parts (λ (a : TypedNode). a.node) parts)) (λ columns have. parts_stand parts h.1 columns have) shape (subst (λ (t : Ty). Has shape t) h.0 s)

    parts_stand : (ps : Patterns TypedNode) → PartsAgree world ps → (columns : Shapes) → Have columns (parts_types ps) → ArePartsOf (matrix_parts counts (relabelled_parts (λ (a : TypedNode). a.node) ps)) columns
    parts_stand no_patterns h columns have = tt
    parts_stand (more_patterns p ps) h no_shapes have = absurd have
    parts_stand (more_patterns p ps) h (more_shapes shape columns) have = (pattern_stands p h.0 shape have.0, parts_stand ps h.1 columns have.1)

  -- the patterns of a row
  pub row_stands : (pats : List (Pattern TypedNode)) → RowAgrees world pats → (columns : Shapes) → Have columns (row_types pats) → IsRowOf (matrix_row counts (relabelled_row (λ (a : TypedNode). a.node) pats)) columns
  row_stands [] h columns have = tt
  row_stands (p ∷ ps) h no_shapes have = absurd have
  row_stands (p ∷ ps) h (more_shapes shape columns) have = (pattern_stands p h.0 shape have.0, row_stands ps h.1 columns have.1)

  rows_of_one : (b : Bool) (row : List PlainPattern) (rest : List (List PlainPattern)) (columns : Shapes) → IsRowOf row columns → AreRowsOf rest columns → AreRowsOf ((if b then row ∷ [] else []) ++ rest) columns
  rows_of_one true row rest columns h k = (h, k)
  rows_of_one false row rest columns h k = k

  -- the rows that count, of clauses whose patterns have the same types
  pub rows_stand : (known : Known) (clauses : List (Alternative TypedNode)) (types : List Ty) → AllByRecursion (HasRow world types) clauses → (columns : Shapes) → Have columns types
      → AreRowsOf (counted_rows counts known (map (relabelled_alternative (λ (a : TypedNode). a.node)) clauses)) columns
  rows_stand known [] types h columns have = tt
  rows_stand known (alternative a pats side wheres ∷ clauses) types h columns have =
      rows_of_one (is_total known (relabelled_side (λ (a : TypedNode). a.node) side)) (matrix_row counts (relabelled_row (λ (a : TypedNode). a.node) pats))
      (counted_rows counts known (map (relabelled_alternative (λ (a : TypedNode). a.node)) clauses)) columns
      (row_stands pats h.0.0 columns (subst (λ (ts : List Ty). Have columns ts) (sym h.0.1) have)) (rows_stand known clauses types h.1 columns have)
