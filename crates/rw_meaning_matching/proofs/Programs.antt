-- Of whole programs: some row takes each value where rows cover.
use Rattle.std.proofs.Common.{◌≡◌, refl, ap, subst, ◌∙◌, arith, ℕ, suc, List, [], ◌∷◌, ◌++◌, flat_map, map, length, Bool, true, false, ◌&&◌, ◌||◌, if◌then◌else◌}
use Rattle.std.specs.List.{AllByRecursion}
use Rattle.rw_base.specs.declared.place.Span.{Span}
use Rattle.rw_scope_rules.specs.declared.binding.Bound.{Bound}
use Rattle.rw_scope_rules.specs.Bindings.{bound_program}
use Rattle.rw_tree.specs.Patterns.{Pattern}
use Rattle.rw_tree.specs.Declarations.{Declaration, PlainProgram}
use Rattle.rw_types_solving.specs.Types.{Ty}
use Rattle.rw_types_rules.specs.Schemes.{World, world_of}
use Rattle.rw_types_rules.specs.TypedTrees.{TypedNode, erased}
use Rattle.rw_types_rules.specs.WellTyped.{DeclarationAgrees}
use Rattle.rw_cover_matrix.specs.Values.{Shapes, no_shapes, more_shapes, Values, no_values, more_values, AreValues}
use Rattle.rw_cover_matrix.specs.Matching.{PlainPattern, matches, row_matches}
use Rattle.rw_cover_matrix.specs.Coverage.{Covers, some_row_matches}
use Rattle.rw_cover_matrix.proofs.Rows.{some_values, some_values-are}
use Rattle.rw_cover.specs.declared.known.Known.{Known}
use Rattle.rw_cover.specs.Rows.{matrix_pattern, matrix_row, counts_of, known_of}
use Rattle.rw_cover.specs.Coverage.{Group, groups_of}
use Rattle.rw_cover.specs.Correct.{IsCovered}
use Rattle.rw_cover_laws.specs.Shapes.{IsWorld}
use Rattle.rw_cover_laws.specs.Columns.{AllMatch, declaration_columns, world_in, untyped, columns_of}
use Rattle.rw_cover_laws.specs.Typed.{IsSomeTyping, AreTyped, AreTypingsOf}
use Rattle.rw_cover_laws.proofs.Typable.{bound_world_is, typings_match}
use Rattle.rw_cover_laws.proofs.Programs.{all_match, program_stands}
use Rattle.rw_cover_laws.proofs.Worlds.{typed_world_is}
use Rattle.rw_meaning.specs.Results.{Thunks, how_many, nothing, and_then}
use Rattle.rw_meaning_matching.specs.Standing.{StandForEach, AreFirstValues}
use Rattle.rw_meaning_matching.specs.Exact.{IsExactRow}
use Rattle.rw_meaning_matching.specs.Rows.{PatternRow, declaration_rows, rows_of, FitExactly, RowNamesConstructors, AllNameConstructors, Unless, SomeTakes, TakeEach, AllTakeEach}
use Rattle.rw_meaning_matching.proofs.Matches.{row_goes}
use Rattle.rw_meaning_matching.proofs.Bound.{bound_names}
use Rattle.rw_meaning_matching.proofs.Same.{AreSame, counted_of, program_same}
use Rattle.rw_meaning_matching.proofs.Fitting.{fit_behind, declaration_fits}

declarations_fit : (world : World) (counts : List ℕ) → IsWorld world counts → (known : Known) (typed : List (Declaration TypedNode)) → AllByRecursion (DeclarationAgrees world) typed
    → FitExactly world (flat_map (declaration_rows known) (map erased typed)) (flat_map declaration_columns typed)
declarations_fit world counts is known [] h = tt
declarations_fit world counts is known (d ∷ ds) h =
    fit_behind world (declaration_rows known (erased d)) (flat_map (declaration_rows known) (map erased ds)) (declaration_columns d) (flat_map declaration_columns ds)
    (declaration_fits world counts is known d h.0) (declarations_fit world counts is known ds h.1)

pub program_fits : (typed : List (Declaration TypedNode)) → AllByRecursion (DeclarationAgrees (world_in typed)) typed → FitExactly (world_in typed) (rows_of (untyped typed)) (columns_of typed)
program_fits typed h = declarations_fit (world_in typed) (counts_of (map erased typed)) (typed_world_is typed) (known_of (map erased typed)) typed h

-- == Some row takes each value ==

-- values of the first columns, and some values of the others
abbrev filled : Values → Shapes → Values
filled no_values columns = some_values columns
filled (more_values v vs) no_shapes = no_values
filled (more_values v vs) (more_shapes shape columns) = more_values v (filled vs columns)

filled-are : (given : Values) (columns : Shapes) → AreFirstValues given columns → AreValues (filled given columns) columns
filled-are no_values columns are = some_values-are columns
filled-are (more_values v vs) no_shapes are = absurd are
filled-are (more_values v vs) (more_shapes shape columns) are = (are.0, filled-are vs columns are.1)

module _ (program : List (Declaration Bound)) (counts : List ℕ) where
  -- a row looks at no more values than it has patterns
  filled_matches : (pats : List (Pattern Bound)) (given : Values) (columns : Shapes) (ts : Thunks) → AreFirstValues given columns → StandForEach program ts given → length pats ≡ how_many ts
      → row_matches (matrix_row counts pats) (filled given columns) ≡ row_matches (matrix_row counts pats) given
  filled_matches [] given columns ts are stand same = refl
  filled_matches (p ∷ ps) no_values columns nothing are stand same = absurd (let e : suc (length ps) ≡ 0 = same in omega arith)
  filled_matches (p ∷ ps) no_values columns (and_then t ts) are stand same = absurd stand
  filled_matches (p ∷ ps) (more_values v vs) no_shapes ts are stand same = absurd are
  filled_matches (p ∷ ps) (more_values v vs) (more_shapes shape columns) nothing are stand same = absurd stand
  filled_matches (p ∷ ps) (more_values v vs) (more_shapes shape columns) (and_then t ts) are stand same =
      ap (λ (b : Bool). matches (matrix_pattern counts p) v && b)
      (filled_matches ps vs columns ts are.1 stand.1 (let e : suc (length ps) ≡ suc (how_many ts) = same in omega arith))

  module _ (columns : Shapes) (given : Values) (ts : Thunks) (are : AreFirstValues given columns) (stand : StandForEach program ts given) where
    unless_from : (b : Bool) (P : Type 0) → (b ≡ false → P) → Unless b P
    unless_from true P h = tt
    unless_from false P h = h refl

    second_holds : (b c : Bool) → (b || c) ≡ true → (b && true) ≡ false → c ≡ true
    second_holds true c h e = absurd (cc)
    second_holds false c h e = h

    -- where the first row doesn't count, or doesn't match, one of the others does
    others_match : (c : Bool) (row : List PlainPattern) (rest : List (List PlainPattern)) (all : Values) → some_row_matches ((if c then row ∷ [] else []) ++ rest) all ≡ true → (row_matches row all && c) ≡ false
        → some_row_matches rest all ≡ true
    others_match true row rest all h e = second_holds (row_matches row all) (some_row_matches rest all) h e
    others_match false row rest all h e = h

    some_takes : (rows : List PatternRow) → AllByRecursion (λ r. RowNamesConstructors r → IsExactRow r.patterns columns) rows → AllByRecursion RowNamesConstructors rows
        → AllByRecursion (λ r. length r.patterns ≡ how_many ts) rows → some_row_matches (flat_map (counted_of counts) rows) (filled given columns) ≡ true → SomeTakes program rows given ts
    some_takes [] fit names same h = absurd (cc)
    some_takes (r ∷ rows) fit names same h =
        let e = filled_matches r.patterns given columns ts are stand same.0 in
        let m = row_matches (matrix_row counts r.patterns) given in (
          m,
          row_goes program counts r.patterns columns given ts (fit.0 names.0) are same.0 stand,
          unless_from (m && r.counts) (SomeTakes program rows given ts)
              (λ no. some_takes rows fit.1 names.1 same.1
              (others_match r.counts (matrix_row counts r.patterns) (flat_map (counted_of counts) rows) (filled given columns) h (ap (λ (b : Bool). b && r.counts) e ∙ no))),
        )

  pub take_each : (columns : Shapes) (rows : List PatternRow) → AllByRecursion (λ r. RowNamesConstructors r → IsExactRow r.patterns columns) rows → AllByRecursion RowNamesConstructors rows
      → Covers columns (flat_map (counted_of counts) rows) → TakeEach program columns rows
  take_each columns rows fit names covers = λ given ts are stand same. some_takes columns given ts are stand rows fit names same (covers (filled given columns) (filled-are given columns are))

  -- group by group
  pub all_take : (world : World) (groups : List Group) (rows : List (List PatternRow)) (types : List (List Ty)) → AreSame counts groups rows → FitExactly world rows types → AllNameConstructors rows → AllMatch world groups types
      → AllTakeEach program world rows types
  all_take world [] [] [] same fit names match = tt
  all_take world [] [] (ts ∷ rest) same fit names match = absurd fit
  all_take world [] (r ∷ rs) types same fit names match = absurd same
  all_take world (g ∷ gs) [] types same fit names match = absurd same
  all_take world (g ∷ gs) (r ∷ rs) [] same fit names match = absurd fit
  all_take world (g ∷ gs) (r ∷ rs) (ts ∷ rest) same fit names match = (
    (λ variables unknowns columns have. take_each columns r (fit.0 variables unknowns columns have) names.0 (subst (λ (rows : List (List PlainPattern)). Covers columns rows) same.0 (match.0 variables unknowns columns have))),
    all_take world gs rs rest same.1 fit.1 names.1 match.1,
  )

-- the rows of typed declarations
pub program_takes : (program : List (Declaration Bound)) (typed : List (Declaration TypedNode)) → AllByRecursion (DeclarationAgrees (world_in typed)) typed → AllNameConstructors (rows_of (untyped typed))
    → AllByRecursion IsCovered (groups_of (untyped typed)) → AllTakeEach program (world_in typed) (rows_of (untyped typed)) (columns_of typed)
program_takes program typed agrees names covered =
    all_take program (counts_of (map erased typed)) (world_in typed) (groups_of (untyped typed)) (rows_of (untyped typed)) (columns_of typed)
    (program_same (untyped typed)) (program_fits typed agrees) names (all_match (world_in typed) (groups_of (untyped typed)) (columns_of typed) (program_stands typed agrees) covered)

-- the rows of typings of a program's declarations
typings_fit : (world : World) (counts : List ℕ) → IsWorld world counts → (known : Known) (ds : List (Declaration Bound)) (typed : List (Declaration TypedNode)) → AreTyped (IsSomeTyping world) ds typed
    → FitExactly world (flat_map (declaration_rows known) ds) (flat_map declaration_columns typed)
typings_fit world counts is known [] [] h = tt
typings_fit world counts is known [] (t ∷ ts) h = absurd h
typings_fit world counts is known (d ∷ ds) [] h = absurd h
typings_fit world counts is known (d ∷ ds) (t ∷ ts) h =
    fit_behind world (declaration_rows known d) (flat_map (declaration_rows known) ds) (declaration_columns t) (flat_map declaration_columns ts)
    (subst (λ (e : Declaration Bound). FitExactly world (declaration_rows known e) (declaration_columns t)) h.0.2.erases (declaration_fits world counts is known t h.0.2.agrees))
    (typings_fit world counts is known ds ts h.1)

pub typings_take : (program : List (Declaration Bound)) (source : PlainProgram Span) (typed : List (Declaration TypedNode)) → AreTypingsOf source typed → AllByRecursion IsCovered (groups_of (bound_program source))
    → AllTakeEach program (world_of source.declarations) (rows_of (bound_program source)) (columns_of typed)
typings_take program source typed are covered =
    let ds : List (Declaration Bound) = (bound_program source).declarations in
    all_take program (counts_of ds) (world_of source.declarations) (groups_of (bound_program source)) (rows_of (bound_program source)) (columns_of typed)
    (program_same (bound_program source)) (typings_fit (world_of source.declarations) (counts_of ds) (bound_world_is source) (known_of ds) ds typed are) (bound_names source) (typings_match source typed are covered)
