-- The rows of a typable program whose data types are not recursive have types.
use Rattle.std.proofs.Common.{◌≡◌, inl, inr, refl, sym, ap, subst, ℕ, suc, List, [], ◌∷◌, ◌++◌, flat_map, length}
use Rattle.std.specs.List.{AllByRecursion}
use Rattle.rw_base.specs.declared.place.Span.{Span}
use Rattle.rw_scope_rules.specs.declared.binding.Bound.{Bound}
use Rattle.rw_scope_rules.specs.Bindings.{Tops, tops_of, bound_declarations, bound_program}
use Rattle.rw_scope_rules.specs.Kinds.{data_mentions, recursive_or_empty}
use Rattle.rw_tree.specs.Declarations.{Declaration, import_declaration, data_declaration, fixity_declaration, signature_declaration, function_declaration, PlainProgram}
use Rattle.rw_types_solving.specs.Types.{Ty}
use Rattle.rw_types_rules.specs.Schemes.{World, world_of}
use Rattle.rw_types_rules.specs.TypedTrees.{TypedNode}
use Rattle.rw_types_rules.specs.Typings.{IsTypable}
use Rattle.rw_cover_matrix.specs.Values.{Shape, opaque}
use Rattle.rw_cover.specs.declared.known.Known.{Known}
use Rattle.rw_cover.specs.Rows.{counts_of, known_of}
use Rattle.rw_cover.specs.Coverage.{declaration_groups, groups_of}
use Rattle.rw_cover.specs.Correct.{AllHaveTypes, IsCovered}
use Rattle.rw_cover_laws.specs.Shapes.{fields_in, HasShape, IsWorld}
use Rattle.rw_cover_laws.specs.Columns.{StandAt, AllMatch, HaveInstances, declaration_columns, columns_of}
use Rattle.rw_cover_laws.specs.Typed.{IsTypableProgram, IsSomeTyping, IsTypingOrDefault, AreTyped, AreTypingsOf, AreTypingsOrDefaultsOf}
use Rattle.rw_cover_laws.proofs.Worlds.{world_is}
use Rattle.rw_cover_laws.proofs.Columns.{stand_behind, declaration_stands}
use Rattle.rw_cover_laws.proofs.Programs.{all_match, have_types}
use Rattle.rw_cover_laws.proofs.Unfolding.{all_end}
use Rattle.rw_cover_laws.proofs.Shaped.{has_shape, have_shapes}

-- the rows of each declaration stand at some types
module _ (world : World) (counts : List ℕ) (is : IsWorld world counts) (known : Known) where
  one_stands : (d : Declaration Bound) → IsTypable world d → (types : List (List Ty)) × StandAt world (declaration_groups counts known d) types
  one_stands d typable = (
    declaration_columns typable.typed,
    subst (λ (e : Declaration Bound). StandAt world (declaration_groups counts known e) (declaration_columns typable.typed)) typable.typing.erases
        (declaration_stands world counts is known typable.typed typable.typing.agrees),
  )

  all_stand : (ds : List (Declaration Bound)) → AllByRecursion (IsTypable world) ds → (types : List (List Ty)) × StandAt world (flat_map (declaration_groups counts known) ds) types
  all_stand [] typable = ([], tt)
  all_stand (d ∷ ds) typable =
      let first = one_stands d typable.0 in
      let rest = all_stand ds typable.1 in (
        first.0 ++ rest.0,
        stand_behind world (declaration_groups counts known d) (flat_map (declaration_groups counts known) ds) first.0 rest.0 first.1 rest.1,
      )

-- each type has a shape
pub each_has_shape : (program : PlainProgram Span) → recursive_or_empty program ≡ [] → (variables unknowns : ℕ → Shape) (t : Ty)
    → (shape : Shape) × HasShape (fields_in (world_of program.declarations)) variables unknowns shape t
each_has_shape program founded variables unknowns t =
    has_shape (fields_in (world_of program.declarations)) variables unknowns (suc (suc (length (flat_map data_mentions program.declarations)))) (all_end program.declarations founded) t

instances : (program : PlainProgram Span) → recursive_or_empty program ≡ [] → (types : List (List Ty)) → HaveInstances (world_of program.declarations) types
instances program founded [] = tt
instances program founded (ts ∷ rest) =
    let columns = have_shapes (fields_in (world_of program.declarations)) (λ x. opaque) (λ k. opaque) (suc (suc (length (flat_map data_mentions program.declarations)))) (all_end program.declarations founded) ts in
    (((λ x. opaque), (λ k. opaque), columns.0, columns.1), instances program founded rest)

-- binding changes no data type
bound_counts : (tops : Tops) (n : ℕ) (ds : List (Declaration Span)) → counts_of (bound_declarations tops n ds) ≡ counts_of ds
bound_counts tops n [] = refl
bound_counts tops n (import_declaration a m ∷ ds) = ap (λ (ns : List ℕ). 0 ∷ ns) (bound_counts tops (suc n) ds)
bound_counts tops n (data_declaration a x params constructors ∷ ds) = ap (λ (ns : List ℕ). length constructors ∷ ns) (bound_counts tops (suc n) ds)
bound_counts tops n (fixity_declaration a side strength names ∷ ds) = ap (λ (ns : List ℕ). 0 ∷ ns) (bound_counts tops (suc n) ds)
bound_counts tops n (signature_declaration a names type ∷ ds) = ap (λ (ns : List ℕ). 0 ∷ ns) (bound_counts tops (suc n) ds)
bound_counts tops n (function_declaration a x clauses ∷ ds) = ap (λ (ns : List ℕ). 0 ∷ ns) (bound_counts tops (suc n) ds)

pub bound_world_is : (program : PlainProgram Span) → IsWorld (world_of program.declarations) (counts_of (bound_program program).declarations)
bound_world_is program = subst (IsWorld (world_of program.declarations)) (sym (bound_counts (tops_of program.declarations) 0 program.declarations)) (world_is program.declarations)

pub typable_types : (program : PlainProgram Span) → recursive_or_empty program ≡ [] → IsTypableProgram program → AllHaveTypes (groups_of (bound_program program))
typable_types program founded typable =
    let world : World = world_of program.declarations in
    let ds : List (Declaration Bound) = (bound_program program).declarations in
    let stand = all_stand world (counts_of ds) (bound_world_is program) (known_of ds) ds typable in
    have_types world (groups_of (bound_program program)) stand.0 stand.1 (instances program founded stand.0)

-- a declaration with a typing or a default typing is typable
is_typable : (world : World) (d : Declaration Bound) (typed : Declaration TypedNode) → IsTypingOrDefault world d typed → IsTypable world d
is_typable world d typed (inl t) = record { sorts = t.0; states = t.1; typed = typed; typing = t.2 }
is_typable world d typed (inr t) = record { sorts = t.sorts; states = t.states; typed = t.general; typing = t.typing }

are_typable : (world : World) (ds : List (Declaration Bound)) (typed : List (Declaration TypedNode)) → AreTyped (IsTypingOrDefault world) ds typed → AllByRecursion (IsTypable world) ds
are_typable world [] [] h = tt
are_typable world [] (t ∷ ts) h = absurd h
are_typable world (d ∷ ds) [] h = absurd h
are_typable world (d ∷ ds) (t ∷ ts) h = (is_typable world d t h.0, are_typable world ds ts h.1)

pub typed_is_typable : (program : PlainProgram Span) (typed : List (Declaration TypedNode)) → AreTypingsOrDefaultsOf program typed → IsTypableProgram program
typed_is_typable program typed are = are_typable (world_of program.declarations) (bound_program program).declarations typed are

-- the rows of given typings
module _ (world : World) (counts : List ℕ) (is : IsWorld world counts) (known : Known) where
  typings_stand : (ds : List (Declaration Bound)) (typed : List (Declaration TypedNode)) → AreTyped (IsSomeTyping world) ds typed → StandAt world (flat_map (declaration_groups counts known) ds) (flat_map declaration_columns typed)
  typings_stand [] [] h = tt
  typings_stand [] (t ∷ ts) h = absurd h
  typings_stand (d ∷ ds) [] h = absurd h
  typings_stand (d ∷ ds) (t ∷ ts) h =
      stand_behind world (declaration_groups counts known d) (flat_map (declaration_groups counts known) ds) (declaration_columns t) (flat_map declaration_columns ts)
      (subst (λ (e : Declaration Bound). StandAt world (declaration_groups counts known e) (declaration_columns t)) h.0.2.erases (declaration_stands world counts is known t h.0.2.agrees))
      (typings_stand ds ts h.1)

pub typings_match : (program : PlainProgram Span) (typed : List (Declaration TypedNode)) → AreTypingsOf program typed → AllByRecursion IsCovered (groups_of (bound_program program))
    → AllMatch (world_of program.declarations) (groups_of (bound_program program)) (columns_of typed)
typings_match program typed are covered =
    let ds : List (Declaration Bound) = (bound_program program).declarations in
    all_match (world_of program.declarations) (groups_of (bound_program program)) (columns_of typed)
    (typings_stand (world_of program.declarations) (counts_of ds) (bound_world_is program) (known_of ds) ds typed are) covered
