-- Of whole programs: their rows stand at the types of their trees, so what covers matches all values of these types.
use Rattle.std.proofs.Common.{ℕ, List, [], ◌∷◌, flat_map, map}
use Rattle.std.specs.List.{AllByRecursion}
use Rattle.rw_tree.specs.Declarations.{Declaration}
use Rattle.rw_types_solving.specs.Types.{Ty}
use Rattle.rw_types_rules.specs.Schemes.{World}
use Rattle.rw_types_rules.specs.TypedTrees.{TypedNode, erased}
use Rattle.rw_types_rules.specs.WellTyped.{DeclarationAgrees}
use Rattle.rw_cover.specs.declared.known.Known.{Known}
use Rattle.rw_cover.specs.Rows.{counts_of, known_of}
use Rattle.rw_cover.specs.Coverage.{Group, declaration_groups, groups_of}
use Rattle.rw_cover.specs.Correct.{AllHaveTypes, IsCovered}
use Rattle.rw_cover_laws.specs.Shapes.{IsWorld}
use Rattle.rw_cover_laws.specs.Columns.{StandAt, AllMatch, HaveInstances, declaration_columns, world_in, untyped, columns_of}
use Rattle.rw_cover_laws.proofs.Columns.{stand_behind, declaration_stands}
use Rattle.rw_cover_laws.proofs.Worlds.{typed_world_is}

declarations_stand : (world : World) (counts : List ℕ) → IsWorld world counts → (known : Known) (typed : List (Declaration TypedNode)) → AllByRecursion (DeclarationAgrees world) typed
    → StandAt world (flat_map (declaration_groups counts known) (map erased typed)) (flat_map declaration_columns typed)
declarations_stand world counts is known [] h = tt
declarations_stand world counts is known (d ∷ ds) h =
    stand_behind world (declaration_groups counts known (erased d)) (flat_map (declaration_groups counts known) (map erased ds)) (declaration_columns d) (flat_map declaration_columns ds)
    (declaration_stands world counts is known d h.0) (declarations_stand world counts is known ds h.1)

pub program_stands : (typed : List (Declaration TypedNode)) → AllByRecursion (DeclarationAgrees (world_in typed)) typed → StandAt (world_in typed) (groups_of (untyped typed)) (columns_of typed)
program_stands typed h = declarations_stand (world_in typed) (counts_of (map erased typed)) (typed_world_is typed) (known_of (map erased typed)) typed h

pub all_match : (world : World) (groups : List Group) (types : List (List Ty)) → StandAt world groups types → AllByRecursion IsCovered groups → AllMatch world groups types
all_match world [] [] h k = tt
all_match world [] (ts ∷ rest) h k = absurd h
all_match world (g ∷ gs) [] h k = absurd h
all_match world (g ∷ gs) (ts ∷ rest) h k =
    ((λ variables unknowns columns have. k.0 columns (h.0 variables unknowns columns have)), all_match world gs rest h.1 k.1)

pub have_types : (world : World) (groups : List Group) (types : List (List Ty)) → StandAt world groups types → HaveInstances world types → AllHaveTypes groups
have_types world [] [] h i = tt
have_types world [] (ts ∷ rest) h i = absurd h
have_types world (g ∷ gs) [] h i = absurd h
have_types world (g ∷ gs) (ts ∷ rest) h i = ((i.0.2, h.0 i.0.0 i.0.1 i.0.2 i.0.3), have_types world gs rest h.1 i.1)
