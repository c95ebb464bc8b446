-- Types as matching sees them: the shapes of a type (Haskell 2010 Report, sections 3.17.2 and 4.2.1).
use Rattle.std.specs.Prelude.{◌≡◌, ℕ, List, [], ◌∷◌, map, length, get_or, slice_get, Some}
use Rattle.rw_types_solving.specs.declared.term.Head.TheVariants as h
use Rattle.rw_types_solving.specs.Types.{Ty, var, app, Tys, none, more, apply}
use Rattle.rw_types_rules.specs.Words.{data_type, variables_from}
use Rattle.rw_types_rules.specs.Schemes.{Scheme, World}
use Rattle.rw_types_rules.specs.TypedTrees.{TypedNode, row_types}
use Rattle.rw_types_rules.specs.WellTyped.{given, RowAgrees}
use Rattle.rw_tree.specs.Trees.{Alternative, alternative}
use Rattle.rw_cover_matrix.specs.Values.{Shape, opaque, data_of, Shapes, no_shapes, more_shapes, Choices, one_choice, more_choices}

-- the types of the fields of each constructor of a data type, by the number of its declaration, over the variables of its head
abbrev pub fields_in : World → ℕ → List (List Ty)
fields_in world n = map (λ s. s.takes) (get_or world.constructed n [])

abbrev pub listed : Tys → List Ty
listed none = []
listed (more t ts) = t ∷ listed ts

-- A closed instance of a type is given by what its variables and its unknown types stand for. Of these only the shapes matter here.
-- A data type has its constructors, each with its fields' types, where the arguments stand for the variables of its head; a tuple has one.
-- Of a function or a computation nothing can be matched, nor of a monad or a layer, which no value is of. Nor of a data type without
-- constructors: in a program that keeps E11 that is a number which no declaration has, as a typing may choose for what it leaves open
module _ (fields : ℕ → List (List Ty)) (variables unknowns : ℕ → Shape) where
  abbrev mutual
    pub HasShape : Shape → Ty → Type 0
    HasShape shape (var x) = shape ≡ variables x
    HasShape shape (app (h.Unknown k) parts) = shape ≡ unknowns k
    HasShape opaque (app h.Tuple parts) = ⊥
    HasShape opaque (app (h.Data n) parts) = fields n ≡ []
    HasShape opaque _ = Unit {0}
    HasShape (data_of choices) (app (h.Data n) parts) = HaveChoices choices (listed parts) (fields n)
    HasShape (data_of (one_choice columns)) (app h.Tuple parts) = HaveShapes columns (listed parts)
    HasShape _ _ = ⊥

    pub HaveShapes : Shapes → List Ty → Type 0
    HaveShapes no_shapes [] = Unit {0}
    HaveShapes (more_shapes shape columns) (t ∷ ts) = HasShape shape t × HaveShapes columns ts
    HaveShapes _ _ = ⊥

    pub HaveChoices : Choices → List Ty → List (List Ty) → Type 0
    HaveChoices (one_choice columns) arguments (takes ∷ []) = HaveShapes columns (map (apply (given arguments)) takes)
    HaveChoices (more_choices columns others) arguments (takes ∷ rest) = HaveShapes columns (map (apply (given arguments)) takes) × HaveChoices others arguments rest
    HaveChoices _ _ _ = ⊥

-- what is said of a program's data types in two places: each constructor gives its data type, at the variables of its head, and the numbers of constructors agree
pub record IsWorld (world : World) (counts : List ℕ) : Type 0 where
  pub gives : (n place : ℕ) (s : Scheme) → slice_get (get_or world.constructed n []) place ≡ Some s → s.gives ≡ data_type n (variables_from 0 s.kinds)
  pub counted : (n : ℕ) → get_or counts n 0 ≡ length (get_or world.constructed n [])

-- a clause or an alternative whose patterns agree and have these types
abbrev pub HasRow : World → List Ty → Alternative TypedNode → Type 0
HasRow world types (alternative a pats side wheres) = RowAgrees world pats × (row_types pats ≡ types)
