-- The flat program of a typed program: exactly one.
use Rattle.std.specs.Prelude.{◌≡◌, ℕ, suc, ◌+◌, List, [], ◌∷◌, ◌++◌, map, length, nat_eq, Option, Some, None, if◌then◌else◌, codes}
use Rattle.std.specs.List.{flat_map}
use Rattle.rw_base.specs.declared.place.Place.{Place}
use Rattle.rw_scope_rules.specs.declared.binding.Bound.{Bound}
use Rattle.rw_tree.specs.Trees.{Expression, Alternatives, alternative_parts}
use Rattle.rw_tree.specs.Declarations.{Declaration, function_declaration}
use Rattle.rw_core.specs.Options.{◌>>=◌, each}
use Rattle.rw_core.specs.Systems.{System, leaf, side_by_side, fed_back}
use Rattle.rw_meaning.specs.Systems.{Body, body_of, system_of}
use Rattle.rw_types_solving.specs.declared.term.Head.TheVariants as h
use Rattle.rw_types_solving.specs.Types.{Ty, app, none, more}
use Rattle.rw_types_rules.specs.Schemes.{World}
use Rattle.rw_types_rules.specs.TypedTrees.{TypedNode, erased, expression_type}
use Rattle.rw_core_flat.specs.Terms.{FlatTerm, let_term, FlatLets}
use Rattle.rw_core_flat.specs.Programs.{FunctionKind, pure, state, device, FlatFunction}
use Rattle.specialise_rules.specs.Instances.{Instance, same_instance, declared_in}
use Rattle.specialise_rules.specs.Tables.{IsTableOf, number_in}
use Rattle.inline_ho_rules.specs.Orders.{is_low, parameters_of, result_of}
use Rattle.inline_ho_rules.specs.Meants.{Meants, no_meants, flats, first_meants, later_meants, declared_clauses}
use Rattle.inline_ho_rules.specs.TypedFlattening.{typed_binding, patterns_before, order_of, unplaced_names, IsTypedFlat, IsBody, IsPlaced}

-- == What a type says of a flat function ==

-- the states of a monad's layers, the outermost first
abbrev pub layers_of : Ty → List Ty
layers_of (app h.Layer (more (app h.StateT (more s none)) (more m none))) = s ∷ layers_of m
layers_of _ = []

module _ (number_of : Ty → Option ℕ) where
  abbrev pub state_kind : Ty → Ty → Option (FunctionKind × ℕ)
  state_kind monad made = do layers ← each number_of (layers_of monad); n ← number_of made; Some (state layers, n)

  -- what it computes, and the type of its value
  abbrev pub kind_of : Ty → Option (FunctionKind × ℕ)
  kind_of (app h.Comp (more (app h.Layer (more (app h.ReT (more i (more o none))) (more m none))) (more made none))) =
      do in_type ← number_of i; out_type ← number_of o; layers ← each number_of (layers_of m); n ← number_of made; Some (device in_type out_type layers, n)
  kind_of (app h.Comp (more monad (more made none))) = state_kind monad made
  kind_of t = do n ← number_of t; Some (pure, n)

  -- a flat function is of this type: of its parameters, of what it computes, and of its value
  abbrev pub IsOfType : Ty → FlatFunction → Type 0
  IsOfType t f = (each number_of (parameters_of t) ≡ Some f.params) × (kind_of (result_of t) ≡ Some (f.kind, f.result))

-- == Functions ==

-- what a flat function is for: an instance; or a part of the system that `start` is, with so many parameters
pub data Origin : Type 0 where
  whole : Instance → Origin
  part : ℕ → Expression TypedNode → Origin

-- the declaration that it is for, by its number
abbrev pub declaration_of : Origin → Option ℕ
declaration_of (whole j) = Some j.declaration
declaration_of (part n e) = None

abbrev pub numbers_of : List Origin → List (Option ℕ)
numbers_of os = map declaration_of os

-- the parts of a system, in the order of the source
abbrev pub parts_of : System (Expression TypedNode) (Expression TypedNode) → List Origin
parts_of (leaf e) = part 0 e ∷ []
parts_of (side_by_side d e) = parts_of d ++ parts_of e
parts_of (fed_back f g d) = part 1 f ∷ part 2 g ∷ parts_of d

-- what the functions of `start` are named by: its instance, which is the first, where it is one device by itself
abbrev pub named_first : System (Expression TypedNode) (Expression TypedNode) → List Instance → List Origin
named_first (leaf e) (i ∷ is) = whole i ∷ []
named_first s is = parts_of s

-- the system with the numbers of its parts, from this number on
abbrev pub numbered_system : ℕ → System (Expression TypedNode) (Expression TypedNode) → System ℕ ℕ
numbered_system n (leaf e) = leaf n
numbered_system n (side_by_side d e) = side_by_side (numbered_system n d) (numbered_system (n + length (parts_of d)) e)
numbered_system n (fed_back f g d) = fed_back n (suc n) (numbered_system (suc (suc n)) d)

-- the type of a declaration in an instance
abbrev pub declared_type : Declaration TypedNode → List Ty
declared_type (function_declaration a x clauses) = a.type ∷ []
declared_type _ = []

abbrev pub type_if : Option (Declaration TypedNode) → List Ty
type_if None = []
type_if (Some d) = declared_type d

-- an instance of a type of order at most 1 has a flat function
abbrev pub whole_if_low : Instance → List Ty → List Origin
whole_if_low i [] = []
whole_if_low i (t ∷ ts) = if is_low t then whole i ∷ [] else []

abbrev pub position : ℕ → List Origin → Instance → Option ℕ
position n [] i = None
position n (whole j ∷ others) i = if same_instance i j then Some n else position (suc n) others i
position n (part k e ∷ others) i = position (suc n) others i

-- the body of `start`, with what is bound after its `where`
abbrev pub start_body : Declaration TypedNode → Option (Body TypedNode)
start_body (function_declaration a x clauses) = body_of clauses
start_body _ = None

-- the clauses of an instance
abbrev pub clauses_in : Option (Declaration TypedNode) → Option (Alternatives TypedNode)
clauses_in x = do d ← x; declared_clauses d

-- a place of the prelude is that of `start`
abbrev pub place_or : Place → Place → Place
place_or start place = if nat_eq place.line 0 then start else place

module _ (world : World) (typed : List (Declaration TypedNode)) (instances : List Instance) (table : List Ty) where
  abbrev pub number_of : Ty → Option ℕ
  number_of t = number_in 0 table t

  module _ (start : Body TypedNode) (place : Place) where
    -- the functions in their order: those of the system in place of `start`, which is the first instance, and then those of the other instances
    abbrev pub others_of : List Instance → List Origin
    others_of [] = []
    others_of (i ∷ is) = flat_map (λ j. whole_if_low j (type_if (declared_in typed j))) is

    abbrev pub origins : List Origin
    origins = parts_of (system_of typed_binding start.expression) ++ others_of instances

    -- the same as they are named: where `start` is one device by itself, its function is that of its instance
    abbrev pub named_origins : List Origin
    named_origins = named_first (system_of typed_binding start.expression) instances ++ others_of instances

    abbrev pub function_of : ℕ → List Ty → Option ℕ
    function_of n arguments = position 0 named_origins (record { declaration = n; arguments = arguments })

    abbrev pub clauses_of : ℕ → List Ty → Option (Alternatives TypedNode)
    clauses_of n arguments = clauses_in (declared_in typed (record { declaration = n; arguments = arguments }))

    abbrev pub program : List (Declaration Bound)
    program = map erased typed

    -- the flat function of clauses: its parameters are the first flat variables; those without a pattern are further arguments
    abbrev pub IsOfClauses : Alternatives TypedNode → FlatFunction → Type 0
    IsOfClauses cs f =
        IsBody program function_of clauses_of number_of (length f.params) no_meants cs (first_meants (patterns_before cs) (flats 0 (length f.params)))
        (later_meants (patterns_before cs) (flats 0 (length f.params))) f.body

    -- the flat function of a part of `start`: it is read inside what is bound after the `where`
    pub record IsOfPart (parameters : ℕ) (e : Expression TypedNode) (f : FlatFunction) : Type 0 where
      pub counted : length f.params ≡ parameters
      pub next : ℕ
      pub inside : Meants TypedNode
      pub lets : FlatLets
      pub term : FlatTerm
      pub body : f.body ≡ let_term lets term
      pub placed : IsPlaced program function_of clauses_of number_of start.wheres (order_of start.wheres) parameters no_meants (unplaced_names start.wheres) lets next inside
      pub flattened : IsTypedFlat program function_of clauses_of number_of next inside e (flats 0 parameters) term

    -- the flat function of an instance or a part
    abbrev pub IsOfDeclaration : Option (Declaration TypedNode) → FlatFunction → Type 0
    IsOfDeclaration (Some (function_declaration a x clauses)) f =
        (f.name ≡ x) × (f.place ≡ place_or place a.node.span.first) × IsOfType number_of a.type f × IsOfClauses (alternative_parts clauses) f
    IsOfDeclaration _ f = ⊥

    abbrev pub IsOf : Origin → FlatFunction → Type 0
    IsOf (whole i) f = IsOfDeclaration (declared_in typed i) f
    IsOf (part n e) f = (f.name ≡ codes "start") × (f.place ≡ place) × IsOfType number_of (expression_type e) f × IsOfPart n e f

    abbrev pub AreOf : List Origin → List FlatFunction → Type 0
    AreOf [] [] = Unit {0}
    AreOf [] (f ∷ fs) = ⊥
    AreOf (o ∷ os) [] = ⊥
    AreOf (o ∷ os) (f ∷ fs) = IsOf o f × AreOf os fs

-- the place of a function
abbrev pub declared_place : Declaration TypedNode → Place
declared_place (function_declaration a x clauses) = a.node.span.first
declared_place _ = record { line = 0; column = 0 }

-- the declaration of the first of these instances
abbrev pub first_declared : List (Declaration TypedNode) → List Instance → Option (Declaration TypedNode)
first_declared typed [] = None
first_declared typed (i ∷ is) = declared_in typed i

-- the flat program of these instances of a typed program, the first of which is `start`: the closed data types, the functions, and the system over
-- their numbers
pub record IsFlatOf (world : World) (typed : List (Declaration TypedNode)) (instances : List Instance) (table : List Ty) (functions : List FlatFunction) (system : System ℕ ℕ) : Type 0 where
  pub tabled : IsTableOf world typed instances table
  pub declared : Declaration TypedNode
  pub first : first_declared typed instances ≡ Some declared
  pub start : Body TypedNode
  pub found : start_body declared ≡ Some start
  pub made : AreOf world typed instances table start (declared_place declared) (origins world typed instances table start (declared_place declared)) functions
  pub numbered : system ≡ numbered_system 0 (system_of typed_binding start.expression)
