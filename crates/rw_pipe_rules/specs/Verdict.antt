-- The verdict on a source by all rules, E01 to E25: the program that it is, with its types, instances and flat program, or the first rule that it breaks
-- and where. Each rule is read where those before it are kept.
use Rattle.std.specs.Prelude.{◌≡◌, ◌⊎◌, ◌≤◌, ℕ, List, [], slice_get, Option, Some, None, Ok, Err}
use Rattle.std.specs.List.{sum_by}
use Rattle.rw_base.specs.declared.place.Place.{Place}
use Rattle.rw_base.specs.declared.place.Span.{Span}
use Rattle.rw_base.specs.declared.rule.Rule.TheVariants.{E17, E18}
use Rattle.rw_tree.specs.Declarations.{Declaration, function_declaration, PlainProgram}
use Rattle.rw_scope_rules.specs.Bindings.{bound_program}
use Rattle.rw_core.specs.declared.types.DataTy.{DataTy}
use Rattle.rw_core.specs.Options.{◌>>=◌, each}
use Rattle.rw_meaning.specs.Systems.{Body}
use Rattle.rw_types_solving.specs.Types.{Ty}
use Rattle.rw_types_rules.specs.Schemes.{World, world_of}
use Rattle.rw_types_rules.specs.TypedTrees.{TypedNode}
use Rattle.rw_types.specs.Inferred.{AreDefault}
use Rattle.rw_core_flat.specs.Programs.{FlatProgram, device}
use Rattle.rw_guard_rules.specs.Rules.{nodes}
use Rattle.rw_guard_rules.specs.Verdict.{GuardsAs}
use Rattle.specialise_rules.specs.Instances.{Instance, declared_in}
use Rattle.specialise_rules.specs.Tables.{IsTableOf, fields_of, number_in}
use Rattle.specialise_rules.specs.Limits.{AreInstances, IsFirstTooMuch}
use Rattle.inline_ho_rules.specs.TypedPrograms.{IsFlatOf, kind_of, declared_place, first_declared, start_body}
use Rattle.inline_ho_rules.specs.OrderRules.{KeepsOrders, BreaksOrders, BreaksExpansion, most_flat_nodes}
use Rattle.rw_front.specs.Stages.{Stage, ◌then◌}
use Rattle.rw_front.specs.Verdict.{Verdict, reported}

-- == Types: the default typing ==

-- a program with the default typing of each declaration
pub record TypedProgram : Type 0 where
  pub program : PlainProgram Span
  pub typed : List (Declaration TypedNode)

abbrev pub world_in : PlainProgram Span → World
world_in program = world_of program.declarations

abbrev pub HasTypes : Stage (PlainProgram Span) TypedProgram
HasTypes program (Ok made) = (made.program ≡ program) × AreDefault (world_in program) (bound_program program).declarations made.typed
HasTypes program (Err refusal) = ⊥

-- == Instances: E17 ==

pub record InstancedProgram : Type 0 where
  pub program : PlainProgram Span
  pub typed : List (Declaration TypedNode)
  pub instances : List Instance

-- the place of an instance is that of its declaration
abbrev pub place_of_declared : Option (Declaration TypedNode) → Place
place_of_declared None = record { line = 0; column = 0 }
place_of_declared (Some d) = declared_place d

abbrev pub place_of_instance : List (Declaration TypedNode) → Instance → Place
place_of_instance typed i = place_of_declared (declared_in typed i)

abbrev pub HasInstances : Stage TypedProgram InstancedProgram
HasInstances given (Ok made) = (made.program ≡ given.program) × (made.typed ≡ given.typed) × AreInstances (world_in given.program) given.typed made.instances
HasInstances given (Err refusal) =
    (n : ℕ) × (i : Instance) × IsFirstTooMuch (world_in given.program) given.typed n i × (refusal ≡ reported given.program (record { rule = E17; place = place_of_instance given.typed i }))

-- == The flat program: E18 ==

-- what a source is: its tree, its types, its instances and its flat program
pub record JudgedProgram : Type 0 where
  pub program : PlainProgram Span
  pub typed : List (Declaration TypedNode)
  pub instances : List Instance
  pub flat : FlatProgram

-- a table of closed types as one of numbers
abbrev pub numbered_type : World → List Ty → Ty → Option DataTy
numbered_type world table t = do constructors ← each (each (number_in 0 table)) (fields_of world t); Some (record { constructors = constructors })

abbrev pub numbered_table : World → List Ty → Option (List DataTy)
numbered_table world table = each (numbered_type world table) table

abbrev pub type_of_declared : Declaration TypedNode → Option Ty
type_of_declared (function_declaration a x clauses) = Some a.type
type_of_declared _ = None

module _ (given : InstancedProgram) where
  abbrev pub world : World
  world = world_in given.program

  -- it is the flat program of these instances: its functions, which aren't too large together, its system, its table in numbers, and the types of what
  -- `start` is given and shows
  pub record IsFlat (flat : FlatProgram) : Type 0 where
    pub table : List Ty
    pub flattened : IsFlatOf world given.typed given.instances table flat.functions flat.system
    pub types : numbered_table world table ≡ Some flat.types
    pub small : sum_by (λ f. nodes f.body) flat.functions ≤ most_flat_nodes
    pub start : Declaration TypedNode
    pub first : first_declared given.typed given.instances ≡ Some start
    pub type : Ty
    pub typed : type_of_declared start ≡ Some type
    pub unit : ℕ
    pub ports : kind_of (number_in 0 table) type ≡ Some (device flat.input flat.output [], unit)

  -- each instance keeps the orders
  abbrev pub AllKeepOrders : Type 0
  AllKeepOrders = (n : ℕ) (i : Instance) → slice_get given.instances n ≡ Some i → KeepsOrders given.typed i

  -- the instance with this number is the first whose flat functions are too large together with those before it
  pub record Expands (n : ℕ) (i : Instance) : Type 0 where
    pub table : List Ty
    pub tabled : IsTableOf world given.typed given.instances table
    pub declared : Declaration TypedNode
    pub first : first_declared given.typed given.instances ≡ Some declared
    pub start : Body TypedNode
    pub body : start_body declared ≡ Some start
    pub much : BreaksExpansion world given.typed given.instances table start (declared_place declared) n i

  -- the instance with this number breaks E18: an order is too high there first; or all orders are kept, and it expands too far first
  abbrev pub BreaksFlattening : ℕ → Instance → Type 0
  BreaksFlattening n i = BreaksOrders given.typed given.instances n i ⊎ (AllKeepOrders × Expands n i)

abbrev pub Flattens : Stage InstancedProgram JudgedProgram
Flattens given (Ok made) =
    (made.program ≡ given.program) × (made.typed ≡ given.typed) × (made.instances ≡ given.instances) × AllKeepOrders given × IsFlat given made.flat
Flattens given (Err refusal) = (n : ℕ) × (i : Instance) × BreaksFlattening given n i × (refusal ≡ reported given.program (record { rule = E18; place = place_of_instance given.typed i }))

-- == Recursion, types and sizes of the flat program: E19 to E25 ==

abbrev pub IsGuardedAs : Stage JudgedProgram JudgedProgram
IsGuardedAs given (Ok same) = (same ≡ given) × GuardsAs given.flat None
IsGuardedAs given (Err refusal) = GuardsAs given.flat (Some refusal)

-- == The whole ==

-- which program a source is, or the first of the rules E01 to E25 that it breaks and where
abbrev pub WholeVerdict : Stage (List ℕ) JudgedProgram
WholeVerdict = Verdict then (HasTypes then (HasInstances then (Flattens then IsGuardedAs)))
