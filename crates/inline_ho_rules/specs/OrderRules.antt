-- Rule E18: no order is too high, and the flat functions together aren't too large.
use Rattle.std.specs.Prelude.{◌≡◌, ◌≤◌, ◌<◌, ◌⊎◌, ℕ, suc, List, [], ◌∷◌, ◌++◌, map, take, Bool, true, false, ◌&&◌, slice_get, Option, Some, None}
use Rattle.std.specs.List.{flat_map, list_all, sum_by, AllByRecursion}
use Rattle.rw_base.specs.declared.place.Place.{Place}
use Rattle.rw_scope_rules.specs.Nodes.{Node, expression_node, pattern_node, clause_node, group_node, binding_node, statement_node, pattern_nodes, side_nodes, group_nodes}
use Rattle.rw_tree.specs.Patterns.{Pattern, wildcard, variable_pattern}
use Rattle.rw_tree.specs.Trees.{Alternative, alternative, local_signature, local_function, local_pattern}
use Rattle.rw_tree.specs.Declarations.{Declaration, function_declaration}
use Rattle.rw_types_solving.specs.declared.term.Head.TheVariants as h
use Rattle.rw_types_solving.specs.Types.{Ty, Tys, var, app, none, more}
use Rattle.rw_types_rules.specs.Schemes.{World}
use Rattle.rw_types_rules.specs.TypedTrees.{TypedNode, expression_type, pattern_type}
use Rattle.rw_meaning.specs.Systems.{Body}
use Rattle.rw_core_flat.specs.Programs.{FlatFunction}
use Rattle.rw_guard_rules.specs.Rules.{nodes}
use Rattle.specialise_rules.specs.Instances.{Instance, is_among, declared_in, mentioned}
use Rattle.inline_ho_rules.specs.Orders.{is_data, are_data, is_low, order, parameters_of}
use Rattle.inline_ho_rules.specs.TypedPrograms.{type_if, origins, others_of, AreOf}

-- == Types ==

-- the arguments of data types and tuples are data; states, inputs, outputs and results of computations are data
abbrev pub is_data_layer : Ty → Bool
is_data_layer (app h.StateT ts) = are_data ts
is_data_layer (app h.ReT ts) = are_data ts
is_data_layer _ = false

abbrev pub is_data_monad : Ty → Bool
is_data_monad (app h.I none) = true
is_data_monad (app h.Layer (more layer (more m none))) = is_data_layer layer && is_data_monad m
is_data_monad _ = false

abbrev mutual
  pub is_proper : Ty → Bool
  is_proper (var x) = false
  is_proper (app (h.Data n) ts) = are_data ts
  is_proper (app h.Tuple ts) = are_data ts
  is_proper (app h.Comp (more m (more a none))) = is_data_monad m && is_data a
  is_proper (app h.Fun ts) = are_proper ts
  is_proper _ = false

  pub are_proper : Tys → Bool
  are_proper none = true
  are_proper (more t ts) = is_proper t && are_proper ts

-- a type that may stand at a node: its order is at most 2
abbrev pub MayStand : Ty → Type 0
MayStand t = (is_proper t ≡ true) × (order t ≤ 2)

-- == Nodes ==

-- a variable or `_` of a pattern is so
abbrev pub IfVariable : (Ty → Type 0) → Node TypedNode → Type 0
IfVariable P (pattern_node (wildcard a)) = P a.type
IfVariable P (pattern_node (variable_pattern a x)) = P a.type
IfVariable P _ = Unit {0}

-- a node behind the patterns of a clause: variables of patterns are data, and a local binding has an order of at most 1
abbrev pub NodeKeeps : Node TypedNode → Type 0
NodeKeeps (expression_node e) = MayStand (expression_type e)
NodeKeeps (pattern_node p) = MayStand (pattern_type p) × IfVariable (λ t. is_data t ≡ true) (pattern_node p)
NodeKeeps (clause_node (alternative a pats side wheres)) = MayStand a.type
NodeKeeps (group_node group) = Unit {0}
NodeKeeps (binding_node (local_signature a x type)) = Unit {0}
NodeKeeps (binding_node (local_function a x clauses)) = MayStand a.type × (is_low a.type ≡ true)
NodeKeeps (binding_node (local_pattern a bound)) = MayStand a.type
NodeKeeps (statement_node s) = Unit {0}

-- a clause of a declaration: a variable of its own patterns has an order of at most 1
abbrev pub ClauseKeeps : Alternative TypedNode → Type 0
ClauseKeeps (alternative a pats side wheres) =
    MayStand a.type × AllByRecursion (λ n. IfVariable (λ t. is_low t ≡ true) n) (flat_map pattern_nodes pats) × AllByRecursion NodeKeeps (side_nodes side ++ group_nodes wheres)

abbrev pub DeclarationKeeps : Option (Declaration TypedNode) → Type 0
DeclarationKeeps (Some (function_declaration a x clauses)) = MayStand a.type × AllByRecursion ClauseKeeps clauses
DeclarationKeeps _ = Unit {0}

module _ (typed : List (Declaration TypedNode)) where
  -- the first instance names the second, or names one that does so in turn
  pub data NamesInTurn : Instance → Instance → Type 0 where
    names_it : {i j : Instance} → is_among j (mentioned typed i) ≡ true → NamesInTurn i j
    names_on : {i j k : Instance} → is_among j (mentioned typed i) ≡ true → NamesInTurn j k → NamesInTurn i k

  -- an instance keeps the order part of the rule: at its nodes, and where it can reach itself it takes data alone
  pub record KeepsOrders (i : Instance) : Type 0 where
    pub nodes_keep : DeclarationKeeps (declared_in typed i)
    pub recursive : NamesInTurn i i → AllByRecursion (λ t. list_all is_data (parameters_of t) ≡ true) (type_if (declared_in typed i))

  -- the instance with this number, from 0, is the first that breaks it
  pub record BreaksOrders (instances : List Instance) (n : ℕ) (i : Instance) : Type 0 where
    pub listed : slice_get instances n ≡ Some i
    pub broken : KeepsOrders i → ⊥
    pub first : (m : ℕ) (j : Instance) → m < n → slice_get instances m ≡ Some j → KeepsOrders j

-- == Expansion ==

abbrev pub most_flat_nodes : ℕ
most_flat_nodes = 524288

module _ (world : World) (typed : List (Declaration TypedNode)) (instances : List Instance) (table : List Ty) (start : Body TypedNode) (place : Place) where
  -- flat functions of the instances up to the one with this number, from 0, which together have at most so many nodes
  abbrev pub ExpandsWithin : ℕ → Type 0
  ExpandsWithin n =
      (functions : List FlatFunction) × AreOf world typed instances table start place (origins world typed (take (suc n) instances) table start place) functions
      × (sum_by (λ f. nodes f.body) functions ≤ most_flat_nodes)

  -- the instance with this number is the first up to which there are none
  pub record BreaksExpansion (n : ℕ) (i : Instance) : Type 0 where
    pub listed : slice_get instances n ≡ Some i
    pub broken : ExpandsWithin n → ⊥
    pub first : (m : ℕ) → m < n → ExpandsWithin m
