-- Tables of closed data types: each once, behind the types of its fields, in order of first sight.
use Rattle.std.specs.Prelude.{◌≡◌, ℕ, suc, List, [], ◌∷◌, ◌++◌, map, true, false, get_or, Option, Some, None, if◌then◌else◌}
use Rattle.std.specs.List.{flat_map, list_any}
use Rattle.rw_tree.specs.Declarations.{Declaration, function_declaration}
use Rattle.rw_tree.specs.Trees.{alternative, local_signature, local_function, local_pattern}
use Rattle.rw_scope_rules.specs.Nodes.{Node, expression_node, pattern_node, clause_node, group_node, binding_node, statement_node, declaration_nodes}
use Rattle.rw_types_solving.specs.declared.term.Head.TheVariants as h
use Rattle.rw_types_solving.specs.Types.{Ty, Tys, var, app, none, more, apply}
use Rattle.rw_types_rules.specs.Schemes.{World}
use Rattle.rw_types_rules.specs.TypedTrees.{TypedNode, expression_type, pattern_type}
use Rattle.rw_types_rules.specs.WellTyped.{given}
use Rattle.specialise_rules.specs.Instances.{Instance, same_type, declared_in}

-- == Data types ==

abbrev pub listed : Tys → List Ty
listed none = []
listed (more t ts) = t ∷ listed ts

-- the data types that stand in a type and in no data type in it, from left to right
abbrev mutual
  pub data_in : Ty → List Ty
  data_in (var x) = []
  data_in (app (h.Data n) ts) = app (h.Data n) ts ∷ []
  data_in (app h.Tuple ts) = app h.Tuple ts ∷ []
  data_in (app head ts) = data_in_all ts

  pub data_in_all : Tys → List Ty
  data_in_all none = []
  data_in_all (more t ts) = data_in t ++ data_in_all ts

module _ (world : World) where
  -- for each constructor of a closed data type, in order, the types of its fields
  abbrev pub fields_of : Ty → List (List Ty)
  fields_of (app (h.Data n) ts) = map (λ s. map (apply (given (listed ts))) s.takes) (get_or world.constructed n [])
  fields_of (app h.Tuple ts) = listed ts ∷ []
  fields_of _ = []

  -- seeing these types in turn, a table grows to this: a type that is there is passed over; of another the data types of its fields are seen first
  pub data Sees : List Ty → List Ty → List Ty → Type 0 where
    sees_nothing : {table : List Ty} → Sees table [] table
    sees_known : {table after types : List Ty} {t : Ty} → list_any (same_type t) table ≡ true → Sees table types after → Sees table (t ∷ types) after
    sees_new : {table inner after types : List Ty} {t : Ty} → list_any (same_type t) table ≡ false → Sees table (flat_map data_in (flat_map (λ fields. fields) (fields_of t))) inner
        → Sees (inner ++ t ∷ []) types after → Sees table (t ∷ types) after

-- == The table of instances ==

-- the types of a node
abbrev pub types_at : Node TypedNode → List Ty
types_at (expression_node e) = expression_type e ∷ []
types_at (pattern_node p) = pattern_type p ∷ []
types_at (clause_node (alternative a pats side wheres)) = a.type ∷ []
types_at (group_node group) = []
types_at (binding_node (local_signature a x type)) = []
types_at (binding_node (local_function a x clauses)) = a.type ∷ []
types_at (binding_node (local_pattern a bound)) = a.type ∷ []
types_at (statement_node s) = []

abbrev pub types_in : Option (Declaration TypedNode) → List Ty
types_in (Some (function_declaration a x clauses)) = a.type ∷ flat_map types_at (declaration_nodes (function_declaration a x clauses))
types_in _ = []

-- the data types that the nodes of instances are of, in their order
abbrev pub data_types : List (Declaration TypedNode) → List Instance → List Ty
data_types typed instances = flat_map data_in (flat_map (λ i. types_in (declared_in typed i)) instances)

-- the table of closed data types of instances
abbrev pub IsTableOf : World → List (Declaration TypedNode) → List Instance → List Ty → Type 0
IsTableOf world typed instances table = Sees world [] (data_types typed instances) table

-- the number of a type in a table
abbrev pub number_in : ℕ → List Ty → Ty → Option ℕ
number_in n [] t = None
number_in n (u ∷ us) t = if same_type t u then Some n else number_in (suc n) us t
