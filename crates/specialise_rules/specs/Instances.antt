-- The instances of a typed program: its declarations at closed types, as `start` needs them.
use Rattle.std.specs.Prelude.{ℕ, zero, suc, nat_eq, nat_le, List, [], ◌∷◌, ◌++◌, map, Bool, true, false, ◌&&◌, slice_get, Option, Some, None, if◌then◌else◌, codes}
use Rattle.std.specs.List.{flat_map, list_any}
use Rattle.rw_scope_rules.specs.declared.binding.Binding.{Binding}
use Rattle.rw_scope_rules.specs.declared.binding.Binding.TheVariants.{Declared}
use Rattle.rw_scope_rules.specs.Names.{is_among as is_named}
use Rattle.rw_scope_rules.specs.Nodes.{Node, expression_node, declaration_nodes}
use Rattle.rw_tree.specs.Trees.{variable}
use Rattle.rw_tree.specs.Declarations.{Declaration, function_declaration}
use Rattle.rw_core.specs.Options.{◌>>=◌}
use Rattle.rw_types_solving.specs.Types.{Ty, Tys, var, app, none, more, same_head}
use Rattle.rw_types_rules.specs.TypedTrees.{TypedNode}
use Rattle.rw_types_instances.specs.Instances.{in_instance}

-- == Types ==

-- whether two types are the same
abbrev mutual
  pub same_type : Ty → Ty → Bool
  same_type (var x) (var y) = nat_eq x y
  same_type (var x) (app h ts) = false
  same_type (app h ts) (var y) = false
  same_type (app h ts) (app k us) = same_head h k && same_types ts us

  pub same_types : Tys → Tys → Bool
  same_types none none = true
  same_types none (more u us) = false
  same_types (more t ts) none = false
  same_types (more t ts) (more u us) = same_type t u && same_types ts us

abbrev pub same_list : List Ty → List Ty → Bool
same_list [] [] = true
same_list [] (u ∷ us) = false
same_list (t ∷ ts) [] = false
same_list (t ∷ ts) (u ∷ us) = same_type t u && same_list ts us

-- == Instances ==

-- a declaration, by its number, with closed types for the variables of its signature
pub record Instance : Type 0 where
  pub declaration : ℕ
  pub arguments : List Ty

abbrev pub same_instance : Instance → Instance → Bool
same_instance i j = nat_eq i.declaration j.declaration && same_list i.arguments j.arguments

abbrev pub is_among : Instance → List Instance → Bool
is_among i list = list_any (same_instance i) list

-- instances with the numbers of the tokens that name them
abbrev pub Mention : Type 0
Mention = ℕ × Instance

-- from left to right: where numbers are equal, as they stand
abbrev pub put_left : Mention → List Mention → List Mention
put_left m [] = m ∷ []
put_left m (n ∷ ns) = if nat_le m.0 n.0 then m ∷ n ∷ ns else n ∷ put_left m ns

abbrev pub from_left : List Mention → List Mention
from_left [] = []
from_left (m ∷ ms) = put_left m (from_left ms)

-- what a name at this token is an instance of
abbrev pub named_by : ℕ → Option Binding → List Ty → List Mention
named_by token (Some (Declared n)) arguments = (token, record { declaration = n; arguments = arguments }) ∷ []
named_by token _ arguments = []

abbrev pub named_at : Node TypedNode → List Mention
named_at (expression_node (variable a x)) = named_by a.node.span.from a.node.bound a.arguments
named_at _ = []

-- the instances that a declaration with closed types names, from left to right
abbrev pub mentioned_in : Option (Declaration TypedNode) → List Instance
mentioned_in None = []
mentioned_in (Some d) = map (λ m. m.1) (from_left (flat_map named_at (declaration_nodes d)))

abbrev pub start_from : ℕ → List (Declaration TypedNode) → List Instance
start_from n [] = []
start_from n (function_declaration a x clauses ∷ ds) = if is_named x (codes "start" ∷ []) then record { declaration = n; arguments = [] } ∷ [] else start_from (suc n) ds
start_from n (d ∷ ds) = start_from (suc n) ds

-- the first of these that isn't listed yet, as a list
abbrev pub first_missing : List Instance → List Instance → List Instance
first_missing list [] = []
first_missing list (i ∷ is) = if is_among i list then first_missing list is else i ∷ []

module _ (typed : List (Declaration TypedNode)) where
  -- the declaration of an instance, with closed types at its nodes
  abbrev pub declared_in : Instance → Option (Declaration TypedNode)
  declared_in i = do d ← slice_get typed i.declaration; Some (in_instance i.arguments d)

  abbrev pub mentioned : Instance → List Instance
  mentioned i = mentioned_in (declared_in i)

  -- the next instance after these, as a list: `start`, and then the first that one of these names, in their order, and that isn't listed yet
  abbrev pub next_instance : List Instance → List Instance
  next_instance list = first_missing list (start_from 0 typed ++ flat_map mentioned list)

  -- the first instances, at most so many
  abbrev pub first_instances : ℕ → List Instance
  first_instances zero = []
  first_instances (suc n) = first_instances n ++ next_instance (first_instances n)
