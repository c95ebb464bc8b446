-- The rule on let groups, E12: no binding of a group depends on itself (of Haskell 2010 Report, section 3.12, the groups without recursion).
use Rattle.std.specs.Prelude.{ℕ, zero, suc, List, [], ◌∷◌, map, flat_map, length, Bool, nat_eq, Option, Some, if◌then◌else◌}
use Rattle.std.specs.List.{list_any}
use Rattle.rw_base.specs.declared.place.Place.{Place}
use Rattle.rw_base.specs.declared.place.Span.{Span}
use Rattle.rw_scope_rules.specs.declared.binding.Bound.{Bound}
use Rattle.rw_scope_rules.specs.declared.binding.Binding.{Binding}
use Rattle.rw_scope_rules.specs.declared.binding.Binding.TheVariants.{Local}
use Rattle.rw_tree.specs.Trees.{variable, LocalBinding, local_signature, local_function, local_pattern}
use Rattle.rw_tree.specs.Declarations.{PlainProgram}
use Rattle.rw_scope_rules.specs.Nodes.{Node, expression_node, group_node, binding_nodes, bindings_of, program_nodes}
use Rattle.rw_scope_rules.specs.Bindings.{binding_variables, bound_program}

-- the number of a local name
abbrev pub number_of : Option Binding → List ℕ
number_of (Some (Local k)) = k ∷ []
number_of _ = []

-- the numbers of what a binding binds
abbrev pub own_numbers : LocalBinding Bound → List ℕ
own_numbers b = flat_map (λ v. number_of v.1.bound) (binding_variables b)

abbrev pub mentioned_in_node : Node Bound → List ℕ
mentioned_in_node (expression_node (variable a x)) = number_of a.bound
mentioned_in_node _ = []

-- the numbers of the local names that stand in it
abbrev pub mentioned_numbers : LocalBinding Bound → List ℕ
mentioned_numbers b = flat_map mentioned_in_node (binding_nodes b)

-- a binding waits where one that is left, perhaps itself, binds a name that stands in it
abbrev pub waits : List (LocalBinding Bound) → LocalBinding Bound → Bool
waits left b = list_any (λ k. list_any (nat_eq k) (flat_map own_numbers left)) (mentioned_numbers b)

-- what is left once the first that does not wait is placed
abbrev pub placed_once : List (LocalBinding Bound) → List (LocalBinding Bound) → List (LocalBinding Bound)
placed_once left [] = []
placed_once left (b ∷ bs) = if waits left b then b ∷ placed_once left bs else bs

abbrev pub placed_times : ℕ → List (LocalBinding Bound) → List (LocalBinding Bound)
placed_times zero left = left
placed_times (suc n) left = placed_times n (placed_once left left)

-- the bindings of a group that are never placed
abbrev pub never_placed : List (LocalBinding Bound) → List (LocalBinding Bound)
never_placed bindings = placed_times (length bindings) bindings

abbrev pub binding_place : LocalBinding Bound → Place
binding_place (local_signature a x type) = a.span.first
binding_place (local_function a x clauses) = a.span.first
binding_place (local_pattern a bound) = a.span.first

abbrev pub cyclic_in_node : Node Bound → List Place
cyclic_in_node (group_node group) = map binding_place (never_placed (bindings_of group))
cyclic_in_node _ = []

-- E12 is broken at these places
abbrev pub cyclic : PlainProgram Span → List Place
cyclic program = flat_map cyclic_in_node (program_nodes (bound_program program))
