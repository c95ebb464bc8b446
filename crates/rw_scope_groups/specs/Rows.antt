-- The graph of a group: each binding waits for the bindings that bind a name that stands in it.
use Rattle.std.specs.Prelude.{ℕ, suc, List, [], ◌∷◌, ◌++◌, map, flat_map, Bool, nat_eq, Option, Some, None, if◌then◌else◌}
use Rattle.indexmap.specs.IndexMap.{get}
use Rattle.rw_scope_rules.specs.declared.binding.Bound.{Bound}
use Rattle.rw_tree.specs.Patterns.{variable_pattern}
use Rattle.rw_tree.specs.Trees.{LocalBinding}
use Rattle.rw_scope_rules.specs.Nodes.{Node, pattern_node}
use Rattle.rw_scope_groups.specs.declared.owners.Owners.{Owners}
use Rattle.rw_scope_rules.specs.Groups.{number_of, own_numbers, mentioned_numbers}

-- the numbers of the variables of patterns
abbrev pub bound_in_node : Node Bound → List ℕ
bound_in_node (pattern_node (variable_pattern a x)) = number_of a.bound
bound_in_node _ = []

-- a binding's place in its group, for each time that a number stands among its own
abbrev pub owners_here : ℕ → ℕ → List ℕ → List ℕ
owners_here k place [] = []
owners_here k place (j ∷ js) = if nat_eq k j then place ∷ owners_here k place js else owners_here k place js

-- the places of those that bind a number, from the one with this place on
abbrev pub owners : ℕ → ℕ → List (List ℕ) → List ℕ
owners k place [] = []
owners k place (own ∷ rest) = owners_here k place own ++ owners k (suc place) rest

-- the places of those that bind a number that is among these
abbrev pub owners_of : List (List ℕ) → List ℕ → List ℕ
owners_of owns wants = flat_map (λ k. owners k 0 owns) wants

-- what each binding of a group waits for
abbrev pub group_graph : List (LocalBinding Bound) → List (List ℕ)
group_graph bindings = map (λ b. owners_of (map own_numbers bindings) (mentioned_numbers b)) bindings

-- the marked ones, from the one with this place on
abbrev pub selected : (ℕ → Bool) → ℕ → List (LocalBinding Bound) → List (LocalBinding Bound)
selected is_marked place [] = []
selected is_marked place (b ∷ bs) = if is_marked place then b ∷ selected is_marked (suc place) bs else selected is_marked (suc place) bs

-- what a table of places says of a number
abbrev pub or_none : Option (List ℕ) → List ℕ
or_none None = []
or_none (Some places) = places

abbrev pub found_in : Owners → ℕ → List ℕ
found_in table k = or_none (get nat_eq table.table k)
