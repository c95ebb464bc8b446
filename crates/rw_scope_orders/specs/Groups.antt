-- The order of a let group, over any annotation that tells its binding: the bindings one after the other, each after those that bind the names that
-- it mentions (of Haskell 2010 Report, section 3.12, the groups without recursion).
use Rattle.std.specs.Prelude.{ℕ, suc, List, [], ◌∷◌, map, flat_map, Bool, nat_eq, Option}
use Rattle.std.specs.List.{list_any}
use Rattle.rw_scope_rules.specs.declared.binding.Binding.{Binding}
use Rattle.rw_scope_rules.specs.Bindings.{binding_variables}
use Rattle.rw_scope_rules.specs.Nodes.{Node, expression_node, binding_nodes}
use Rattle.rw_scope_rules.specs.Groups.{number_of}
use Rattle.rw_tree.specs.Trees.{variable, LocalBinding}
use Rattle.rw_scope_orders.specs.Placing.{placed, never}

-- a binding with its place in its group, from 0
abbrev pub Numbered : Type 0 → Type 0
Numbered A = ℕ × LocalBinding A

-- bindings with their places, the first of which is this
abbrev pub numbered : {A : Type 0} → ℕ → List (LocalBinding A) → List (Numbered A)
numbered n [] = []
numbered n (b ∷ bs) = (n, b) ∷ numbered (suc n) bs

module _ {A : Type 0} (binding : A → Option Binding) where
  -- the numbers of what a binding binds
  abbrev pub own_numbers : LocalBinding A → List ℕ
  own_numbers b = flat_map (λ v. number_of (binding v.1)) (binding_variables b)

  abbrev pub mentioned_in_node : Node A → List ℕ
  mentioned_in_node (expression_node (variable a x)) = number_of (binding a)
  mentioned_in_node _ = []

  -- the numbers of the local names that stand in it
  abbrev pub mentioned_numbers : LocalBinding A → List ℕ
  mentioned_numbers b = flat_map mentioned_in_node (binding_nodes b)

  -- one of these binds the local name with this number
  abbrev pub bind : List (Numbered A) → ℕ → Bool
  bind bs k = list_any (nat_eq k) (flat_map (λ b. own_numbers b.1) bs)

  -- the local name with this number stands in it
  abbrev pub mentions : Numbered A → ℕ → Bool
  mentions b k = list_any (nat_eq k) (mentioned_numbers b.1)

  -- it waits where one that is left, perhaps itself, binds a name that stands in it
  abbrev pub waits : List (Numbered A) → Numbered A → Bool
  waits left b = list_any (bind left) (mentioned_numbers b.1)

  -- the bindings of a group in the order in which they are placed, each with its place in the source
  abbrev pub in_order : List (LocalBinding A) → List (Numbered A)
  in_order group = placed waits (numbered 0 group)

  -- those that are never placed
  abbrev pub left_over : List (LocalBinding A) → List (Numbered A)
  left_over group = never waits (numbered 0 group)

  -- their places in the source, in the order in which they are placed
  abbrev pub places : List (LocalBinding A) → List ℕ
  places group = map (λ b. b.0) (in_order group)
