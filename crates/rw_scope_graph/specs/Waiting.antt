-- Graphs of nodes that wait for nodes: the node with a number waits for those whose numbers stand in the item at its number.
use Rattle.std.specs.Prelude.{◌≡◌, ℕ, List, [], length, Bool, true, false, slice_index_or}
use Rattle.std.specs.List.{list_any}

-- what a node waits for; a number without a node waits for nothing
abbrev pub waits_for : List (List ℕ) → ℕ → List ℕ
waits_for graph i = slice_index_or graph i []

-- a set of nodes each of which waits for one of them: none of them can be the first in an order
abbrev pub IsStuck : List (List ℕ) → (ℕ → Bool) → Type 0
IsStuck graph set = (i : ℕ) → set i ≡ true → list_any set (waits_for graph i) ≡ true

-- the set of the nodes that are marked
abbrev pub marked : List Bool → ℕ → Bool
marked marks i = slice_index_or marks i false

-- the marked nodes are the greatest such set: a node is marked exactly where it waits for a marked one, and each such set is part of it
pub record IsGreatestStuck (graph : List (List ℕ)) (marks : List Bool) : Type 0 where
  pub sized : length marks ≡ length graph
  pub exact : (i : ℕ) → marked marks i ≡ list_any (marked marks) (waits_for graph i)
  pub greatest : (set : ℕ → Bool) → IsStuck graph set → (i : ℕ) → set i ≡ true → marked marks i ≡ true
