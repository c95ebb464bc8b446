-- Circles in a graph: nodes that lead back to themselves.
use Rattle.std.specs.Prelude.{◌≡◌, ℕ, zero, suc, List, ◌++◌, length, flat_map, Bool, nat_eq}
use Rattle.std.specs.List.{list_any}
use Rattle.rw_scope_graph.specs.Waiting.{waits_for, marked}

-- these nodes, and what they wait for, and what that waits for, so many times
abbrev pub ahead : List (List ℕ) → ℕ → List ℕ → List ℕ
ahead graph zero nodes = nodes
ahead graph (suc n) nodes = nodes ++ ahead graph n (flat_map (waits_for graph) nodes)

-- a node waits for itself, or what it waits for leads to it: a way without a repetition is no longer than there are nodes
abbrev pub is_circular : List (List ℕ) → ℕ → Bool
is_circular graph i = list_any (nat_eq i) (ahead graph (length graph) (waits_for graph i))

-- those nodes are marked
pub record MarksCircles (graph : List (List ℕ)) (marks : List Bool) : Type 0 where
  pub sized : length marks ≡ length graph
  pub exact : (i : ℕ) → marked marks i ≡ is_circular graph i
