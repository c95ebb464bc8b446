-- What the search from one node knows of the nodes.
use Rattle.std.specs.Prelude.{◌≡◌, ℕ, ◌+◌, ◌≤◌, List, [], ◌∷◌, length, Bool, true, not, ◌||◌, nat_eq, if◌then◌else◌}
use Rattle.std.specs.List.{list_any}
use Rattle.rw_scope_graph.specs.declared.search.State.{State}
use Rattle.rw_scope_graph.specs.Waiting.{waits_for}
use Rattle.rw_scope_graph.specs.Search.{is_held, new_at, held_at, free_at, new_work}
use Rattle.rw_scope_graph.specs.Circles.{ahead}

abbrev pub has : ℕ → List ℕ → Bool
has i nodes = list_any (nat_eq i) nodes

-- a node was met, is left to be met, or is no node
abbrev pub is_seen : List State → List ℕ → ℕ → Bool
is_seen states left i = not (new_at states i) || has i left

-- how many were met
abbrev pub held_count : List State → ℕ
held_count [] = 0
held_count (s ∷ ss) = (if is_held s then 1 else 0) + held_count ss

-- of a search from a node, which hasn't come back to it
pub record IsMeeting (graph : List (List ℕ)) (node : ℕ) (states : List State) (left : List ℕ) : Type 0 where
  pub sized : length states ≡ length graph
  pub apart : new_at states node ≡ true
  pub start : (j : ℕ) → has j (waits_for graph node) ≡ true → is_seen states left j ≡ true
  pub met : (i j : ℕ) → held_at states i ≡ true → has j (waits_for graph i) ≡ true → is_seen states left j ≡ true
  pub none_free : (i : ℕ) → free_at states i ≡ true → length graph ≤ i
  pub near : (i : ℕ) → has i left ≡ true → has i (ahead graph (held_count states) (waits_for graph node)) ≡ true

abbrev pub meeting_work : List (List ℕ) → List State → List ℕ → ℕ
meeting_work graph states left = new_work graph states + length left
