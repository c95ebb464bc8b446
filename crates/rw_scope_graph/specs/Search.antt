-- What a search in depth knows of the nodes, and which searches are under way.
use Rattle.std.specs.Prelude.{◌≡◌, ℕ, suc, ◌+◌, ◌-◌, List, [], ◌∷◌, length, take, Bool, true, false, not, ◌&&◌, nat_eq, Option, slice_get, slice_index_or, if◌then◌else◌}
use Rattle.std.specs.List.{list_any, list_all}
use Rattle.rw_scope_graph.specs.declared.stack.Frame.{Frame}
use Rattle.rw_scope_graph.specs.declared.search.State.{State}
use Rattle.rw_scope_graph.specs.declared.search.State.TheVariants.{New, Held, Free}
use Rattle.rw_scope_graph.specs.Waiting.{waits_for, IsStuck}

abbrev pub is_new : State → Bool
is_new New = true
is_new Held = false
is_new Free = false

abbrev pub is_held : State → Bool
is_held New = false
is_held Held = true
is_held Free = false

abbrev pub is_free : State → Bool
is_free New = false
is_free Held = false
is_free Free = true

-- what is known of a number: one without a node is free
abbrev pub state_at : List State → ℕ → State
state_at states i = slice_index_or states i Free

abbrev pub new_at : List State → ℕ → Bool
new_at states i = is_new (state_at states i)

abbrev pub held_at : List State → ℕ → Bool
held_at states i = is_held (state_at states i)

abbrev pub free_at : List State → ℕ → Bool
free_at states i = is_free (state_at states i)

-- the next node that a frame's node waits for
abbrev pub wanted_by : List (List ℕ) → Frame → Option ℕ
wanted_by graph frame = slice_get (waits_for graph frame.node) frame.done

-- whether the search of a node is under way
abbrev pub is_on : List Frame → ℕ → Bool
is_on frames i = list_any (λ f. nat_eq i f.node) frames

-- whether a node is held for good: it is held, and its search is over
abbrev pub held_off : List State → List Frame → ℕ → Bool
held_off states frames i = held_at states i && not (is_on frames i)

-- a node whose search is under way is held, and what it waits for is free as far as the search has come
pub record IsFrame (graph : List (List ℕ)) (states : List State) (frame : Frame) : Type 0 where
  pub held : held_at states frame.node ≡ true
  pub done : list_all (free_at states) (take frame.done (waits_for graph frame.node)) ≡ true

-- the frames below a node: each is of another node, and waits for the one above it
abbrev pub Below : List (List ℕ) → List State → ℕ → List Frame → Type 0
Below graph states above [] = Unit {0}
Below graph states above (f ∷ fs) = (list_any (nat_eq above) (waits_for graph f.node) ≡ true) × (is_on fs f.node ≡ false) × IsFrame graph states f × Below graph states f.node fs

abbrev pub IsStacked : List (List ℕ) → List State → List Frame → Type 0
IsStacked graph states [] = Unit {0}
IsStacked graph states (f ∷ fs) = (is_on fs f.node ≡ false) × IsFrame graph states f × Below graph states f.node fs

-- what is known while searches are under way
pub record IsSearched (graph : List (List ℕ)) (states : List State) (frames : List Frame) : Type 0 where
  pub sized : length states ≡ length graph
  pub free : (i : ℕ) → free_at states i ≡ true → list_all (free_at states) (waits_for graph i) ≡ true
  pub outside : (set : ℕ → Bool) → IsStuck graph set → (i : ℕ) → free_at states i ≡ true → set i ≡ false
  pub held : (i : ℕ) → held_off states frames i ≡ true → list_any (held_off states frames) (waits_for graph i) ≡ true
  pub stacked : IsStacked graph states frames

-- what was known of a node stays known
abbrev pub IsKept : List State → List State → Type 0
IsKept old new = (i : ℕ) → new_at old i ≡ false → new_at new i ≡ false

-- how much is left to do: for each new node, and for each search under way
abbrev pub new_work : List (List ℕ) → List State → ℕ
new_work [] states = 0
new_work (row ∷ rows) [] = 0
new_work (row ∷ rows) (state ∷ states) = (if is_new state then length row + 2 else 0) + new_work rows states

abbrev pub frames_work : List (List ℕ) → List Frame → ℕ
frames_work graph [] = 0
frames_work graph (f ∷ fs) = suc (length (waits_for graph f.node) - f.done) + frames_work graph fs

abbrev pub work_of : List (List ℕ) → List State → List Frame → ℕ
work_of graph states frames = new_work graph states + frames_work graph frames
