-- What a search knows after each step.
use Rattle.std.proofs.Common.{◌≡◌, ◌≢◌, ◌⊎◌, inl, inr, ℕ, zero, suc, ◌+◌, ◌<◌, ◌≤◌, Bool, true, false, not, ◌||◌, nat_eq, List, [], ◌∷◌, length, take, set, map, slice_get, Some, None, refl, sym, ap, subst, ◌∙◌, arith, length-set, drop, ◌++◌, append-nil, take_all, drop_of_length-le, below_more}
use Rattle.std.specs.List.{list_any, list_all}
use Rattle.std.proofs.lemmas.List.{get_or_past}
use Rattle.rw_scope_graph.specs.declared.stack.Frame.{Frame}
use Rattle.rw_scope_graph.specs.declared.search.State.{State}
use Rattle.rw_scope_graph.specs.declared.search.State.TheVariants.{New, Held, Free}
use Rattle.rw_scope_graph.specs.Waiting.{waits_for, marked, IsGreatestStuck}
use Rattle.rw_scope_graph.specs.Search.{is_new, is_held, is_free, state_at, new_at, held_at, free_at, is_on, held_off, wanted_by, IsFrame, Below, IsStacked, IsSearched, IsKept, work_of}
use Rattle.rw_scope_graph.proofs.Passing.{true_or_false, is_same, same_is, other_is, is_other, same_or_other, in_or_out, or_left, or_right, either, neither, both, and_true, not_false, is_false, clash, any_more, all_more, none_where_all, any_at, all_next, all_done}
use Rattle.rw_scope_graph.proofs.States.{held_within, new_within, there, elsewhere, held_not_free, held_not_new, free_not_held, new_not_held, new_not_free, held_or_free, same_work, less_work}

-- frames stay frames where what they rest on stays
module _ (graph : List (List ℕ)) (old new : List State) (free : (i : ℕ) → free_at old i ≡ true → free_at new i ≡ true) where
  frame_stays : (f : Frame) → held_at new f.node ≡ true → IsFrame graph old f → IsFrame graph new f
  frame_stays f h k = record { held = h; done = all_more (free_at old) (free_at new) (take f.done (waits_for graph f.node)) free k.done }

  below_stays : (above : ℕ) (fs : List Frame) → ((i : ℕ) → is_on fs i ≡ true → held_at old i ≡ true → held_at new i ≡ true) → Below graph old above fs → Below graph new above fs
  below_stays above [] h k = tt
  below_stays above (f ∷ fs) h k =
      (k.0, k.1, frame_stays f (h f.node (or_left (nat_eq f.node f.node) (is_on fs f.node) (same_is f.node f.node refl)) k.2.held) k.2, below_stays f.node fs (λ i on. h i (or_right (nat_eq i f.node) (is_on fs i) on)) k.3)

-- what is on the stack is held
below_held : (graph : List (List ℕ)) (states : List State) (above : ℕ) (fs : List Frame) → Below graph states above fs → (i : ℕ) → is_on fs i ≡ true → held_at states i ≡ true
below_held graph states above [] k i on = absurd (cc)
below_held graph states above (f ∷ fs) k i on = elim (either (nat_eq i f.node) (is_on fs i) on) [
  | inl e ↦ ap (held_at states) (is_same i f.node e) ∙ k.2.held
  | inr e ↦ below_held graph states f.node fs k.3 i e
]

stacked_held : (graph : List (List ℕ)) (states : List State) (fs : List Frame) → IsStacked graph states fs → (i : ℕ) → is_on fs i ≡ true → held_at states i ≡ true
stacked_held graph states [] k i on = absurd (cc)
stacked_held graph states (f ∷ fs) k i on = elim (either (nat_eq i f.node) (is_on fs i) on) [
  | inl e ↦ ap (held_at states) (is_same i f.node e) ∙ k.1.held
  | inr e ↦ below_held graph states f.node fs k.2 i e
]

-- what is on the stack, below a node that is held, waits for a node that is held
below_waits : (graph : List (List ℕ)) (states : List State) (above : ℕ) (fs : List Frame) → held_at states above ≡ true → Below graph states above fs
    → (i : ℕ) → is_on fs i ≡ true → list_any (held_at states) (waits_for graph i) ≡ true
below_waits graph states above [] h k i on = absurd (cc)
below_waits graph states above (f ∷ fs) h k i on = elim (either (nat_eq i f.node) (is_on fs i) on) [
  | inl e ↦ ap (λ n. list_any (held_at states) (waits_for graph n)) (is_same i f.node e)
      ∙ any_more (nat_eq above) (held_at states) (waits_for graph f.node) (λ x s. ap (held_at states) (sym (is_same above x s)) ∙ h) k.0
  | inr e ↦ below_waits graph states f.node fs k.2.held k.3 i e
]

from_below : (graph : List (List ℕ)) (states : List State) (above : ℕ) (fs : List Frame) → Below graph states above fs → IsStacked graph states fs
from_below graph states above [] k = tt
from_below graph states above (f ∷ fs) k = (k.1, k.2, k.3)

off_where : (states : List State) (frames : List Frame) (i : ℕ) → held_off states frames i ≡ true → (held_at states i ≡ true) × (is_on frames i ≡ false)
off_where states frames i h = let b = both (held_at states i) (not (is_on frames i)) h in (b.0, is_false (is_on frames i) b.1)

off_is : (states : List State) (frames : List Frame) (i : ℕ) → held_at states i ≡ true → is_on frames i ≡ false → held_off states frames i ≡ true
off_is states frames i h o = and_true (held_at states i) (not (is_on frames i)) h (not_false (is_on frames i) o)

-- all that a node waits for is free: it is free
module _ (graph : List (List ℕ)) (states : List State) (f : Frame) (fs : List Frame) (k : IsSearched graph states (f ∷ fs)) (over : wanted_by graph f ≡ None) where
  abbrev freed : List State
  freed = set states f.node Free

  in_states : f.node < length states
  in_states = held_within states f.node k.stacked.1.held

  is_now : free_at freed f.node ≡ true
  is_now = ap is_free (there states f.node Free in_states)

  all_free : list_all (free_at states) (waits_for graph f.node) ≡ true
  all_free = all_done (free_at states) (waits_for graph f.node) f.done over k.stacked.1.done

  more_free : (i : ℕ) → free_at states i ≡ true → free_at freed i ≡ true
  more_free i h = elim (same_or_other i f.node) [
    | inl e ↦ ap (free_at freed) e ∙ is_now
    | inr ne ↦ ap is_free (elsewhere states f.node i Free ne) ∙ h
  ]

  -- another node than this one is as it was
  was_free : (i : ℕ) → i ≢ f.node → free_at freed i ≡ true → free_at states i ≡ true
  was_free i ne h = ap is_free (sym (elsewhere states f.node i Free ne)) ∙ h

  held_is_other : (i : ℕ) → held_at freed i ≡ true → i ≢ f.node
  held_is_other i h e = clash (free_at freed i) (ap (free_at freed) e ∙ is_now) (held_not_free (state_at freed i) h)

  was_held : (i : ℕ) → held_at freed i ≡ true → held_at states i ≡ true
  was_held i h = ap is_held (sym (elsewhere states f.node i Free (held_is_other i h))) ∙ h

  on_other : (i : ℕ) → i ≢ f.node → is_on fs i ≡ false → is_on (f ∷ fs) i ≡ false
  on_other i ne o = ap (λ b. b || is_on fs i) (other_is i f.node ne) ∙ o

  stays_off : (i : ℕ) → held_off states (f ∷ fs) i ≡ true → held_off freed fs i ≡ true
  stays_off i h =
      let w = off_where states (f ∷ fs) i h in
      let n = neither (nat_eq i f.node) (is_on fs i) w.1 in
      off_is freed fs i (ap is_held (elsewhere states f.node i Free (is_other i f.node n.0)) ∙ w.0) n.1

  pub freed_one : IsSearched graph freed fs
  freed_one = record {
    sized = length-set states f.node Free ∙ k.sized;
    free = λ i h. all_more (free_at states) (free_at freed) (waits_for graph i) more_free (elim (same_or_other i f.node) [
      | inl e ↦ ap (λ n. list_all (free_at states) (waits_for graph n)) e ∙ all_free
      | inr ne ↦ k.free i (was_free i ne h)
    ]);
    outside = λ set s i h. elim (same_or_other i f.node) [
      | inl e ↦ elim (true_or_false (set i)) [
        | inl inside ↦ clash (list_any set (waits_for graph i)) (s i inside) (ap (λ n. list_any set (waits_for graph n)) e ∙ none_where_all (free_at states) set (waits_for graph f.node) (k.outside set s) all_free)
        | inr out ↦ out
      ]
      | inr ne ↦ k.outside set s i (was_free i ne h)
    ];
    held = λ i h.
        let w = off_where freed fs i h in
        any_more (held_off states (f ∷ fs)) (held_off freed fs) (waits_for graph i) stays_off
        (k.held i (off_is states (f ∷ fs) i (was_held i w.0) (on_other i (held_is_other i w.0) w.1)));
    stacked = from_below graph freed f.node fs (below_stays graph states freed more_free f.node fs
        (λ i on h. ap is_held (elsewhere states f.node i Free (λ e. clash (is_on fs i) on (ap (is_on fs) e ∙ k.stacked.0))) ∙ h) k.stacked.2);
  }

  pub freed_kept : IsKept states freed
  freed_kept i h = elim (same_or_other i f.node) [
    | inl e ↦ ap (λ n. new_at freed n) e ∙ ap is_new (there states f.node Free in_states)
    | inr ne ↦ ap is_new (elsewhere states f.node i Free ne) ∙ h
  ]

  pub freed_less : work_of graph freed fs < work_of graph states (f ∷ fs)
  freed_less =
      let w = same_work graph states f.node Free (held_not_new (state_at states f.node) k.stacked.1.held) refl in omega (arith, w)

-- the next one that a node waits for is free
module _ (graph : List (List ℕ)) (states : List State) (f : Frame) (fs : List Frame) (k : IsSearched graph states (f ∷ fs)) (next : ℕ) (wants : wanted_by graph f ≡ Some next) where
  pub went_on : (done : ℕ) → done ≡ f.done + 1 → free_at states next ≡ true → IsSearched graph states (record { node = f.node; done = done } ∷ fs)
  went_on done e h =
      let more : done ≡ suc f.done = omega arith in
      record {
        sized = k.sized;
        free = k.free;
        outside = k.outside;
        held = k.held;
        stacked = (
          k.stacked.0,
          record {
            held = k.stacked.1.held;
            done = ap (λ n. list_all (free_at states) (take n (waits_for graph f.node))) more ∙ all_next (free_at states) (waits_for graph f.node) f.done next wants h k.stacked.1.done;
          },
          k.stacked.2,
        );
      }

  wants_within : f.done < length (waits_for graph f.node)
  wants_within = got (waits_for graph f.node) f.done wants
    where
      got : (xs : List ℕ) (i : ℕ) → slice_get xs i ≡ Some next → i < length xs
      got [] i e = absurd (cc)
      got (x ∷ xs) zero e = omega arith
      got (x ∷ xs) (suc i) e = let l = got xs i e in omega (arith, l)

  pub went_less : (done : ℕ) → done ≡ f.done + 1 → work_of graph states (record { node = f.node; done = done } ∷ fs) < work_of graph states (f ∷ fs)
  went_less done e = let l = wants_within in omega (arith, l)

  -- it is held: so are all on the stack, for good
  pub came_round : held_at states next ≡ true → IsSearched graph states []
  came_round h = record {
    sized = k.sized;
    free = k.free;
    outside = k.outside;
    held = λ i w. any_more (held_at states) (held_off states []) (waits_for graph i) (λ x e. off_is states [] x e refl) (waits i (off_where states [] i w).0 (true_or_false (is_on (f ∷ fs) i)));
    stacked = tt;
  }
    where
      waits : (i : ℕ) → held_at states i ≡ true → (is_on (f ∷ fs) i ≡ true) ⊎ (is_on (f ∷ fs) i ≡ false) → list_any (held_at states) (waits_for graph i) ≡ true
      waits i e (inl on) = elim (either (nat_eq i f.node) (is_on fs i) on) [
        | inl same ↦ ap (λ n. list_any (held_at states) (waits_for graph n)) (is_same i f.node same) ∙ any_at (held_at states) (waits_for graph f.node) f.done next wants h
        | inr lower ↦ below_waits graph states f.node fs k.stacked.1.held k.stacked.2 i lower
      ]
      waits i e (inr off) = any_more (held_off states (f ∷ fs)) (held_at states) (waits_for graph i) (λ x o. (off_where states (f ∷ fs) x o).0) (k.held i (off_is states (f ∷ fs) i e off))

  pub round_less : work_of graph states [] < work_of graph states (f ∷ fs)
  round_less = omega arith

-- a search begins at a new node
module _ (graph : List (List ℕ)) (states : List State) (fs : List Frame) (k : IsSearched graph states fs) (next : ℕ) (new : new_at states next ≡ true) where
  abbrev opened : List State
  opened = set states next Held

  within : next < length states
  within = new_within states next new

  held_here : held_at opened next ≡ true
  held_here = ap is_held (there states next Held within)

  free_is_other : (i : ℕ) → free_at opened i ≡ true → i ≢ next
  free_is_other i h e = clash (free_at opened i) h (held_not_free (state_at opened i) (ap (held_at opened) e ∙ held_here))

  free_was : (i : ℕ) → free_at opened i ≡ true → free_at states i ≡ true
  free_was i h = ap is_free (sym (elsewhere states next i Held (free_is_other i h))) ∙ h

  free_stays : (i : ℕ) → free_at states i ≡ true → free_at opened i ≡ true
  free_stays i h = ap is_free (elsewhere states next i Held (λ e. clash (free_at states i) h (ap (free_at states) e ∙ new_not_free (state_at states next) new))) ∙ h

  held_stays : (i : ℕ) → held_at states i ≡ true → held_at opened i ≡ true
  held_stays i h = ap is_held (elsewhere states next i Held (λ e. clash (held_at states i) h (ap (held_at states) e ∙ new_not_held (state_at states next) new))) ∙ h

  off_stack : is_on fs next ≡ false
  off_stack = elim (true_or_false (is_on fs next)) [
    | inl on ↦ clash (held_at states next) (stacked_held graph states fs k.stacked next on) (new_not_held (state_at states next) new)
    | inr off ↦ off
  ]

  stays_held_off : (i : ℕ) → held_off states fs i ≡ true → held_off opened (record { node = next; done = 0 } ∷ fs) i ≡ true
  stays_held_off i h =
      let w = off_where states fs i h in
      let ne : i ≢ next = λ e. clash (held_at states i) w.0 (ap (held_at states) e ∙ new_not_held (state_at states next) new) in
      off_is opened (record { node = next; done = 0 } ∷ fs) i (held_stays i w.0) (ap (λ b. b || is_on fs i) (other_is i next ne) ∙ w.1)

  was_held_off : (i : ℕ) → held_off opened (record { node = next; done = 0 } ∷ fs) i ≡ true → held_off states fs i ≡ true
  was_held_off i h =
      let w = off_where opened (record { node = next; done = 0 } ∷ fs) i h in
      let n = neither (nat_eq i next) (is_on fs i) w.1 in
      off_is states fs i (ap is_held (sym (elsewhere states next i Held (is_other i next n.0))) ∙ w.0) n.1

  begun_with : Below graph opened next fs → IsSearched graph opened (record { node = next; done = 0 } ∷ fs)
  begun_with below = record {
    sized = length-set states next Held ∙ k.sized;
    free = λ i h. all_more (free_at states) (free_at opened) (waits_for graph i) free_stays (k.free i (free_was i h));
    outside = λ set s i h. k.outside set s i (free_was i h);
    held = λ i h. any_more (held_off states fs) (held_off opened (record { node = next; done = 0 } ∷ fs)) (waits_for graph i) stays_held_off (k.held i (was_held_off i h));
    stacked = (off_stack, record { held = held_here; done = refl }, below);
  }

  pub begun_kept : IsKept states opened
  begun_kept i h = ap is_new (elsewhere states next i Held (λ e. clash (new_at states next) new (ap (new_at states) (sym e) ∙ h))) ∙ h

  pub begun_known : new_at opened next ≡ false
  begun_known = ap is_new (there states next Held within)

  pub begun_less : work_of graph opened (record { node = next; done = 0 } ∷ fs) < work_of graph states fs
  begun_less = let w = less_work graph states next Held k.sized new refl in omega (arith, w)

-- it begins with nothing on the stack, and above the search of a node that waits for it
pub begun_first : (graph : List (List ℕ)) (states : List State) (k : IsSearched graph states []) (next : ℕ) (new : new_at states next ≡ true)
    → IsSearched graph (set states next Held) (record { node = next; done = 0 } ∷ [])
begun_first graph states k next new = begun_with graph states [] k next new tt

pub begun_above : (graph : List (List ℕ)) (states : List State) (f : Frame) (fs : List Frame) (k : IsSearched graph states (f ∷ fs)) (next : ℕ) (wants : wanted_by graph f ≡ Some next)
    (new : new_at states next ≡ true) → IsSearched graph (set states next Held) (record { node = next; done = 0 } ∷ f ∷ fs)
begun_above graph states f fs k next wants new =
    begun_with graph states (f ∷ fs) k next new (
      any_at (nat_eq next) (waits_for graph f.node) f.done next wants (same_is next next refl),
      k.stacked.0,
      frame_stays graph states (set states next Held) (free_stays graph states (f ∷ fs) k next new) f (held_stays graph states (f ∷ fs) k next new f.node k.stacked.1.held) k.stacked.1,
      below_stays graph states (set states next Held) (free_stays graph states (f ∷ fs) k next new) f.node fs (λ i on h. held_stays graph states (f ∷ fs) k next new i h) k.stacked.2,
    )

-- at the beginning nothing is known
new_there : (graph : List (List ℕ)) (i : ℕ) → i < length graph → state_at (map (λ row. New) graph) i ≡ New
new_there [] i l = absurd (omega arith)
new_there (row ∷ rows) zero l = refl
new_there (row ∷ rows) (suc i) l = new_there rows i (omega arith)

free_there : (graph : List (List ℕ)) (i : ℕ) → length graph ≤ i → state_at (map (λ row. New) graph) i ≡ Free
free_there [] i l = refl
free_there (row ∷ rows) zero l = absurd (omega arith)
free_there (row ∷ rows) (suc i) l = free_there rows i (omega arith)

many_there : (graph : List (List ℕ)) → length (map (λ row. New) graph) ≡ length graph
many_there [] = refl
many_there (row ∷ rows) = ap suc (many_there rows)

module _ (graph : List (List ℕ)) where
  abbrev unknown : List State
  unknown = map (λ row. New) graph

  never_held : (i : ℕ) → held_at unknown i ≡ false
  never_held i = elim (in_or_out i (length graph)) [
    | inl l ↦ ap is_held (new_there graph i l)
    | inr l ↦ ap is_held (free_there graph i l)
  ]

  free_is_past : (i : ℕ) → free_at unknown i ≡ true → waits_for graph i ≡ []
  free_is_past i h = elim (in_or_out i (length graph)) [
    | inl l ↦ clash (free_at unknown i) h (ap is_free (new_there graph i l))
    | inr l ↦ get_or_past graph i [] l
  ]

  first_known : IsSearched graph unknown []
  first_known = record {
    sized = many_there graph;
    free = λ i h. ap (list_all (free_at unknown)) (free_is_past i h);
    outside = λ set s i h. elim (true_or_false (set i)) [
      | inl inside ↦ clash (list_any set (waits_for graph i)) (s i inside) (ap (list_any set) (free_is_past i h))
      | inr out ↦ out
    ];
    held = λ i h. clash (held_at unknown i) (off_where unknown [] i h).0 (never_held i);
    stacked = tt;
  }

pub at_first : (graph : List (List ℕ)) (states : List State) → states ≡ map (λ row. New) graph → IsSearched graph states []
at_first graph states e = subst (λ s. IsSearched graph s []) (sym e) (first_known graph)

-- a vector whose items were lent as a slice
pub given_back : (new items : List State) (n : ℕ) → length new ≡ n → length items ≡ n → take n (new ++ drop (length new) items) ≡ new
given_back new items n many was =
    let rest : drop (length new) items ≡ [] = drop_of_length-le items (omega arith) in
    ap (λ ds. take n (new ++ ds)) rest ∙ ap (take n) (append-nil new) ∙ take_all n new (omega arith)

-- one node more is known
pub one_known : (old new : List State) (n : ℕ) → IsKept old new → ((i : ℕ) → i < n → new_at old i ≡ false) → new_at new n ≡ false → (i : ℕ) → i < n + 1 → new_at new i ≡ false
one_known old new n kept before now = below_more _ _ (λ i l. kept i (before i l)) now

-- at the end something is known of each node, and those that are held are the greatest set that is stuck
marked_is : (states : List State) (i : ℕ) → marked (map is_held states) i ≡ held_at states i
marked_is [] i = refl
marked_is (s ∷ ss) zero = refl
marked_is (s ∷ ss) (suc i) = marked_is ss i

many_marks : (states : List State) → length (map is_held states) ≡ length states
many_marks [] = refl
many_marks (s ∷ ss) = ap suc (many_marks ss)

module _ (graph : List (List ℕ)) (states : List State) (k : IsSearched graph states []) (known : (i : ℕ) → i < length graph → new_at states i ≡ false) where
  never_new : (i : ℕ) → new_at states i ≡ false
  never_new i = elim (in_or_out i (length graph)) [
    | inl l ↦ known i l
    | inr l ↦ let many = k.sized in ap is_new (get_or_past states i Free (omega arith))
  ]

  same_marks : marked (map is_held states) ≡ held_at states
  same_marks = λ j. λ i. marked_is states i j

  held_exactly : (i : ℕ) → held_at states i ≡ list_any (held_at states) (waits_for graph i)
  held_exactly i = elim (true_or_false (held_at states i)) [
    | inl inside ↦ inside ∙ sym (any_more (held_off states []) (held_at states) (waits_for graph i) (λ x o. (off_where states [] x o).0) (k.held i (off_is states [] i inside refl)))
    | inr out ↦ elim (true_or_false (free_at states i)) [
      | inl free ↦ out ∙ sym (none_where_all (free_at states) (held_at states) (waits_for graph i) (λ x f. free_not_held (state_at states x) f) (k.free i free))
      | inr other ↦ clash (held_at states i) (held_or_free (state_at states i) (never_new i) other) out
    ]
  ]

  pub at_last : (marks : List Bool) → marks ≡ map is_held states → IsGreatestStuck graph marks
  at_last marks e = subst (IsGreatestStuck graph) (sym e) (record {
    sized = many_marks states ∙ k.sized;
    exact = λ i. marked_is states i ∙ held_exactly i ∙ ap (λ p. list_any p (waits_for graph i)) (sym same_marks);
    greatest = λ set s i inside. marked_is states i ∙ elim (true_or_false (free_at states i)) [
      | inl free ↦ clash (set i) inside (k.outside set s i free)
      | inr other ↦ held_or_free (state_at states i) (never_new i) other
    ];
  })
