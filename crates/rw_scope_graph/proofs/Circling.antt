-- What a search from a node knows after each step, and what it has found in the end.
use Rattle.std.proofs.Common.{◌≡◌, ◌⊎◌, inl, inr, ℕ, zero, suc, ◌+◌, ◌-◌, ◌<◌, ◌≤◌, Bool, true, false, not, nat_eq, List, [], ◌∷◌, ◌++◌, length, set, get_or, map, flat_map, refl, sym, ap, subst, ◌∙◌, arith, length-set, length-append, append_assoc}
use Rattle.std.specs.List.{list_any}
use Rattle.std.proofs.lemmas.List.{get_or_past}
use Rattle.std.proofs.lemmas.List.Folds.{list_any-append}
use Rattle.rw_scope_graph.specs.declared.search.State.{State}
use Rattle.rw_scope_graph.specs.declared.search.State.TheVariants.{New, Held, Free}
use Rattle.rw_scope_graph.specs.Waiting.{waits_for, IsStuck, marked, IsGreatestStuck}
use Rattle.rw_scope_graph.specs.Search.{is_new, is_held, is_free, state_at, new_at, held_at, free_at}
use Rattle.rw_scope_graph.specs.Circles.{ahead, is_circular, MarksCircles}
use Rattle.rw_scope_graph.specs.Meeting.{has, is_seen, held_count, IsMeeting, meeting_work}
use Rattle.rw_scope_graph.proofs.Passing.{true_or_false, is_same, same_is, same_or_other, in_or_out, or_left, or_right, either, clash, any_more, not_false, is_false}
use Rattle.rw_scope_graph.proofs.States.{new_within, there, elsewhere, free_or_held, less_work}

has_first : (i : ℕ) (xs : List ℕ) → has i (i ∷ xs) ≡ true
has_first i xs = or_left (nat_eq i i) (has i xs) (same_is i i refl)

has_left : (i : ℕ) (xs ys : List ℕ) → has i xs ≡ true → has i (xs ++ ys) ≡ true
has_left i xs ys h = list_any-append (nat_eq i) xs ys ∙ or_left (has i xs) (has i ys) h

has_right : (i : ℕ) (xs ys : List ℕ) → has i ys ≡ true → has i (xs ++ ys) ≡ true
has_right i xs ys h = list_any-append (nat_eq i) xs ys ∙ or_right (has i xs) (has i ys) h

has_parts : (i : ℕ) (xs ys : List ℕ) → has i (xs ++ ys) ≡ true → (has i xs ≡ true) ⊎ (has i ys ≡ true)
has_parts i xs ys h = either (has i xs) (has i ys) (sym (list_any-append (nat_eq i) xs ys) ∙ h)

module _ (graph : List (List ℕ)) where
  abbrev next : List ℕ → List ℕ
  next xs = flat_map (waits_for graph) xs

  has_next : (i j : ℕ) (xs : List ℕ) → has j xs ≡ true → has i (waits_for graph j) ≡ true → has i (next xs) ≡ true
  has_next i j [] h e = absurd (cc)
  has_next i j (x ∷ xs) h e = elim (either (nat_eq j x) (has j xs) h) [
    | inl s ↦ has_left i (waits_for graph x) (next xs) (ap (λ z. has i (waits_for graph z)) (sym (is_same j x s)) ∙ e)
    | inr r ↦ has_right i (waits_for graph x) (next xs) (has_next i j xs r e)
  ]

  -- what is ahead grows with the number of steps
  ahead_start : (n : ℕ) (i : ℕ) (xs : List ℕ) → has i xs ≡ true → has i (ahead graph n xs) ≡ true
  ahead_start zero i xs h = h
  ahead_start (suc n) i xs h = has_left i xs (ahead graph n (next xs)) h

  ahead_suc : (n : ℕ) (i : ℕ) (xs : List ℕ) → has i (ahead graph n xs) ≡ true → has i (ahead graph (suc n) xs) ≡ true
  ahead_suc zero i xs h = has_left i xs (next xs) h
  ahead_suc (suc n) i xs h = elim (has_parts i xs (ahead graph n (next xs)) h) [
    | inl l ↦ has_left i xs (ahead graph (suc n) (next xs)) l
    | inr r ↦ has_right i xs (ahead graph (suc n) (next xs)) (ahead_suc n i (next xs) r)
  ]

  ahead_more : (d n : ℕ) (i : ℕ) (xs : List ℕ) → has i (ahead graph n xs) ≡ true → has i (ahead graph (d + n) xs) ≡ true
  ahead_more zero n i xs h = let z : 0 + n ≡ n = omega arith in ap (λ k. has i (ahead graph k xs)) z ∙ h
  ahead_more (suc d) n i xs h =
      let z : suc d + n ≡ suc (d + n) = omega arith in
      ap (λ k. has i (ahead graph k xs)) z ∙ ahead_suc (d + n) i xs (ahead_more d n i xs h)

  ahead_within : (n m : ℕ) (i : ℕ) (xs : List ℕ) → n ≤ m → has i (ahead graph n xs) ≡ true → has i (ahead graph m xs) ≡ true
  ahead_within n m i xs l h = let z : m ≡ (m - n) + n = omega arith in ap (λ k. has i (ahead graph k xs)) z ∙ ahead_more (m - n) n i xs h

  ahead_step : (n : ℕ) (i j : ℕ) (xs : List ℕ) → has j (ahead graph n xs) ≡ true → has i (waits_for graph j) ≡ true → has i (ahead graph (suc n) xs) ≡ true
  ahead_step zero i j xs h e = has_right i xs (next xs) (has_next i j xs h e)
  ahead_step (suc n) i j xs h e = elim (has_parts j xs (ahead graph n (next xs)) h) [
    | inl l ↦ has_right i xs (ahead graph (suc n) (next xs)) (ahead_start (suc n) i (next xs) (has_next i j xs l e))
    | inr r ↦ has_right i xs (ahead graph (suc n) (next xs)) (ahead_step n i j (next xs) r e)
  ]

  -- what is ahead of several nodes is ahead of one of them
  next_append : (xs ys : List ℕ) → next (xs ++ ys) ≡ next xs ++ next ys
  next_append [] ys = refl
  next_append (x ∷ xs) ys = ap (λ zs. waits_for graph x ++ zs) (next_append xs ys) ∙ sym (append_assoc (waits_for graph x) (next xs) (next ys))

  ahead_parts : (n : ℕ) (i : ℕ) (xs ys : List ℕ) → has i (ahead graph n (xs ++ ys)) ≡ true → (has i (ahead graph n xs) ≡ true) ⊎ (has i (ahead graph n ys) ≡ true)
  ahead_parts zero i xs ys h = has_parts i xs ys h
  ahead_parts (suc n) i xs ys h = elim (has_parts i (xs ++ ys) (ahead graph n (next (xs ++ ys))) h) [
    | inl l ↦ elim (has_parts i xs ys l) [
      | inl a ↦ inl (has_left i xs (ahead graph n (next xs)) a)
      | inr b ↦ inr (has_left i ys (ahead graph n (next ys)) b)
    ]
    | inr r ↦ elim (ahead_parts n i (next xs) (next ys) (ap (λ zs. has i (ahead graph n zs)) (sym (next_append xs ys)) ∙ r)) [
      | inl a ↦ inl (has_right i xs (ahead graph n (next xs)) a)
      | inr b ↦ inr (has_right i ys (ahead graph n (next ys)) b)
    ]
  ]

  ahead_none : (n : ℕ) (i : ℕ) → has i (ahead graph n []) ≡ false
  ahead_none zero i = refl
  ahead_none (suc n) i = ahead_none n i

  -- so it is one of them, or is ahead of what one of them waits for
  ahead_one : (n : ℕ) (i : ℕ) (xs : List ℕ) → has i (ahead graph n (next xs)) ≡ true → (x : ℕ) × (has x xs ≡ true) × (has i (ahead graph n (waits_for graph x)) ≡ true)
  ahead_one n i [] h = clash (has i (ahead graph n [])) h (ahead_none n i)
  ahead_one n i (x ∷ xs) h = elim (ahead_parts n i (waits_for graph x) (next xs) h) [
    | inl a ↦ (x, has_first x xs, a)
    | inr b ↦ let k = ahead_one n i xs b in (k.0, or_right (nat_eq k.0 x) (has k.0 xs) k.1, k.2)
  ]

  -- a node on a circle is stuck
  module _ (i : ℕ) (circle : is_circular graph i ≡ true) where
    abbrev leads : ℕ → Bool
    leads j = has i (ahead graph (length graph) (waits_for graph j))

    any_has : (p : ℕ → Bool) (x : ℕ) (xs : List ℕ) → has x xs ≡ true → p x ≡ true → list_any p xs ≡ true
    any_has p x xs h e = any_more (nat_eq x) p xs (λ y s. ap p (sym (is_same x y s)) ∙ e) h

    leads_on : (n : ℕ) (xs : List ℕ) → n ≤ length graph → has i (ahead graph n xs) ≡ true → list_any leads xs ≡ true
    leads_on zero xs l h = any_has leads i xs h circle
    leads_on (suc n) xs l h = elim (has_parts i xs (ahead graph n (next xs)) h) [
      | inl a ↦ any_has leads i xs a circle
      | inr b ↦ let k = ahead_one n i xs b in any_has leads k.0 xs k.1 (ahead_within n (length graph) i (waits_for graph k.0) (omega arith) k.2)
    ]

    leads_stuck : IsStuck graph leads
    leads_stuck j e = leads_on (length graph) (waits_for graph j) (omega arith) e

  pub free_not_circular : (marks : List Bool) → IsGreatestStuck graph marks → (i : ℕ) → marked marks i ≡ false → is_circular graph i ≡ false
  free_not_circular marks k i free = elim (true_or_false (is_circular graph i)) [
    | inl c ↦ clash (marked marks i) (k.greatest (leads i c) (leads_stuck i c) i c) free
    | inr n ↦ n
  ]

-- == The search from one node ==

few_held : (states : List State) → held_count states ≤ length states
few_held [] = omega arith
few_held (New ∷ ss) = let h = few_held ss in omega (arith, h)
few_held (Held ∷ ss) = let h = few_held ss in omega (arith, h)
few_held (Free ∷ ss) = let h = few_held ss in omega (arith, h)

one_held : (states : List State) (j : ℕ) → new_at states j ≡ true → held_count (set states j Held) ≡ suc (held_count states)
one_held [] j h = absurd (cc)
one_held (New ∷ ss) zero h = omega arith
one_held (Held ∷ ss) zero h = absurd (cc)
one_held (Free ∷ ss) zero h = absurd (cc)
one_held (s ∷ ss) (suc j) h = let r = one_held ss j h in omega (arith, r)

module _ (graph : List (List ℕ)) (node : ℕ) where
  -- at the beginning
  none_held : (rows : List (List ℕ)) → held_count (map (λ row. New) rows) ≡ 0
  none_held [] = refl
  none_held (r ∷ rs) = let h = none_held rs in omega (arith, h)

  never_held : (rows : List (List ℕ)) (i : ℕ) → held_at (map (λ row. New) rows) i ≡ false
  never_held [] i = refl
  never_held (r ∷ rs) zero = refl
  never_held (r ∷ rs) (suc i) = never_held rs i

  new_there : (rows : List (List ℕ)) (i : ℕ) → i < length rows → new_at (map (λ row. New) rows) i ≡ true
  new_there [] i l = absurd (omega arith)
  new_there (r ∷ rs) zero l = refl
  new_there (r ∷ rs) (suc i) l = new_there rs i (omega arith)

  free_past : (rows : List (List ℕ)) (i : ℕ) → free_at (map (λ row. New) rows) i ≡ true → length rows ≤ i
  free_past [] i h = omega arith
  free_past (r ∷ rs) zero h = absurd (cc)
  free_past (r ∷ rs) (suc i) h = let l = free_past rs i h in omega (arith, l)

  many : (rows : List (List ℕ)) → length (map (λ row. New) rows) ≡ length rows
  many [] = refl
  many (r ∷ rs) = ap suc (many rs)

  pub meeting_first : (states : List State) (left : List ℕ) → node < length graph → states ≡ map (λ row. New) graph → left ≡ waits_for graph node → IsMeeting graph node states left
  meeting_first states left l e f = subst (λ ss. IsMeeting graph node ss left) (sym e) (record {
    sized = many graph;
    apart = new_there graph node l;
    start = λ j h. or_right (not (new_at (map (λ row. New) graph) j)) (has j left) (ap (has j) f ∙ h);
    met = λ i j h g. clash (held_at (map (λ row. New) graph) i) h (never_held graph i);
    near = λ i h. ap (λ n. has i (ahead graph n (waits_for graph node))) (none_held graph) ∙ ap (has i) (sym f) ∙ h;
    none_free = λ i h. free_past graph i h;
  })

  -- one that was met, or is no node, is left no more
  module _ (states : List State) (left : List ℕ) (j : ℕ) (k : IsMeeting graph node states (left ++ j ∷ [])) where
    pub met_again : new_at states j ≡ false → IsMeeting graph node states left
    met_again known = record {
      sized = k.sized;
      apart = k.apart;
      start = λ i h. still i (k.start i h);
      met = λ i l h g. still l (k.met i l h g);
      near = λ i h. k.near i (has_left i left (j ∷ []) h);
      none_free = k.none_free;
    }
      where
        still : (i : ℕ) → is_seen states (left ++ j ∷ []) i ≡ true → is_seen states left i ≡ true
        still i h = elim (either (not (new_at states i)) (has i (left ++ j ∷ [])) h) [
          | inl n ↦ or_left (not (new_at states i)) (has i left) n
          | inr e ↦ elim (has_parts i left (j ∷ []) e) [
            | inl a ↦ or_right (not (new_at states i)) (has i left) a
            | inr b ↦ elim (either (nat_eq i j) false b) [
              | inl s ↦ or_left (not (new_at states i)) (has i left) (not_false (new_at states i) (ap (new_at states) (is_same i j s) ∙ known))
              | inr n ↦ absurd (cc)
            ]
          ]
        ]

    pub again_less : meeting_work graph states left < meeting_work graph states (left ++ j ∷ [])
    again_less = let m = length-append left (j ∷ []) in omega (arith, m)

    -- one that is met for the first time
    module _ (other : j ≡ node → ⊥) (new : new_at states j ≡ true) where
      abbrev met_now : List State
      met_now = set states j Held

      abbrev more : List ℕ
      more = left ++ waits_for graph j

      within : j < length states
      within = new_within states j new

      known_here : new_at met_now j ≡ false
      known_here = ap is_new (there states j Held within)

      seen_now : (i : ℕ) → new_at states i ≡ false → new_at met_now i ≡ false
      seen_now i h = elim (same_or_other i j) [
        | inl e ↦ ap (new_at met_now) e ∙ known_here
        | inr ne ↦ ap is_new (elsewhere states j i Held ne) ∙ h
      ]

      still_seen : (i : ℕ) → is_seen states (left ++ j ∷ []) i ≡ true → is_seen met_now more i ≡ true
      still_seen i h = elim (either (not (new_at states i)) (has i (left ++ j ∷ [])) h) [
        | inl n ↦ or_left (not (new_at met_now i)) (has i more) (not_false (new_at met_now i) (seen_now i (is_false (new_at states i) n)))
        | inr e ↦ elim (has_parts i left (j ∷ []) e) [
          | inl a ↦ or_right (not (new_at met_now i)) (has i more) (has_left i left (waits_for graph j) a)
          | inr b ↦ elim (either (nat_eq i j) false b) [
            | inl s ↦ or_left (not (new_at met_now i)) (has i more) (not_false (new_at met_now i) (ap (new_at met_now) (is_same i j s) ∙ known_here))
            | inr n ↦ absurd (cc)
          ]
        ]
      ]

      near_here : has j (ahead graph (held_count states) (waits_for graph node)) ≡ true
      near_here = k.near j (has_right j left (j ∷ []) (has_first j []))

      pub met_first : IsMeeting graph node met_now more
      met_first = record {
        sized = length-set states j Held ∙ k.sized;
        apart = ap is_new (elsewhere states j node Held (λ e. other (sym e))) ∙ k.apart;
        start = λ i h. still_seen i (k.start i h);
        met = λ i l h g. elim (same_or_other i j) [
          | inl e ↦ or_right (not (new_at met_now l)) (has l more) (has_right l left (waits_for graph j) (ap (λ z. has l (waits_for graph z)) (sym e) ∙ g))
          | inr ne ↦ still_seen l (k.met i l (ap is_held (sym (elsewhere states j i Held ne)) ∙ h) g)
        ];
        near = λ i h. ap (λ n. has i (ahead graph n (waits_for graph node))) (one_held states j new) ∙ elim (has_parts i left (waits_for graph j) h) [
          | inl a ↦ ahead_suc graph (held_count states) i (waits_for graph node) (k.near i (has_left i left (j ∷ []) a))
          | inr b ↦ ahead_step graph (held_count states) i j (waits_for graph node) near_here b
        ];
        none_free = λ i h. elim (same_or_other i j) [
          | inl e ↦ clash (free_at met_now i) h (ap (free_at met_now) e ∙ ap is_free (there states j Held within))
          | inr ne ↦ k.none_free i (ap is_free (sym (elsewhere states j i Held ne)) ∙ h)
        ];
      }

      pub first_less : meeting_work graph met_now more < meeting_work graph states (left ++ j ∷ [])
      first_less =
          let w = less_work graph states j Held k.sized new refl in
          let m = length-append left (j ∷ []) in
          let n = length-append left (waits_for graph j) in
          omega (arith, w, m, n)

  -- it came back
  pub came_back : (states : List State) (left : List ℕ) (j : ℕ) → IsMeeting graph node states (left ++ j ∷ []) → j ≡ node → true ≡ is_circular graph node
  came_back states left j k e =
      let few = few_held states in
      let sized = k.sized in
      sym (ahead_within graph (held_count states) (length graph) node (waits_for graph node) (omega arith)
      (k.near node (has_right node left (j ∷ []) (ap (λ z. has node (z ∷ [])) e ∙ has_first node []))))

  -- nothing is left
  module _ (states : List State) (k : IsMeeting graph node states []) where
    seen_only : (i : ℕ) → is_seen states [] i ≡ true → new_at states i ≡ false
    seen_only i h = elim (either (not (new_at states i)) false h) [
      | inl n ↦ is_false (new_at states i) n
      | inr f ↦ absurd (cc)
    ]

    waits_seen : (x i : ℕ) → new_at states x ≡ false → has i (waits_for graph x) ≡ true → new_at states i ≡ false
    waits_seen x i n h = elim (true_or_false (held_at states x)) [
      | inl held ↦ seen_only i (k.met x i held h)
      | inr free ↦ clash (has i (waits_for graph x)) h (ap (has i) (get_or_past graph x [] (k.none_free x (free_or_held (state_at states x) n free))))
    ]

    all_seen : (n : ℕ) (xs : List ℕ) → ((i : ℕ) → has i xs ≡ true → new_at states i ≡ false) → (i : ℕ) → has i (ahead graph n xs) ≡ true → new_at states i ≡ false
    all_seen zero xs seen i h = seen i h
    all_seen (suc n) xs seen i h = elim (has_parts i xs (ahead graph n (flat_map (waits_for graph) xs)) h) [
      | inl l ↦ seen i l
      | inr r ↦ all_seen n (flat_map (waits_for graph) xs) (λ j g. let one = ahead_one graph 0 j xs g in waits_seen one.0 j (seen one.0 one.1) one.2) i r
    ]

    pub never_back : false ≡ is_circular graph node
    never_back = elim (true_or_false (is_circular graph node)) [
      | inl c ↦ clash (new_at states node) k.apart (all_seen (length graph) (waits_for graph node) (λ j g. seen_only j (k.start j g)) node c)
      | inr n ↦ sym n
    ]

-- all nodes are judged
pub all_judged : (graph : List (List ℕ)) (marks : List Bool) (n : ℕ) → length marks ≡ n → n ≡ length graph → ((i : ℕ) → i < n → marked marks i ≡ is_circular graph i) → MarksCircles graph marks
all_judged graph marks n sized all h = record {
  sized = sized ∙ all;
  exact = λ i. elim (in_or_out i n) [
    | inl l ↦ h i l
    | inr l ↦ get_or_past marks i false (omega arith)
        ∙ sym (ap (λ xs. has i (ahead graph (length graph) xs)) (get_or_past graph i [] (omega arith)) ∙ ahead_none graph (length graph) i)
  ];
}

-- a row that was read
pub row_read : (graph : List (List ℕ)) (i : ℕ) (row : List ℕ) → i < length graph → row ≡ get_or graph i row → row ≡ waits_for graph i
row_read [] i row l e = absurd (omega arith)
row_read (r ∷ rs) zero row l e = e
row_read (r ∷ rs) (suc i) row l e = row_read rs i row (omega arith) e

pub no_items : (xs : List ℕ) → length xs ≡ 0 → xs ≡ []
no_items [] e = refl
no_items (x ∷ xs) e = absurd (omega arith)
