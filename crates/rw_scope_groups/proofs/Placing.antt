-- The bindings that are never placed are the greatest stuck set of the group's graph, in order.
use Rattle.std.proofs.Common.{◌≡◌, ◌⊎◌, inl, inr, ℕ, zero, suc, ◌+◌, ◌≤◌, Bool, true, false, ◌&&◌, ◌||◌, nat_eq, List, [], ◌∷◌, ◌++◌, map, flat_map, filter, length, slice_get, get_or, Option, Some, None, refl, sym, ap, subst, ◌∙◌, if◌then◌else◌, cond, arith, drop, append-nil, drop_of_length-le}
use Rattle.std.specs.List.{list_any}
use Rattle.std.proofs.lemmas.List.Folds.{list_any-append}
use Rattle.rw_scope_graph.specs.Waiting.{waits_for, IsStuck, marked, IsGreatestStuck}
use Rattle.rw_scope_rules.specs.declared.binding.Bound.{Bound}
use Rattle.rw_tree.specs.Trees.{LocalBinding}
use Rattle.rw_base.specs.declared.place.Place.{Place}
use Rattle.rw_scope_rules.specs.Groups.{own_numbers, mentioned_numbers, waits, placed_once, placed_times, never_placed, binding_place}
use Rattle.rw_scope_groups.specs.Rows.{owners_here, owners, owners_of, group_graph, selected}
use Rattle.rw_scope_graph.proofs.Passing.{true_or_false, clash, any_more}
use Rattle.rw_scope_rules.proofs.Basics.{In}
use Rattle.rw_scope_groups.proofs.Basics.{in_filter, filter_in, filter_all, in_at, any_flat, in_flat, flat_in}

abbrev Binding : Type 0
Binding = LocalBinding Bound

-- == The order of removal doesn't matter ==

-- who waits for some waits for more
waits_more : (some more : List Binding) (b : Binding) → ((c : Binding) → In c some → In c more) → waits some b ≡ true → waits more b ≡ true
waits_more some more b h e =
    any_more (λ k. list_any (nat_eq k) (flat_map own_numbers some)) (λ k. list_any (nat_eq k) (flat_map own_numbers more)) (mentioned_numbers b)
    (λ k w. let c = flat_in (nat_eq k) own_numbers some w in in_flat (nat_eq k) own_numbers more c.0 (h c.0 c.1) c.2) e

-- what is left stands in its list, and who passes a test that makes it wait is left
once_in : (left xs : List Binding) (c : Binding) → In c (placed_once left xs) → In c xs
once_in left [] c i = absurd i
once_in left (b ∷ bs) c i = elim (true_or_false (waits left b)) [
  | inl w ↦ elim (cut_ (ap (λ t. if t then b ∷ placed_once left bs else bs) w) i) [
    | inl s ↦ inl s
    | inr r ↦ inr (once_in left bs c r)
  ]
  | inr w ↦ inr (subst (In c) (ap (λ t. if t then b ∷ placed_once left bs else bs) w) i)
]
  where
    cut_ : placed_once left (b ∷ bs) ≡ b ∷ placed_once left bs → In c (placed_once left (b ∷ bs)) → In c (b ∷ placed_once left bs)
    cut_ e j = subst (In c) e j

once_keeps : (p : Binding → Bool) (left xs : List Binding) → ((b : Binding) → p b ≡ true → waits left b ≡ true) → filter p (placed_once left xs) ≡ filter p xs
once_keeps p left [] h = refl
once_keeps p left (b ∷ bs) h = elim (true_or_false (waits left b)) [
  | inl w ↦ ap (λ t. filter p (if t then b ∷ placed_once left bs else bs)) w ∙ ap (λ ys. cond (p b) (b ∷ ys) ys) (once_keeps p left bs h)
  | inr w ↦
      let out : p b ≡ false = elim (true_or_false (p b)) [ inl y ↦ clash (waits left b) (h b y) w | inr n ↦ n ] in
      let passed : filter p (b ∷ bs) ≡ filter p bs = ap (λ t. cond t (b ∷ filter p bs) (filter p bs)) out in
      ap (λ t. filter p (if t then b ∷ placed_once left bs else bs)) w ∙ sym passed
]

-- one is placed, or all wait
once_cases : (left xs : List Binding) → ((placed_once left xs ≡ xs) × ((c : Binding) → In c xs → waits left c ≡ true)) ⊎ (suc (length (placed_once left xs)) ≡ length xs)
once_cases left [] = inl (refl, λ c i. absurd i)
once_cases left (b ∷ bs) = elim (true_or_false (waits left b)) [
  | inl w ↦ elim (once_cases left bs) [
    | inl k ↦ inl (ap (λ t. if t then b ∷ placed_once left bs else bs) w ∙ ap (λ ys. b ∷ ys) k.0, λ c i. elim i [ inl s ↦ ap (waits left) s ∙ w | inr r ↦ k.1 c r ])
    | inr k ↦ inr (ap (λ t. suc (length (if t then b ∷ placed_once left bs else bs))) w ∙ ap suc k)
  ]
  | inr w ↦ inr (ap (λ t. suc (length (if t then b ∷ placed_once left bs else bs))) w)
]

stays : (n : ℕ) (left : List Binding) → placed_once left left ≡ left → placed_times n left ≡ left
stays zero left e = refl
stays (suc n) left e = ap (placed_times n) e ∙ stays n left e

-- in the end all that are left wait for one that is left
pub all_wait : (n : ℕ) (left : List Binding) → length left ≤ n → (c : Binding) → In c (placed_times n left) → waits (placed_times n left) c ≡ true
all_wait zero [] l c i = absurd i
all_wait zero (b ∷ bs) l c i = absurd (omega arith)
all_wait (suc n) left l c i = elim (once_cases left left) [
  | inl k ↦
      let same : placed_times (suc n) left ≡ left = stays (suc n) left k.0 in
      ap (λ ls. waits ls c) same ∙ k.1 c (subst (In c) same i)
  | inr k ↦ all_wait n (placed_once left left) (omega (arith, k, l)) c i
]

times_in : (n : ℕ) (left : List Binding) (c : Binding) → In c (placed_times n left) → In c left
times_in zero left c i = i
times_in (suc n) left c i = once_in left left c (times_in n (placed_once left left) c i)

-- those that wait for one another stay
times_keep : (n : ℕ) (stuck left : List Binding) → filter (waits stuck) left ≡ stuck → filter (waits stuck) (placed_times n left) ≡ stuck
times_keep zero stuck left e = e
times_keep (suc n) stuck left e =
    times_keep n stuck (placed_once left left)
    (once_keeps (waits stuck) left left (λ b w. waits_more stuck left b (λ c i. (filter_in (waits stuck) left c (subst (In c) (sym e) i)).0) w) ∙ e)

-- so what is never placed is the list whose bindings wait for it, if that has all that wait for one another
pub never_placed_is : (stuck bindings : List Binding) → filter (waits stuck) bindings ≡ stuck
    → ((left : List Binding) → ((c : Binding) → In c left → In c bindings × (waits left c ≡ true)) → (c : Binding) → In c bindings → waits left c ≡ true → waits stuck c ≡ true)
    → never_placed bindings ≡ stuck
never_placed_is stuck bindings e greatest =
    let n = length bindings in
    let left = placed_times n bindings in
    let wait : (c : Binding) → In c left → waits left c ≡ true = all_wait n bindings (omega arith) in
    let inside : (c : Binding) → In c left → In c bindings = times_in n bindings in
    sym (filter_all (waits stuck) left (λ c i. greatest left (λ d j. (inside d j, wait d j)) c (inside c i) (wait c i))) ∙ times_keep n stuck bindings e

-- == The graph ==

any_here : (m : ℕ → Bool) (k place : ℕ) (js : List ℕ) → list_any m (owners_here k place js) ≡ (list_any (nat_eq k) js && m place)
any_here m k place [] = refl
any_here m k place (j ∷ js) = by (nat_eq k j) (any_here m k place js)
  where
    by : (b : Bool) → list_any m (owners_here k place js) ≡ (list_any (nat_eq k) js && m place)
        → list_any m (if b then place ∷ owners_here k place js else owners_here k place js) ≡ ((b || list_any (nat_eq k) js) && m place)
    by false h = h
    by true h = ap (λ t. m place || t) h ∙ absorbed (m place) (list_any (nat_eq k) js)
      where
        absorbed : (a b : Bool) → (a || (b && a)) ≡ a
        absorbed true b = refl
        absorbed false true = refl
        absorbed false false = refl

pub any_owner : (m : ℕ → Bool) (k place : ℕ) (bs : List Binding) → list_any m (owners k place (map own_numbers bs)) ≡ list_any (nat_eq k) (flat_map own_numbers (selected m place bs))
any_owner m k place [] = refl
any_owner m k place (b ∷ bs) =
    list_any-append m (owners_here k place (own_numbers b)) (owners k (suc place) (map own_numbers bs))
    ∙ ap (λ t. t || list_any m (owners k (suc place) (map own_numbers bs))) (any_here m k place (own_numbers b))
    ∙ ap (λ t. (list_any (nat_eq k) (own_numbers b) && m place) || t) (any_owner m k (suc place) bs)
    ∙ by (m place)
  where
    by : (t : Bool) → ((list_any (nat_eq k) (own_numbers b) && t) || list_any (nat_eq k) (flat_map own_numbers (selected m (suc place) bs)))
        ≡ list_any (nat_eq k) (flat_map own_numbers (if t then b ∷ selected m (suc place) bs else selected m (suc place) bs))
    by true =
        ap (λ u. u || list_any (nat_eq k) (flat_map own_numbers (selected m (suc place) bs))) (and_true_ (list_any (nat_eq k) (own_numbers b)))
        ∙ sym (list_any-append (nat_eq k) (own_numbers b) (flat_map own_numbers (selected m (suc place) bs)))
      where
        and_true_ : (a : Bool) → (a && true) ≡ a
        and_true_ true = refl
        and_true_ false = refl
    by false = ap (λ u. u || list_any (nat_eq k) (flat_map own_numbers (selected m (suc place) bs))) (and_false_ (list_any (nat_eq k) (own_numbers b)))
      where
        and_false_ : (a : Bool) → (a && false) ≡ false
        and_false_ true = refl
        and_false_ false = refl

-- a binding waits for a marked one exactly where it waits for one of those that are marked
row_waits : (m : ℕ → Bool) (bs : List Binding) (b : Binding) → list_any m (owners_of (map own_numbers bs) (mentioned_numbers b)) ≡ waits (selected m 0 bs) b
row_waits m bs b =
    any_flat m (λ k. owners k 0 (map own_numbers bs)) (mentioned_numbers b) ∙ (λ i. list_any (λ k. any_owner m k 0 bs i) (mentioned_numbers b))

selected_is : (m : ℕ → Bool) (p : Binding → Bool) (place : ℕ) (bs : List Binding) → ((i : ℕ) (b : Binding) → slice_get bs i ≡ Some b → m (place + i) ≡ p b) → selected m place bs ≡ filter p bs
selected_is m p place [] h = refl
selected_is m p place (b ∷ bs) h =
    let here : m place ≡ p b = let z : place + 0 ≡ place = omega arith in ap m (sym z) ∙ h 0 b refl in
    ap (λ t. if t then b ∷ selected m (suc place) bs else selected m (suc place) bs) here
    ∙ ap (λ ys. cond (p b) (b ∷ ys) ys)
    (selected_is m p (suc place) bs (λ i c e. let z : suc place + i ≡ place + suc i = omega arith in ap m z ∙ h (suc i) c e))

row_at : (f : Binding → List ℕ) (bs : List Binding) (i : ℕ) (b : Binding) → slice_get bs i ≡ Some b → get_or (map f bs) i [] ≡ f b
row_at f [] i b e = absurd (cc)
row_at f (c ∷ cs) zero b e = let s : c ≡ b = cc in ap f s
row_at f (c ∷ cs) (suc i) b e = row_at f cs i b e

no_row : (f : Binding → List ℕ) (bs : List Binding) (i : ℕ) → slice_get bs i ≡ None → get_or (map f bs) i [] ≡ []
no_row f [] i e = refl
no_row f (c ∷ cs) zero e = absurd (cc)
no_row f (c ∷ cs) (suc i) e = no_row f cs i e

module _ (bindings : List Binding) (marks : List Bool) (k : IsGreatestStuck (group_graph bindings) marks) where
  abbrev pub stuck_ones : List Binding
  stuck_ones = selected (marked marks) 0 bindings

  abbrev row : Binding → List ℕ
  row b = owners_of (map own_numbers bindings) (mentioned_numbers b)

  mark_waits : (i : ℕ) (b : Binding) → slice_get bindings i ≡ Some b → marked marks i ≡ waits stuck_ones b
  mark_waits i b e = k.exact i ∙ ap (list_any (marked marks)) (row_at row bindings i b e) ∙ row_waits (marked marks) bindings b

  itself : filter (waits stuck_ones) bindings ≡ stuck_ones
  itself = sym (selected_is (marked marks) (waits stuck_ones) 0 bindings (λ i b e. let z : 0 + i ≡ i = omega arith in ap (marked marks) z ∙ mark_waits i b e))

  module _ (left : List Binding) (h : (c : Binding) → In c left → In c bindings × (waits left c ≡ true)) where
    abbrev passes : Option Binding → Bool
    passes None = false
    passes (Some b) = waits left b

    abbrev set : ℕ → Bool
    set i = passes (slice_get bindings i)

    chosen : selected set 0 bindings ≡ filter (waits left) bindings
    chosen = selected_is set (waits left) 0 bindings (λ i b e. let z : 0 + i ≡ i = omega arith in ap set z ∙ ap passes e)

    is_stuck : IsStuck (group_graph bindings) set
    is_stuck i e = by (slice_get bindings i) refl e
      where
        by : (o : Option Binding) → slice_get bindings i ≡ o → passes o ≡ true → list_any set (waits_for (group_graph bindings) i) ≡ true
        by None at p = absurd (cc)
        by (Some b) at p =
            ap (list_any set) (row_at row bindings i b at) ∙ row_waits set bindings b ∙ ap (λ ls. waits ls b) chosen
            ∙ waits_more left (filter (waits left) bindings) b (λ c j. in_filter (waits left) bindings c (h c j).0 (h c j).1) p

    within : (c : Binding) → In c bindings → waits left c ≡ true → waits stuck_ones c ≡ true
    within c i w =
        let at = in_at bindings c i in
        sym (mark_waits at.0 c at.1) ∙ k.greatest set is_stuck at.0 (ap passes at.1 ∙ w)

  pub marked_never_placed : never_placed bindings ≡ stuck_ones
  marked_never_placed = never_placed_is stuck_ones bindings itself within

-- == For the functions ==

pub waiting_is : (f : ℕ → List ℕ) (bindings : List Binding) → ((k : ℕ) → f k ≡ owners k 0 (map own_numbers bindings)) → map (λ b. flat_map f (mentioned_numbers b)) bindings ≡ group_graph bindings
waiting_is f bindings h = λ i. map (λ b. flat_map (λ k. h k i) (mentioned_numbers b)) bindings

pub group_done : {A : Type 0} (see : A → Binding) (items : List A) (graph : List (List ℕ)) (marks : List Bool) (i : ℕ) (now old : List Place) → graph ≡ group_graph (map see items) → IsGreatestStuck graph marks → length items ≤ i
    → now ++ map binding_place (selected (marked marks) i (map see (drop i items))) ≡ old ++ map binding_place (selected (marked marks) 0 (map see items))
    → now ≡ old ++ map binding_place (never_placed (map see items))
group_done see items graph marks i now old is k over h =
    sym (append-nil now) ∙ ap (λ ds. now ++ map binding_place (selected (marked marks) i (map see ds))) (sym (drop_of_length-le items over)) ∙ h
    ∙ ap (λ ls. old ++ map binding_place ls) (sym (marked_never_placed (map see items) marks (subst (λ g. IsGreatestStuck g marks) is k)))
