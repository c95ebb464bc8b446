-- The order of a let group: each binding after what it mentions, and nothing left over where the group is no cycle.
use Rattle.std.proofs.Common.{◌≡◌, ℕ, zero, suc, List, [], ◌∷◌, ◌++◌, map, flat_map, length, Bool, true, false, ◌||◌, if◌then◌else◌, nat_eq, Option, refl, ap, arith, subst, sym, ◌∙◌}
use Rattle.std.specs.List.{list_any}
use Rattle.std.proofs.lemmas.List.Folds.{list_any-append, flat_map-map}
use Rattle.std.proofs.lemmas.Bool.Decides.{nat_tests}
use Rattle.std.proofs.lemmas.Grind.{flat_map-append}
use Rattle.rw_base.specs.declared.place.Span.{Span}
use Rattle.rw_scope_rules.specs.declared.binding.Binding.{Binding}
use Rattle.rw_scope_rules.specs.declared.binding.Bound.{Bound}
use Rattle.rw_scope_rules.specs.Nodes.{Node, group_node, bindings_of, program_nodes}
use Rattle.rw_scope_rules.specs.Bindings.{bound_program}
use Rattle.rw_scope_rules.specs.Groups.{waits as waits_in_scope, placed_once, placed_times, never_placed, binding_place, cyclic_in_node, cyclic}
use Rattle.rw_tree.specs.Trees.{LocalBinding, LocalBindings}
use Rattle.rw_tree.specs.Declarations.{PlainProgram}
use Rattle.std.specs.List.Sorted.{IsPermutation}
use Rattle.rw_scope_orders.specs.Placing.{without_next, left_after}
use Rattle.rw_scope_orders.specs.Groups.{Numbered, numbered, own_numbers, mentioned_numbers, bind, mentions, waits, in_order, left_over}
use Rattle.rw_scope_orders.proofs.Placing.{earlier, placed_and_left}

same_number : (k j : ℕ) → nat_eq k j ≡ true → k ≡ j
same_number k j e = grind (arith, nat_tests)

by_test : (p : ℕ → Bool) (k j : ℕ) (ks : List ℕ) → (list_any (nat_eq k) ks ≡ true → list_any p ks ≡ false → p k ≡ false) → (same : Bool) → nat_eq k j ≡ same → (holds : Bool) → p j ≡ holds
    → (same || list_any (nat_eq k) ks) ≡ true → (holds || list_any p ks) ≡ false → p k ≡ false
by_test p k j ks ih true g true i h e = absurd (cc)
by_test p k j ks ih true g false i h e = let m : k ≡ j = same_number k j g in rw m i
by_test p k j ks ih false g true i h e = absurd (cc)
by_test p k j ks ih false g false i h e = ih h e

-- where none of these passes the test, a number among them does not
any_false : (p : ℕ → Bool) (k : ℕ) (ks : List ℕ) → list_any (nat_eq k) ks ≡ true → list_any p ks ≡ false → p k ≡ false
any_false p k [] h e = absurd (cc)
any_false p k (j ∷ ks) h e = by_test p k j ks (any_false p k ks) (nat_eq k j) refl (p j) refl h e

map_numbered : {A : Type 0} (n : ℕ) (bs : List (LocalBinding A)) → map (λ b. b.1) (numbered n bs) ≡ bs
map_numbered n [] = refl
map_numbered n (b ∷ bs) = ap (λ z. b ∷ z) (map_numbered (suc n) bs)

length-numbered : {A : Type 0} (n : ℕ) (bs : List (LocalBinding A)) → length (numbered n bs) ≡ length bs
length-numbered n [] = refl
length-numbered n (b ∷ bs) = ap suc (length-numbered (suc n) bs)

module _ {A : Type 0} (binding : A → Option Binding) where
  bind_more : (k : ℕ) (b : Numbered A) (bs : List (Numbered A)) → bind binding (b ∷ bs) k ≡ (list_any (nat_eq k) (own_numbers binding b.1) || bind binding bs k)
  bind_more k b bs = list_any-append (nat_eq k) (own_numbers binding b.1) (flat_map (λ c. own_numbers binding c.1) bs)

  -- a name of the group that a placed binding mentions is bound earlier
  pub mentioned_earlier : (group : List (LocalBinding A)) (first : List (Numbered A)) (b : Numbered A) (after : List (Numbered A)) → in_order binding group ≡ first ++ b ∷ after
      → (k : ℕ) → mentions binding b k ≡ true → bind binding (numbered 0 group) k ≡ true → bind binding first k ≡ true
  mentioned_earlier group first b after e k m h =
      earlier (waits binding) (λ c. list_any (nat_eq k) (own_numbers binding c.1)) (λ bs. bind binding bs k) refl (bind_more k) (length (numbered 0 group)) (numbered 0 group) first b after e
      (λ rest w. any_false (bind binding rest) k (mentioned_numbers binding b.1) m w) h

  -- what is placed and what is left over is the group
  pub order_is_whole : (group : List (LocalBinding A)) → IsPermutation (in_order binding group ++ left_over binding group) (numbered 0 group)
  order_is_whole group = placed_and_left (waits binding) (length (numbered 0 group)) (numbered 0 group)

-- == The rule on let groups ==

abbrev its_binding : Bound → Option Binding
its_binding a = a.bound

waits_same : (left : List (Numbered Bound)) (b : Numbered Bound) → waits its_binding left b ≡ waits_in_scope (map (λ c. c.1) left) b.1
waits_same left b = ap (λ ks. list_any (λ k. list_any (nat_eq k) ks) (mentioned_numbers its_binding b.1)) (sym (flat_map-map (own_numbers its_binding) (λ c. c.1) left))

map_test : (w : Bool) (b : Numbered Bound) (less bs : List (Numbered Bound)) (others : List (LocalBinding Bound)) → map (λ c. c.1) less ≡ others
    → map (λ c. c.1) (if w then b ∷ less else bs) ≡ (if w then b.1 ∷ others else map (λ c. c.1) bs)
map_test true b less bs others e = ap (λ z. b.1 ∷ z) e
map_test false b less bs others e = refl

without_same : (left bs : List (Numbered Bound)) → map (λ c. c.1) (without_next (waits its_binding) left bs) ≡ placed_once (map (λ c. c.1) left) (map (λ c. c.1) bs)
without_same left [] = refl
without_same left (b ∷ bs) =
    map_test (waits its_binding left b) b (without_next (waits its_binding) left bs) bs (placed_once (map (λ c. c.1) left) (map (λ c. c.1) bs)) (without_same left bs)
    ∙ ap (λ w. if w then b.1 ∷ placed_once (map (λ c. c.1) left) (map (λ c. c.1) bs) else map (λ c. c.1) bs) (waits_same left b)

left_same : (n : ℕ) (left : List (Numbered Bound)) → map (λ c. c.1) (left_after (waits its_binding) n left) ≡ placed_times n (map (λ c. c.1) left)
left_same zero left = refl
left_same (suc n) left = left_same n (without_next (waits its_binding) left left) ∙ ap (placed_times n) (without_same left left)

-- what is left over is what is never placed
pub map-left_over : (group : List (LocalBinding Bound)) → map (λ c. c.1) (left_over its_binding group) ≡ never_placed group
map-left_over group =
    left_same (length (numbered 0 group)) (numbered 0 group) ∙ (ap (λ n. placed_times n (map (λ c. c.1) (numbered 0 group))) (length-numbered 0 group) ∙ ap (placed_times (length group)) (map_numbered 0 group))

-- == Scoped programs ==

both_empty : {X : Type 0} (xs ys : List X) → xs ++ ys ≡ [] → (xs ≡ []) × (ys ≡ [])
both_empty [] ys e = (refl, e)
both_empty (x ∷ xs) ys e = absurd (cc)

map_empty : {X Y : Type 0} (f : X → Y) (xs : List X) → map f xs ≡ [] → xs ≡ []
map_empty f [] e = refl
map_empty f (x ∷ xs) e = absurd (cc)

-- a group of a program that keeps the rule has nothing left over
pub none_left_over : (program : PlainProgram Span) → cyclic program ≡ [] → (first : List (Node Bound)) (group : LocalBindings Bound) (after : List (Node Bound))
    → program_nodes (bound_program program) ≡ first ++ group_node group ∷ after → left_over its_binding (bindings_of group) ≡ []
none_left_over program e first group after h =
    let all : flat_map cyclic_in_node (first ++ group_node group ∷ after) ≡ [] = subst (λ z. flat_map cyclic_in_node z ≡ []) h e in
    let split : flat_map cyclic_in_node first ++ flat_map cyclic_in_node (group_node group ∷ after) ≡ [] = sym (flat_map-append cyclic_in_node first (group_node group ∷ after)) ∙ all in
    let rest = both_empty (flat_map cyclic_in_node first) (flat_map cyclic_in_node (group_node group ∷ after)) split in
    let here = both_empty (map binding_place (never_placed (bindings_of group))) (flat_map cyclic_in_node after) rest.1 in
    let never : never_placed (bindings_of group) ≡ [] = map_empty binding_place (never_placed (bindings_of group)) here.0 in
    map_empty (λ c. c.1) (left_over its_binding (bindings_of group)) (map-left_over (bindings_of group) ∙ never)
