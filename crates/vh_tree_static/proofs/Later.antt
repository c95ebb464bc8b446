-- Functions from the last one back: what is declared behind, and an item more.
use Rattle.std.proofs.Common.{◌≡◌, ℕ, zero, suc, ◌+◌, ◌<◌, true, false, not, List, [], ◌∷◌, map, drop, length, get_or, is_some, refl, sym, ap, ◌∙◌, true≢false}
use Rattle.std.specs.Prelude.{◌&&◌, ◌||◌}
use Rattle.vh_tree.specs.Bits.{Bytes, is_among, same_name}
use Rattle.vh_tree.specs.StaticRules.{all_use_earlier, function_uses_earlier, functions_of}
use Rattle.vh_tree.specs.declared.function.Function.{Function}
use Rattle.vh_tree.specs.declared.design.Item.{Item}
use Rattle.vh_tree.specs.declared.design.Item.TheVariants.{Signal, Function as Declared}
use Rattle.vh_tree_static.specs.Rules.{before_item, item_uses_earlier}
use Rattle.rw_base_tables.specs.Tables.{Known}
use Rattle.vh_tree_static.proofs.FromTheLast.{against, one_more, right}
use Rattle.vh_tree_static.proofs.Here.{cons_at}
use Rattle.rw_base_tables.proofs.Same.{swapped}

abbrev pub names : List Item → List Bytes
names items = map (λ (g : Function). g.name) (functions_of items)

-- the names with an item more
named : (item : Item) (items : List Item) (later : Known (Unit {0})) (x : Bytes) → is_some (later x) ≡ is_among x (names items) → is_some (before_item item later x) ≡ is_among x (names (item ∷ items))
named (Signal v) items later x h = h
named (Declared f) items later x h = one_more (same_name f.name x) tt (later x) ∙ ap (λ b. b || is_some (later x)) (swapped f.name x) ∙ ap (λ b. same_name x f.name || b) h

-- what the item uses
used : (item : Item) (items : List Item) (new : Known (Unit {0})) → ((x : Bytes) → is_some (new x) ≡ is_among x (names (item ∷ items))) → (item_uses_earlier new item && all_use_earlier (functions_of items)) ≡ all_use_earlier (functions_of (item ∷ items))
used (Signal v) items new h = refl
used (Declared f) items new h = λ i. function_uses_earlier (λ x. not (h x i)) f && all_use_earlier (functions_of items)

from_later : (n : ℕ) (items : List Item) → all_use_earlier (functions_of items) ≡ true → all_use_earlier (functions_of (drop n items)) ≡ true
from_later zero items h = h
from_later (suc n) [] h = refl
from_later (suc n) (Signal v ∷ items) h = from_later n items h
from_later (suc n) (Declared f ∷ items) h = from_later n items (right (function_uses_earlier (λ x. not (is_among x (names (Declared f ∷ items)))) f) (all_use_earlier (functions_of items)) h)

-- where it is broken from a place on, it is broken
pub broken_later : (n : ℕ) (items : List Item) → all_use_earlier (functions_of (drop n items)) ≡ false → all_use_earlier (functions_of items) ≡ false
broken_later n items h = against (all_use_earlier (functions_of items)) (λ e. true≢false (sym (from_later n items e) ∙ h))

module _ (items : List Item) (i j : ℕ) (item : Item) (next : j ≡ i + 1) (lt : i < length items) (is : item ≡ get_or items i item) where
  from_here : drop i items ≡ item ∷ drop j items
  from_here = cons_at items i item lt is ∙ ap (λ k. item ∷ drop k items) (sym next)

  pub sees : (old new : Known (Unit {0})) (x : Bytes) → new x ≡ before_item item old x → is_some (old x) ≡ is_among x (names (drop j items)) → is_some (new x) ≡ is_among x (names (drop i items))
  sees old new x n h = ap is_some n ∙ named item (drop j items) old x h ∙ ap (λ (s : List Item). is_among x (names s)) (sym from_here)

  pub judges : (new : Known (Unit {0})) → ((x : Bytes) → is_some (new x) ≡ is_among x (names (drop i items))) → (item_uses_earlier new item && all_use_earlier (functions_of (drop j items))) ≡ all_use_earlier (functions_of (drop i items))
  judges new h = used item (drop j items) new (λ x. h x ∙ ap (λ (s : List Item). is_among x (names s)) from_here) ∙ ap (λ (s : List Item). all_use_earlier (functions_of s)) (sym from_here)
