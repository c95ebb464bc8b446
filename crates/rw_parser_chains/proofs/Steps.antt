-- The two kinds of node, and one step of what waits, for the code.
use Rattle.std.proofs.Common.{◌≡◌, ◌∙◌, ℕ, true, false, List, [], ◌∷◌, ◌++◌, reverse, Option, Some, None, refl, ap, codes, arith, take, ◌+◌, ◌-◌, MatchOption, option_to_list, append-nil}
use Rattle.std.proofs.lemmas.Grind.{common_steps}
use Rattle.std.specs.Str.{bytes_eq}
use Rattle.rw_parser_grammar.specs.Chains.{Strength, operator_name, groups_left, groups_right}
use Rattle.rw_parser_chains.specs.Grouping.{Counted, Waiting, applied_node, called_node, operated, strength_of, settled, closed}

-- what was pushed last stands first in the reverse
pub last_first : (ws : List Waiting) (w : Waiting) → reverse (ws ++ w ∷ []) ≡ w ∷ reverse ws
last_first ws w = grind (arith, common_steps)

-- where nothing was popped there was nothing
pub emptied : (before after : List Waiting) (popped : Option Waiting) (n m : ℕ) → popped ≡ None → before ≡ after ++ option_to_list popped → MatchOption popped ((n ≡ 0) × (m ≡ 0)) (λ _. m + 1 ≡ n)
    → after ≡ take (n - 1) before → (before ≡ []) × (after ≡ [])
emptied before after None n m is all cases rest =
    let gone : after ≡ [] = rest ∙ ap (λ z. take (z - 1) before) cases.0 in
    (all ∙ append-nil after ∙ gone, gone)
emptied before after (Some w) n m is all cases rest = absurd (cc)

pub applied_is : (o a b : Counted) → bytes_eq (operator_name o.0) (codes "$") ≡ true → operated o a b ≡ applied_node a b
unfolding operated applied_node
applied_is o a b h = rw h refl

pub called_is : (o a b : Counted) → bytes_eq (operator_name o.0) (codes "$") ≡ false → operated o a b ≡ called_node o a b
unfolding operated called_node
called_is o a b h = rw h refl

pub closed_none : (b : Counted) → closed [] b ≡ Some b
unfolding closed
closed_none b = refl

pub closed_step : (w : Waiting) (ws : List Waiting) (b c : Counted) → operated w.1 w.0 b ≡ Some c → closed (w ∷ ws) b ≡ closed ws c
unfolding closed
closed_step w ws b c e = rw e refl

pub closed_fail : (w : Waiting) (ws : List Waiting) (b : Counted) → operated w.1 w.0 b ≡ None → closed (w ∷ ws) b ≡ None
unfolding closed
closed_fail w ws b e = rw e refl

module _ (strength : List ℕ → Strength) where
  pub settled_none : (next b : Counted) → settled strength next [] b ≡ Some ([], b)
  unfolding settled
  settled_none next b = refl

  pub settled_step : (next : Counted) (w : Waiting) (ws : List Waiting) (b c : Counted) → groups_left (strength_of strength w.1) (strength_of strength next) ≡ true → operated w.1 w.0 b ≡ Some c
      → settled strength next (w ∷ ws) b ≡ settled strength next ws c
  unfolding settled
  settled_step next w ws b c h e = rw (h, e) refl

  pub settled_fail : (next : Counted) (w : Waiting) (ws : List Waiting) (b : Counted) → groups_left (strength_of strength w.1) (strength_of strength next) ≡ true → operated w.1 w.0 b ≡ None
      → settled strength next (w ∷ ws) b ≡ None
  unfolding settled
  settled_fail next w ws b h e = rw (h, e) refl

  pub settled_stays : (next : Counted) (w : Waiting) (ws : List Waiting) (b : Counted) → groups_left (strength_of strength w.1) (strength_of strength next) ≡ false
      → groups_right (strength_of strength next) (strength_of strength w.1) ≡ true → settled strength next (w ∷ ws) b ≡ Some (w ∷ ws, b)
  unfolding settled
  settled_stays next w ws b h k = rw (h, k) refl

  pub settled_breaks : (next : Counted) (w : Waiting) (ws : List Waiting) (b : Counted) → groups_left (strength_of strength w.1) (strength_of strength next) ≡ false
      → groups_right (strength_of strength next) (strength_of strength w.1) ≡ false → settled strength next (w ∷ ws) b ≡ None
  unfolding settled
  settled_breaks next w ws b h k = rw (h, k) refl
