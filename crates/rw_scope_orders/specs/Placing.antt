-- Placing things one after the other, each once nothing that is left has to come before it.
use Rattle.std.specs.Prelude.{ℕ, zero, suc, List, [], ◌∷◌, length, Bool, Option, Some, None, if◌then◌else◌}

module _ {B : Type 0} (waits : List B → B → Bool) where
  -- the first of these that does not wait for what is left
  abbrev pub next : List B → List B → Option B
  next left [] = None
  next left (b ∷ bs) = if waits left b then next left bs else Some b

  -- these without it
  abbrev pub without_next : List B → List B → List B
  without_next left [] = []
  without_next left (b ∷ bs) = if waits left b then b ∷ without_next left bs else bs

  -- a thing, if there is one, before others
  abbrev pub before : Option B → List B → List B
  before None bs = []
  before (Some b) bs = b ∷ bs

  -- what is placed in so many steps, in order
  abbrev pub placed_in : ℕ → List B → List B
  placed_in zero left = []
  placed_in (suc n) left = before (next left left) (placed_in n (without_next left left))

  -- and what is left after them
  abbrev pub left_after : ℕ → List B → List B
  left_after zero left = left
  left_after (suc n) left = left_after n (without_next left left)

  -- all that is placed, in order
  abbrev pub placed : List B → List B
  placed bs = placed_in (length bs) bs

  -- what is never placed
  abbrev pub never : List B → List B
  never bs = left_after (length bs) bs
