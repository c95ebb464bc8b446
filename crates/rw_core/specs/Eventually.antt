-- What holds from some budget on. A budget bounds how far a meaning is followed; definitions with budgets stand beneath such words.
use Rattle.std.specs.Prelude.{◌≡◌, ℕ, ◌≤◌, Option, Some}
use Rattle.std.specs.Option.{IfSome}

-- P holds of each number from some one on
pub record Eventually (P : ℕ → Type 0) : Type 0 where
  pub from : ℕ
  pub holds : (n : ℕ) → from ≤ n → P n

-- within each budget from some one on, this is the result
abbrev pub Reaches : {A : Type 0} → (ℕ → Option A) → A → Type 0
Reaches within x = Eventually (λ n. within n ≡ Some x)

-- what the first gives, if anything, the second reaches
abbrev pub GrowsInTime : {A : Type 0} → Option A → (ℕ → Option A) → Type 0
GrowsInTime first within = IfSome first (Reaches within)
