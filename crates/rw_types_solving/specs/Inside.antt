-- What functions inside promise each other: sizes, the first difference of two types, and what a type comes to.
use Rattle.std.specs.Prelude.{◌≡◌, ◌<◌, Option, Some, None, List, [], ◌∷◌, map, ℕ, suc, ◌+◌, ◌-◌, ◌^◌, min, cond, nat_eq, nat_lt}
use Rattle.rw_types_solving.specs.declared.differ.Found.{Found}
use Rattle.rw_types_solving.specs.declared.differ.Found.TheVariants as f
use Rattle.rw_types_solving.specs.declared.resolve.End.{End}
use Rattle.rw_types_solving.specs.declared.resolve.End.TheVariants as e
use Rattle.rw_types_solving.specs.Types.{Ty, Tys, var, app, none, more, tys, plain, plains, apply, apply_in, same_head}
use Rattle.rw_types_solving.specs.Tables.{Follows}

-- the largest number of 64 bits, where there are more
abbrev pub capped : ℕ → ℕ
capped n = min n (2 ^ 64 - 1)

-- every head and every variable counts
abbrev mutual
  pub size : Ty → ℕ
  size (var x) = 1
  size (app h ts) = suc (size_in ts)

  pub size_in : Tys → ℕ
  size_in none = 0
  size_in (more t ts) = size t + size_in ts

-- what keeps two types apart: nothing, heads that differ, or a variable that must be that type
pub data Difference : Type 0 where
  Same : Difference
  Clash : Difference
  At : ℕ → Ty → Difference

abbrev pub or_else : Difference → Difference → Difference
or_else Same e = e
or_else Clash e = Clash
or_else (At x t) e = At x t

-- the first difference; of two variables the higher must be the lower
abbrev mutual
  pub difference : Ty → Ty → Difference
  difference (var x) (var y) = cond (nat_eq x y) Same (cond (nat_lt y x) (At x (var y)) (At y (var x)))
  difference (var x) (app k us) = At x (app k us)
  difference (app h ts) (var y) = At y (app h ts)
  difference (app h ts) (app k us) = cond (same_head h k) (differences ts us) Clash

  pub differences : Tys → Tys → Difference
  differences none none = Same
  differences none (more u us) = Clash
  differences (more t ts) none = Clash
  differences (more t ts) (more u us) = or_else (difference t u) (differences ts us)

abbrev pub shown : Found → Difference
shown f.Same = Same
shown f.Clash = Clash
shown (f.At x t) = At x (plain t.now)

-- what the end of a variable's links is under a substitution; an open variable stands for itself
abbrev pub image : (ℕ → Ty) → End → Ty
image s (e.Open y) = var y
image s (e.Known h ts) = apply s (app h (tys (plains ts.now)))

-- r is what a comes to under the table
abbrev pub ComesTo : List (Option Ty) → Ty → Ty → Type 0
ComesTo table a r = (s : ℕ → Ty) → Follows table s → r ≡ apply s a

abbrev pub ComeTo : List (Option Ty) → List Ty → List Ty → Type 0
ComeTo table many rs = (s : ℕ → Ty) → Follows table s → rs ≡ map (apply s) many

-- what a comes to under the table has more than n heads and variables
abbrev pub IsLarger : List (Option Ty) → ℕ → Ty → Type 0
IsLarger table n a = (s : ℕ → Ty) → Follows table s → n < size (apply s a)

abbrev pub AreLarger : List (Option Ty) → ℕ → Tys → Type 0
AreLarger table n many = (s : ℕ → Ty) → Follows table s → n < size_in (apply_in s many)

-- how many variables have no equation
abbrev pub opens : List (Option Ty) → ℕ
opens [] = 0
opens (None ∷ es) = suc (opens es)
opens (Some t ∷ es) = opens es
