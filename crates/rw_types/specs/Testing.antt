-- The sorts of types as tests: whether a type is of a sort.
use Rattle.std.specs.Prelude.{ℕ, suc, Bool, true, false, ◌&&◌, nat_eq, Option, Some, None}
use Rattle.rw_types_solving.specs.declared.term.Head.{Head}
use Rattle.rw_types_solving.specs.declared.term.Head.TheVariants as h
use Rattle.rw_types_solving.specs.declared.term.Sort.{Sort}
use Rattle.rw_types_solving.specs.declared.term.Sort.TheVariants as s
use Rattle.rw_types_solving.specs.Types.{Ty, Tys, var, app, none, more}
use Rattle.rw_types_solving.specs.Sorts.{Heads, head_sort, part_sort}

abbrev pub same_sort : Sort → Sort → Bool
same_sort s.Plain s.Plain = true
same_sort s.Monad s.Monad = true
same_sort s.Layer s.Layer = true
same_sort _ _ = false

-- whether there are so many
abbrev pub is_arity : Option ℕ → ℕ → Bool
is_arity None n = false
is_arity (Some m) n = nat_eq m n

-- whether there may be so many parts
abbrev pub fits : Heads → Head → ℕ → Bool
fits w (h.Data m) n = is_arity (w.arity m) n
fits w h.Fun n = nat_eq n 2
fits w h.Comp n = nat_eq n 2
fits w h.I n = nat_eq n 0
fits w h.Layer n = nat_eq n 2
fits w h.StateT n = nat_eq n 1
fits w h.ReT n = nat_eq n 2
fits w (h.Unknown m) n = nat_eq n 0
fits w _ n = true

abbrev mutual
  pub has_sort : (ℕ → Sort) → Heads → Sort → Ty → Bool
  has_sort v w k (var x) = same_sort (v x) k
  has_sort v w k (app h ts) = same_sort (head_sort w h) k && has_sorts v w h 0 ts

  pub has_sorts : (ℕ → Sort) → Heads → Head → ℕ → Tys → Bool
  has_sorts v w h i none = fits w h i
  has_sorts v w h i (more t ts) = has_sort v w (part_sort h i) t && has_sorts v w h (suc i) ts
