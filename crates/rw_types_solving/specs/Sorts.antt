-- The sorts of types: a type, a monad or a layer. Each head fixes the sorts of its parts.
use Rattle.std.specs.Prelude.{◌≡◌, ℕ, zero, suc, Option, Some}
use Rattle.rw_types_solving.specs.declared.term.Head.{Head}
use Rattle.rw_types_solving.specs.declared.term.Head.TheVariants as h
use Rattle.rw_types_solving.specs.declared.term.Sort.{Sort}
use Rattle.rw_types_solving.specs.declared.term.Sort.TheVariants as s
use Rattle.rw_types_solving.specs.Types.{Ty, Tys, var, app, none, more}

-- what is known of heads with numbers: the sorts of the unknown types, and how many parts a data type has, where the number is that of one
pub record Heads : Type 0 where
  pub unknowns : ℕ → Sort
  pub arity : ℕ → Option ℕ

-- what a type of this head is
abbrev pub head_sort : Heads → Head → Sort
head_sort w h.I = s.Monad
head_sort w h.Layer = s.Monad
head_sort w h.StateT = s.Layer
head_sort w h.ReT = s.Layer
head_sort w (h.Unknown n) = w.unknowns n
head_sort w _ = s.Plain

-- what the part with this number is
abbrev pub part_sort : Head → ℕ → Sort
part_sort h.Comp zero = s.Monad
part_sort h.Layer zero = s.Layer
part_sort h.Layer (suc i) = s.Monad
part_sort _ i = s.Plain

-- how many parts there may be: a tuple has any number
abbrev pub Fits : Heads → Head → ℕ → Type 0
Fits w h.Fun n = n ≡ 2
Fits w (h.Data m) n = w.arity m ≡ Some n
Fits w h.Comp n = n ≡ 2
Fits w h.I n = n ≡ 0
Fits w h.Layer n = n ≡ 2
Fits w h.StateT n = n ≡ 1
Fits w h.ReT n = n ≡ 2
Fits w (h.Unknown m) n = n ≡ 0
Fits w _ n = Unit {0}

-- the type is of this sort, where v gives the sorts of the variables, and w says what is known of heads
abbrev mutual
  pub HasSort : (ℕ → Sort) → Heads → Sort → Ty → Type 0
  HasSort v w k (var x) = v x ≡ k
  HasSort v w k (app h ts) = (head_sort w h ≡ k) × HasSorts v w h 0 ts

  pub HasSorts : (ℕ → Sort) → Heads → Head → ℕ → Tys → Type 0
  HasSorts v w h i none = Fits w h i
  HasSorts v w h i (more t ts) = HasSort v w (part_sort h i) t × HasSorts v w h (suc i) ts
