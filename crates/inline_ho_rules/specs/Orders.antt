-- The order of a closed type: 0 of data, 1 of functions and computations over data, 2 of functions with arguments of order 1.
use Rattle.std.specs.Prelude.{ℕ, Bool, true, false, ◌&&◌, not, List, [], ◌∷◌, if◌then◌else◌}
use Rattle.std.specs.List.{list_all}
use Rattle.rw_types_solving.specs.declared.term.Head.TheVariants as h
use Rattle.rw_types_solving.specs.Types.{Ty, app, Tys, none, more}

-- a data type: a declared type, a tuple or the unit, over data types
abbrev mutual
  pub is_data : Ty → Bool
  is_data (app (h.Data n) ts) = are_data ts
  is_data (app h.Tuple ts) = are_data ts
  is_data _ = false

  pub are_data : Tys → Bool
  are_data none = true
  are_data (more t ts) = is_data t && are_data ts

-- the arguments of a type, one after the other, and what is left behind the last arrow
abbrev pub parameters_of : Ty → List Ty
parameters_of (app h.Fun (more from (more to none))) = from ∷ parameters_of to
parameters_of _ = []

abbrev pub result_of : Ty → Ty
result_of (app h.Fun (more from (more to none))) = result_of to
result_of t = t

-- data, or a computation of data
abbrev pub is_result : Ty → Bool
is_result (app h.Comp (more m (more a none))) = is_data a
is_result t = is_data t

-- its order is at most 1: it takes data alone, and gives data or a computation of data
abbrev pub is_low : Ty → Bool
is_low t = list_all is_data (parameters_of t) && is_result (result_of t)

abbrev pub order : Ty → ℕ
order t =
    if is_data t then 0
    else (if is_low t then 1
    else (if list_all is_low (parameters_of t) && not (list_all is_data (parameters_of t)) then 2 else 3))
