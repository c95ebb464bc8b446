-- The types that typing speaks of, in words: functions, computations and their monads, data types and tuples.
use Rattle.std.specs.Prelude.{ℕ, suc, List, [], ◌∷◌}
use Rattle.rw_types_solving.specs.declared.term.Head.TheVariants as h
use Rattle.rw_types_solving.specs.Types.{Ty, var, app, none, more, tys}

-- a function of one argument
abbrev pub function : Ty → Ty → Ty
function from to = app h.Fun (more from (more to none))

-- a function of these arguments, one after the other
abbrev pub functions : List Ty → Ty → Ty
functions [] to = to
functions (from ∷ rest) to = function from (functions rest to)

abbrev pub tuple_type : List Ty → Ty
tuple_type parts = app h.Tuple (tys parts)

abbrev pub unit_type : Ty
unit_type = tuple_type []

-- a data type, by the number of its declaration
abbrev pub data_type : ℕ → List Ty → Ty
data_type n arguments = app (h.Data n) (tys arguments)

-- a computation of this monad with such a result
abbrev pub computation : Ty → Ty → Ty
computation monad made = app h.Comp (more monad (more made none))

-- the monad `I`
abbrev pub identity : Ty
identity = app h.I none

-- a layer over a monad
abbrev pub over : Ty → Ty → Ty
over layer monad = app h.Layer (more layer (more monad none))

-- the layers `StateT s` and `ReT i o`
abbrev pub state_layer : Ty → Ty
state_layer s = app h.StateT (more s none)

abbrev pub device_layer : Ty → Ty → Ty
device_layer i o = app h.ReT (more i (more o none))

-- the monads `StateT s m` and `ReT i o m`
abbrev pub state : Ty → Ty → Ty
state s m = over (state_layer s) m

abbrev pub device : Ty → Ty → Ty → Ty
device i o m = over (device_layer i o) m

-- an unknown type, by the number of the variable that it stands for
abbrev pub unknown : ℕ → Ty
unknown k = app (h.Unknown k) none

-- variables from this number on, one for each of a list
abbrev pub variables_from : {A : Type 0} → ℕ → List A → List Ty
variables_from n [] = []
variables_from n (x ∷ xs) = var n ∷ variables_from (suc n) xs
