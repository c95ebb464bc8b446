-- State monads: `I`, and a layer `StateT s` over a state monad. That a variable stands for one is a condition on solutions.
use Rattle.std.specs.Prelude.{ℕ, Bool, true, false, cond, ◌&&◌, nat_eq, List, [], ◌∷◌, get_or}
use Rattle.rw_types_solving.specs.declared.term.Head.{Head}
use Rattle.rw_types_solving.specs.declared.term.Head.TheVariants as h
use Rattle.rw_types_solving.specs.Types.{Ty, Tys, var, app, none, more, parts}

-- whether the type is a layer `StateT s`; v tells which variables stand for one
abbrev pub is_state_layer : (ℕ → Bool) → Ty → Bool
is_state_layer v (var x) = v x
is_state_layer v (app h.StateT ts) = true
is_state_layer v _ = false

-- whether a state monad may have this head, with so many parts; u tells which unknown monads are state monads
abbrev pub is_state_head : (ℕ → Bool) → Head → ℕ → Bool
is_state_head u h.I n = nat_eq n 0
is_state_head u (h.Unknown m) n = u m && nat_eq n 0
is_state_head u h.Layer n = nat_eq n 2
is_state_head u _ n = false

-- whether the type is a state monad; v tells which variables stand for one, or for a layer `StateT s`
abbrev mutual
  pub is_state_monad : (ℕ → Bool) → (ℕ → Bool) → Ty → Bool
  is_state_monad v u (var x) = v x
  is_state_monad v u (app h ts) = is_state_head u h (parts ts) && are_stacked v u true ts

  -- the first part is the layer, the other one the monad under it
  pub are_stacked : (ℕ → Bool) → (ℕ → Bool) → Bool → Tys → Bool
  are_stacked v u first none = true
  are_stacked v u first (more t ts) = cond first (is_state_layer v t) (is_state_monad v u t) && are_stacked v u false ts

-- whether each listed variable gets a state monad
abbrev pub hold : (ℕ → Bool) → (ℕ → Bool) → (ℕ → Ty) → List ℕ → Bool
hold v u t [] = true
hold v u t (x ∷ xs) = is_state_monad v u (t x) && hold v u t xs

-- every variable may stand for one
abbrev pub any : ℕ → Bool
any x = true

abbrev pub no_one : ℕ → Bool
no_one x = false

-- the unknown monads that the list says to be state monads
abbrev pub listed : List Bool → ℕ → Bool
listed states n = get_or states n false
