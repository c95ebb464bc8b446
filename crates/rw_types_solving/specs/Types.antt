-- Types with variables as plain data, their nodes, and substitution: a type expression of the Haskell 2010 Report,
-- section 4.1.2, where monads and their layers are types too.
use Rattle.std.specs.Prelude.{max, ◌≡◌, ℕ, suc, ◌+◌, Bool, true, false, cond, ◌&&◌, ◌||◌, nat_eq, List, [], ◌∷◌, map, get_or}
use Rattle.rw_types_solving.specs.declared.term.Head.{Head}
use Rattle.rw_types_solving.specs.declared.term.Head.TheVariants as h
use Rattle.rw_types_solving.specs.declared.term.Term.{Term, fold-Term}
use Rattle.rw_types_solving.specs.declared.term.Term.TheOpen.{Term-F}

-- a variable, or a head and its parts
mutual
  pub data Ty : Type 0 where
    var : ℕ → Ty
    app : Head → Tys → Ty

  pub data Tys : Type 0 where
    none : Tys
    more : Ty → Tys → Tys

abbrev pub tys : List Ty → Tys
tys [] = none
tys (t ∷ ts) = more t (tys ts)

abbrev pub plain_step : Term-F Ty → Ty
plain_step (Term-F.Var x) = var x
plain_step (Term-F.App h ts) = app h (tys ts)

-- a type without where it lies in memory
abbrev pub plain : Term → Ty
plain = fold-Term Ty plain_step

abbrev pub plains : List Term → List Ty
plains ts = map plain ts

-- whether two heads are the same
abbrev pub same_head : Head → Head → Bool
same_head (h.Data m) (h.Data n) = nat_eq m n
same_head (h.Unknown m) (h.Unknown n) = nat_eq m n
same_head h.Tuple h.Tuple = true
same_head h.Fun h.Fun = true
same_head h.Comp h.Comp = true
same_head h.I h.I = true
same_head h.Layer h.Layer = true
same_head h.StateT h.StateT = true
same_head h.ReT h.ReT = true
same_head _ _ = false

-- a substitution gives each variable a type; here it is applied to a type
abbrev mutual
  pub apply : (ℕ → Ty) → Ty → Ty
  apply s (var x) = s x
  apply s (app h ts) = app h (apply_in s ts)

  pub apply_in : (ℕ → Ty) → Tys → Tys
  apply_in s none = none
  apply_in s (more t ts) = more (apply s t) (apply_in s ts)

abbrev mutual
  pub occurs : ℕ → Ty → Bool
  occurs x (var y) = nat_eq x y
  occurs x (app h ts) = occurs_in x ts

  pub occurs_in : ℕ → Tys → Bool
  occurs_in x none = false
  occurs_in x (more t ts) = occurs x t || occurs_in x ts

-- one more than the highest variable
abbrev mutual
  pub top : Ty → ℕ
  top (var x) = x + 1
  top (app h ts) = top_in ts

  pub top_in : Tys → ℕ
  top_in none = 0
  top_in (more t ts) = max (top t) (top_in ts)

abbrev pub parts : Tys → ℕ
parts none = 0
parts (more t ts) = suc (parts ts)

-- `StateT s` or `ReT i o`
abbrev pub is_known_layer : Ty → Bool
is_known_layer (app h.StateT ts) = nat_eq (parts ts) 1
is_known_layer (app h.ReT ts) = nat_eq (parts ts) 2
is_known_layer _ = false

-- how many nodes a head is with these parts: one, but a known layer and the monad under it are one together
abbrev pub own : Head → Tys → ℕ
own h.Layer (more l ms) = cond (is_known_layer l && nat_eq (parts ms) 1) 0 1
own _ _ = 1

-- how many nodes a type has: `StateT s m` is one and its two parts, `ReT i o m` one and its three
abbrev mutual
  pub nodes : Ty → ℕ
  nodes (var x) = 1
  nodes (app h ts) = nodes_in ts + own h ts

  pub nodes_in : Tys → ℕ
  nodes_in none = 0
  nodes_in (more t ts) = nodes t + nodes_in ts

-- one variable replaced
abbrev pub single : ℕ → Ty → ℕ → Ty
single x t y = cond (nat_eq x y) t (var y)

-- the one substitution, then the other
abbrev pub after : (ℕ → Ty) → (ℕ → Ty) → ℕ → Ty
after r s x = apply r (s x)

-- t is the substitution s, followed by t itself: so t is an instance of s
abbrev pub Agrees : (ℕ → Ty) → (ℕ → Ty) → Type 0
Agrees t s = (x : ℕ) → t x ≡ apply t (s x)

-- the variables of a signature under the numbers of an instance
abbrev pub renaming : List ℕ → ℕ → Ty
renaming names x = var (get_or names x x)

-- what a list of types, one for each variable, says of each
abbrev pub meaning : List Term → ℕ → Ty
meaning types x = get_or (plains types) x (var x)
