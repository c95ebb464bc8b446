-- Tables of equations between variables and types, and their solutions: unification as of Robinson, 1965.
use Rattle.std.specs.Prelude.{◌≡◌, ◌↔◌, ℕ, ◌<◌, ◌≤◌, ◌^◌, true, Option, Some, None, List, map, length, get_or}
use Rattle.rw_types_solving.specs.declared.term.Sort.{Sort}
use Rattle.rw_types_solving.specs.declared.term.Term.{Term}
use Rattle.rw_types_solving.specs.Types.{Ty, var, plain, apply, nodes, occurs, Agrees}
use Rattle.rw_types_solving.specs.Sorts.{Heads, HasSort}

-- the most nodes of a type
abbrev pub most : ℕ
most = 1024

-- the types of the first n variables are within the bound
abbrev pub Small : ℕ → (ℕ → Ty) → Type 0
Small n t = (x : ℕ) → x < n → nodes (t x) ≤ most

-- each variable of the type is one of the first n
abbrev pub Uses : ℕ → Ty → Type 0
Uses n a = (y : ℕ) → occurs y a ≡ true → y < n

-- a variable's equation, where it has one
abbrev pub equation : Option Term → Option Ty
equation None = None
equation (Some t) = Some (plain t)

abbrev pub equations : List (Option Term) → List (Option Ty)
equations es = map equation es

abbrev pub type_at : List (Option Ty) → ℕ → Option Ty
type_at table x = get_or table x None

-- what a substitution has to do at a variable with this equation
abbrev pub Meets : (ℕ → Ty) → ℕ → Option Ty → Type 0
Meets t x None = Unit {0}
Meets t x (Some u) = t x ≡ apply t u

-- t is a solution: it makes the two sides of each equation one
abbrev pub Solves : (ℕ → Ty) → List (Option Ty) → Type 0
Solves t table = (x : ℕ) → Meets t x (type_at table x)

-- the solutions of the one table are those of the other that make a and b one
abbrev pub Narrowed : List (Option Ty) → List (Option Ty) → Ty → Ty → Type 0
Narrowed old now a b = (t : ℕ → Ty) → Solves t now ↔ (Solves t old × (apply t a ≡ apply t b))

-- no solution makes a and b one within the bound
abbrev pub NoneWithin : List (Option Ty) → Ty → Ty → Type 0
NoneWithin old a b = (t : ℕ → Ty) → Solves t old → apply t a ≡ apply t b → nodes (apply t a) ≤ most → ⊥

-- each equation joins two types of one sort
abbrev pub IsSorted : (ℕ → Sort) → Heads → List (Option Ty) → Type 0
IsSorted v w table = (x : ℕ) (u : Ty) → type_at table x ≡ Some u → HasSort v w (v x) u

-- s is what the table comes to: a variable with an equation is what its type comes to, every other stands for itself
abbrev pub FollowsAt : (ℕ → Ty) → ℕ → Option Ty → Type 0
FollowsAt s x None = s x ≡ var x
FollowsAt s x (Some u) = s x ≡ apply s u

abbrev pub Follows : List (Option Ty) → (ℕ → Ty) → Type 0
Follows table s = (x : ℕ) → FollowsAt s x (type_at table x)

-- an equation of two variables gives the higher one
abbrev pub Falls : List (Option Ty) → Type 0
Falls table = (x y : ℕ) → type_at table x ≡ Some (var y) → y < x

-- the equations are solved: some substitution is what they come to, and every solution is an instance of it
pub record IsTable (table : List (Option Ty)) : Type 0 where
  -- variables are numbered by 32 bits
  pub few : length table < 2 ^ 32
  pub falls : Falls table
  pub sub : ℕ → Ty
  pub follows : Follows table sub
  pub general : (t : ℕ → Ty) → Solves t table → Agrees t sub
  pub within : (x : ℕ) → x < length table → Uses (length table) (sub x)
  pub sorted : (v : ℕ → Sort) (w : Heads) → IsSorted v w table → (x : ℕ) → HasSort v w (v x) (sub x)

-- each solution is an instance of s, and each instance of s is a solution
abbrev pub IsMostGeneral : List (Option Ty) → (ℕ → Ty) → Type 0
IsMostGeneral table s = (t : ℕ → Ty) → Solves t table ↔ Agrees t s
