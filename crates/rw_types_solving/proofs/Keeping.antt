-- Steps of solving in a row: what each asks of the solutions is asked by all together.
use Rattle.std.proofs.Common.{◌≡◌, ◌↔◌, ℕ, ◌<◌, Option, List}
use Rattle.rw_types_solving.specs.Types.{Ty, var, apply}
use Rattle.rw_types_solving.specs.Tables.{Solves, Small, Narrowed, NoneWithin}

-- the solutions of the one table are those of the other of which P holds
abbrev pub Keeps : List (Option Ty) → List (Option Ty) → ((ℕ → Ty) → Type 0) → Type 0
Keeps old now P = (t : ℕ → Ty) → Solves t now ↔ (Solves t old × P t)

-- P holds of no solution within the bound
abbrev pub Excludes : ℕ → List (Option Ty) → ((ℕ → Ty) → Type 0) → Type 0
Excludes n old P = (t : ℕ → Ty) → Solves t old → P t → Small n t → ⊥

pub keeps_all : (old : List (Option Ty)) → Keeps old old (λ _. Unit {0})
keeps_all old t = ((λ h. (h, tt)), (λ h. h.0))

pub keeps_then : (old mid now : List (Option Ty)) (P Q : (ℕ → Ty) → Type 0) → Keeps old mid P → Keeps mid now Q → Keeps old now (λ t. P t × Q t)
keeps_then old mid now P Q a b t =
    ((λ h. let q = (b t).0 h in let p = (a t).0 q.0 in (p.0, (p.1, q.1))), (λ h. (b t).1 ((a t).1 (h.0, h.1.0), h.1.1)))

pub keeps_as : (old now : List (Option Ty)) (P Q : (ℕ → Ty) → Type 0) → ((t : ℕ → Ty) → P t → Q t) → ((t : ℕ → Ty) → Q t → P t) → Keeps old now P → Keeps old now Q
keeps_as old now P Q f g a t = ((λ h. let p = (a t).0 h in (p.0, f t p.1)), (λ h. (a t).1 (h.0, g t h.1)))

-- an equation whose left side is a variable of the table
pub keeps_equation : (old now : List (Option Ty)) (x : ℕ) (b : Ty) → Narrowed old now (var x) b → Keeps old now (λ t. t x ≡ apply t b)
keeps_equation old now x b h t = h t

pub excludes_equation : (n : ℕ) (old : List (Option Ty)) (x : ℕ) (b : Ty) → x < n → NoneWithin old (var x) b → Excludes n old (λ t. t x ≡ apply t b)
excludes_equation n old x b l h t s e small = h t s e (small x l)

-- the first step refuses, or a later one
pub excludes_first : (n : ℕ) (old : List (Option Ty)) (P Q : (ℕ → Ty) → Type 0) → Excludes n old P → Excludes n old (λ t. P t × Q t)
excludes_first n old P Q a t s h small = a t s h.0 small

pub excludes_later : (n : ℕ) (old mid : List (Option Ty)) (P Q : (ℕ → Ty) → Type 0) → Keeps old mid P → Excludes n mid Q → Excludes n old (λ t. P t × Q t)
excludes_later n old mid P Q k a t s h small = a t ((k t).1 (s, h.0)) h.1 small
