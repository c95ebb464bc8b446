-- Types of variables, and instances at them, under an assignment; numbers in a row.
use Rattle.std.proofs.Common.{◌≡◌, ℕ, zero, suc, ◌+◌, ◌-◌, ◌<◌, ◌≤◌, List, [], ◌∷◌, ◌++◌, append_assoc, map, length, refl, sym, ◌∙◌, ap, arith}
use Rattle.std.proofs.lemmas.List.{append-nil}
use Rattle.rw_types_solving.specs.Types.{Ty, var, apply, tys, plain, plains}
use Rattle.rw_types_solving.proofs.Laws.{compose, alike_all}
use Rattle.rw_types_rules.specs.Words.{unit_type, functions, tuple_type}
use Rattle.rw_types_rules.specs.WellTyped.{given}
use Rattle.rw_types_equations.specs.Numbered.{numbers_from}

-- an instance at variables, and these at types
given_at : (t : ℕ → Ty) (ns : List ℕ) (x : ℕ) → apply t (given (map var ns) x) ≡ given (map t ns) x
given_at t [] x = refl
given_at t (n ∷ ns) zero = refl
given_at t (n ∷ ns) (suc x) = given_at t ns x

pub instance_at : (t : ℕ → Ty) (ns : List ℕ) (u : Ty) → apply t (apply (given (map var ns)) u) ≡ apply (given (map t ns)) u
instance_at t ns u = compose t (given (map var ns)) u ∙ alike_all _ _ u (λ x. given_at t ns x)

-- a function of types under an assignment
pub functions_under : (t : ℕ → Ty) (xs : List Ty) (y : Ty) → apply t (functions xs y) ≡ functions (map (apply t) xs) (apply t y)
functions_under t [] y = refl
functions_under t (x ∷ xs) y = ap (Rattle.rw_types_rules.specs.Words.function (apply t x)) (functions_under t xs y)

-- types of variables
pub functions_at : (t : ℕ → Ty) (ns : List ℕ) (n : ℕ) → apply t (functions (map var ns) (var n)) ≡ functions (map t ns) (t n)
functions_at t [] n = refl
functions_at t (m ∷ ns) n = ap (Rattle.rw_types_rules.specs.Words.function (t m)) (functions_at t ns n)

pub joined_at : (t : ℕ → Ty) (us : List Ty) (ns : List ℕ) (v : Ty) (n : ℕ) → us ≡ map var ns → v ≡ var n → apply t (functions us v) ≡ functions (map t ns) (t n)
joined_at t us ns v n e f = ap (λ z. apply t (functions z v)) e ∙ ap (λ z. apply t (functions (map var ns) z)) f ∙ functions_at t ns n

tys_at : (t : ℕ → Ty) (ns : List ℕ) → Rattle.rw_types_solving.specs.Types.apply_in t (tys (map var ns)) ≡ tys (map t ns)
tys_at t [] = refl
tys_at t (n ∷ ns) = ap (Rattle.rw_types_solving.specs.Types.more (t n)) (tys_at t ns)

pub tuple_at : (t : ℕ → Ty) (ns : List ℕ) → apply t (tuple_type (map var ns)) ≡ tuple_type (map t ns)
tuple_at t ns = ap (Rattle.rw_types_solving.specs.Types.app Rattle.rw_types_solving.specs.declared.term.Head.TheVariants.Tuple) (tys_at t ns)

-- numbers in a row
pub numbers_length : (n k : ℕ) → length (numbers_from n k) ≡ k
numbers_length n zero = refl
numbers_length n (suc k) = ap suc (numbers_length (suc n) k)

pub one_more : (n m k j : ℕ) → k ≡ suc j → m ≡ suc n → numbers_from n k ≡ n ∷ numbers_from m j
one_more n m k j e f = ap (numbers_from n) e ∙ ap (λ z. n ∷ numbers_from z j) (sym f)

pub names_start : (n k : ℕ) → numbers_from (suc n) (k - 0) ≡ numbers_from (suc n) k
names_start n k = let e : k - 0 ≡ k = omega arith in ap (numbers_from (suc n)) e

pub names_more : (names whole : List ℕ) (last next n done : ℕ) → names ++ numbers_from (suc last) (n - done) ≡ whole → done < n → next ≡ last + 1
    → (names ++ next ∷ []) ++ numbers_from (suc next) (n - (done + 1)) ≡ whole
names_more names whole last next n done e l p =
    append_assoc names (next ∷ []) (numbers_from (suc next) (n - (done + 1)))
    ∙ ap (λ z. names ++ z) (sym (one_more next (suc next) (n - done) (n - (done + 1)) (omega arith) refl))
    ∙ ap (λ z. names ++ numbers_from z (n - done)) (omega arith) ∙ e

pub names_done : (names whole : List ℕ) (last n done : ℕ) → names ++ numbers_from (suc last) (n - done) ≡ whole → n ≤ done → names ≡ whole
names_done names whole last n done e l =
    let z : n - done ≡ 0 = omega arith in
    sym (append-nil names) ∙ ap (λ k. names ++ numbers_from (suc last) k) (sym z) ∙ e
