-- Solving one equation after the other.
use Rattle.std.proofs.Common.{◌≡◌, ◌↔◌, ℕ, ◌+◌, ◌<◌, ◌≤◌, Option, None, Some, List, [], ◌∷◌, drop, length, get_or, refl, sym, ◌∙◌, ap, subst, arith, Result, Ok, Err, IfOk}
use Rattle.std.proofs.Math.ListN.{drop_of_length-le}
use Rattle.std.proofs.lemmas.List.{length-map}
use Rattle.rw_types_solving.specs.declared.term.Term.{Term}
use Rattle.rw_types_solving.specs.Types.{Ty, var, apply, plain, plains, nodes, occurs}
use Rattle.rw_types_solving.specs.Tables.{Solves, Small, Narrowed, NoneWithin, Uses, most}
use Rattle.rw_types_solving.proofs.Laws.{is_same}
use Rattle.rw_types_equations.specs.declared.equation.Equation.{Equation}
use Rattle.rw_types_equations.specs.Equations.{taken, told, Holds}
use Rattle.rw_types_rules.specs.Words.{functions}
use Rattle.rw_types_equations.proofs.Rows.{drop_next}

-- the solutions of the table, of which the rest holds, are the assignments under which all hold
pub record Solved (table : List (Option Ty)) (all rest : List Equation) : Type 0 where
  pub exactly : (t : ℕ → Ty) → (Solves t table × Holds t rest) ↔ Holds t all

pub solved_start : (table : List (Option Ty)) (all : List Equation) → ((t : ℕ → Ty) → Solves t table) → Solved table all all
solved_start table all f = record { exactly = λ t. ((λ h. h.1), (λ h. (f t, h))) }

pub solved_step : (old new : List (Option Ty)) (all : List Equation) (i : ℕ) (e : Equation) → Solved old all (drop i all) → Narrowed old new (var e.variable) (told e) → i < length all → e ≡ get_or all i e
    → Solved new all (drop (i + 1) all)
solved_step old new all i e s n l r =
    let q = drop_next all i (i + 1) e l refl r in record {
      exactly = λ t. (
        (λ h. let k = (n t).0 h.0 in (s.exactly t).0 (k.0, subst (λ z. Holds t z) (sym q) (k.1, h.1))),
        (λ h. let k = (s.exactly t).1 h in let g = subst (λ z. Holds t z) q k.1 in ((n t).1 (k.0, g.0), g.1)),
      );
    }

pub solved_done : (table : List (Option Ty)) (all : List Equation) (i : ℕ) → Solved table all (drop i all) → length all ≤ i → (t : ℕ → Ty) → Solves t table ↔ Holds t all
solved_done table all i s l t =
    let q = drop_of_length-le all {i = i} l in
    ((λ h. (s.exactly t).0 (h, subst (λ z. Holds t z) (sym q) tt)), (λ h. ((s.exactly t).1 h).0))

pub solved_refused : (old : List (Option Ty)) (all : List Equation) (i m n : ℕ) (e : Equation) → Solved old all (drop i all) → i < length all → e ≡ get_or all i e → m ≡ n
    → e.variable < m → NoneWithin old (var e.variable) (told e) → (t : ℕ → Ty) → Holds t all → Small n t → ⊥
solved_refused old all i m n e s l r same lt none t h small =
    let k = (s.exactly t).1 h in
    let g = subst (λ z. Holds t z) (drop_next all i (i + 1) e l refl r) k.1 in
    none t k.0 g.0 (small e.variable (subst (λ z. e.variable < z) same lt))

-- the left side as the code has it
pub uses_plain : (n x : ℕ) (u : Ty) → u ≡ var x → x < n → Uses n u
uses_plain n x u e l y o = let same = is_same y x (ap (occurs y) (sym e) ∙ o) in omega arith

pub ok_narrowed : {E : Type 0} (r : Result (Unit {0}) E) (old new : List (Option Ty)) (x : ℕ) (u a : Ty) → u ≡ var x → IfOk r (λ _. Narrowed old new u a) → IfOk r (λ _. Narrowed old new (var x) a)
ok_narrowed (Ok y) old new x u a e h = subst (λ z. Narrowed old new z a) e h
ok_narrowed (Err y) old new x u a e h = tt

-- the right side as another type
pub ok_narrowed_to : {E : Type 0} (r : Result (Unit {0}) E) (old new : List (Option Ty)) (u a b : Ty) → a ≡ b → IfOk r (λ _. Narrowed old new u a) → IfOk r (λ _. Narrowed old new u b)
ok_narrowed_to (Ok y) old new u a b e h = subst (λ z. Narrowed old new u z) e h
ok_narrowed_to (Err y) old new u a b e h = tt

-- what an equation says, by whether its variable takes anything
pub told_type : (e : Equation) → e.takes ≡ None → plain e.is ≡ told e
told_type e p = ap (λ z. functions (taken z) (plain e.is)) (sym p)

pub told_function : (e : Equation) (ts us : List Term) → e.takes ≡ Some ts → us ≡ ts → functions (plains us) (plain e.is) ≡ told e
told_function e ts us p q = ap (λ z. functions (plains z) (plain e.is)) q ∙ ap (λ z. functions (taken z) (plain e.is)) (sym p)

-- a function of many types has more nodes
many_nodes : (t : ℕ → Ty) (xs : List Ty) (y : Ty) → length xs ≤ nodes (apply t (functions xs y))
many_nodes t [] y = omega arith
many_nodes t (x ∷ xs) y = let rest = many_nodes t xs y in omega (arith, rest)

pub too_many : (table : List (Option Ty)) (u : Ty) (ts : List Term) (y : Ty) → most < length ts → NoneWithin table u (functions (plains ts) y)
too_many table u ts y l t s e few = let many = many_nodes t (plains ts) y in let same = length-map ts plain in let small = subst (λ z. nodes z ≤ most) e few in omega (arith, many, same, small, l)
