-- The types that a table comes to are a most general solution.
use Rattle.std.proofs.Common.{◌≡◌, ℕ, zero, suc, ◌+◌, ◌<◌, ◌≤◌, ◌++◌, Bool, false, refl, sym, ◌∙◌, ap, subst, arith, inl, inr, ◌⊎◌, Option, Some, None, List, [], ◌∷◌, length, map, get_or, slice_get}
use Rattle.std.proofs.lemmas.List.{map-append}
use Rattle.rw_types_solving.specs.declared.term.Sort.{Sort}
use Rattle.rw_types_solving.specs.declared.term.Term.{Term}
use Rattle.rw_types_solving.specs.declared.term.Term.TheVariants as w
use Rattle.rw_types_solving.specs.Types.{Ty, var, plain, plains, apply, nodes, after, Agrees, meaning}
use Rattle.rw_types_solving.specs.Sorts.{Heads, HasSort}
use Rattle.rw_types_solving.specs.Tables.{most, type_at, equations, Solves, Follows, FollowsAt, IsTable, IsMostGeneral, IsSorted, Small, Uses}
use Rattle.rw_types_solving.specs.Conditions.{hold, any}
use Rattle.rw_types_solving.specs.Closing.{closing, closing_at, closed_as, IsDefault, HasNone}
use Rattle.rw_types_solving.specs.Inside.{IsLarger, capped}
use Rattle.rw_types_solving.proofs.Plains.{plain_var}
use Rattle.rw_types_solving.proofs.Laws.{instance_grows, size_bound, compose, alike_all}
use Rattle.rw_types_solving.proofs.Entries.{instance_solves, solves_itself}
use Rattle.rw_types_solving.proofs.Turns.{length_equations}
use Rattle.rw_types_solving.proofs.StateMonads.{never_holds}

-- one variable
pub made_var : (x : ℕ) (s : ℕ → Ty) (r : Ty) → r ≡ apply s (plain (w.Var x)) → r ≡ s x
made_var x s r e = e ∙ ap (apply s) (plain_var x)

capped_more : (n : ℕ) → most < capped n → most < n
capped_more n l = grind arith

pub capped_small : (n : ℕ) → capped n ≤ most → n ≤ most
capped_small n l = grind arith

pub count_large : (x : ℕ) (s : ℕ → Ty) (r : Ty) → r ≡ apply s (plain (w.Var x)) → most < capped (nodes r) → most < nodes (s x)
count_large x s r e l = let m = capped_more (nodes r) l in let same : nodes r ≡ nodes (s x) = ap nodes (made_var x s r e) in omega arith

pub var_large : (table : List (Option Ty)) (x : ℕ) → IsLarger table 2047 (plain (w.Var x)) → (s : ℕ → Ty) → Follows table s → most < nodes (s x)
var_large table x big s f =
    let l = big s f in let e : apply s (plain (w.Var x)) ≡ s x = ap (apply s) (plain_var x) in
    let b = size_bound (apply s (plain (w.Var x))) in
    let same : nodes (apply s (plain (w.Var x))) ≡ nodes (s x) = ap nodes e in omega arith

-- one more variable
get_last : (xs : List Ty) (d e : Ty) → get_or (xs ++ d ∷ []) (length xs) e ≡ d
get_last [] d e = refl
get_last (x ∷ xs) d e = get_last xs d e

get_before : (xs : List Ty) (d e : Ty) (z : ℕ) → z < length xs → get_or (xs ++ d ∷ []) z e ≡ get_or xs z e
get_before [] d e z l = absurd (omega arith)
get_before (x ∷ xs) d e zero l = refl
get_before (x ∷ xs) d e (suc z) l = get_before xs d e z (omega arith)

get_beyond : (xs : List Ty) (z : ℕ) (e : Ty) → length xs ≤ z → get_or xs z e ≡ e
get_beyond [] z e l = refl
get_beyond (x ∷ xs) zero e l = absurd (omega arith)
get_beyond (x ∷ xs) (suc z) e l = get_beyond xs z e (omega arith)

pub plains_length : (ts : List Term) → length (plains ts) ≡ length ts
plains_length [] = refl
plains_length (t ∷ ts) = ap suc (plains_length ts)

new_plains : (all new : List Term) (t : Term) → new ≡ all ++ t ∷ [] → plains new ≡ plains all ++ plain t ∷ []
new_plains all new t e = ap plains e ∙ map-append plain all (t ∷ [])

pub meaning_last : (all new : List Term) (t : Term) → new ≡ all ++ t ∷ [] → meaning new (length all) ≡ plain t
meaning_last all new t e =
    ap (λ l. get_or l (length all) (var (length all))) (new_plains all new t e)
    ∙ ap (λ n. get_or (plains all ++ plain t ∷ []) n (var (length all))) (sym (plains_length all)) ∙ get_last (plains all) (plain t) (var (length all))

pub meaning_before : (all new : List Term) (t : Term) (z : ℕ) → new ≡ all ++ t ∷ [] → z < length all → meaning new z ≡ meaning all z
meaning_before all new t z e l =
    let m = plains_length all in ap (λ l. get_or l z (var z)) (new_plains all new t e) ∙ get_before (plains all) (plain t) (var z) z (omega arith)

pub meaning_beyond : (all : List Term) (z : ℕ) → length all ≤ z → meaning all z ≡ var z
meaning_beyond all z l = let m = plains_length all in get_beyond (plains all) z (var z) (omega arith)

below_or_last : (y x : ℕ) → y < suc x → (y < x) ⊎ (y ≡ x)
below_or_last y x l = grind arith

pub made_next : (all new : List Term) (t : Term) (x : ℕ) (s : ℕ → Ty) → length all ≡ x → new ≡ all ++ t ∷ [] → plain t ≡ s x → ((y : ℕ) → y < x → meaning all y ≡ s y)
    → (y : ℕ) → y < suc x → meaning new y ≡ s y
made_next all new t x s n e p h y l = elim (below_or_last y x l) [
  | inl b ↦ meaning_before all new t y e (omega arith) ∙ h y b
  | inr b ↦ let here : y ≡ length all = omega arith in ap (meaning new) here ∙ meaning_last all new t e ∙ p ∙ ap s (sym b)
]

pub small_next : (all new : List Term) (t : Term) (x : ℕ) → length all ≡ x → new ≡ all ++ t ∷ [] → nodes (plain t) ≤ most → Small x (meaning all) → Small (suc x) (meaning new)
small_next all new t x n e p h y l = elim (below_or_last y x l) [
  | inl b ↦ let same : nodes (meaning new y) ≡ nodes (meaning all y) = ap nodes (meaning_before all new t y e (omega arith)) in let i = h y b in omega arith
  | inr b ↦ let here : y ≡ length all = omega arith in
      let same : nodes (meaning new y) ≡ nodes (plain t) = ap nodes (ap (meaning new) here ∙ meaning_last all new t e) in omega arith
]

-- all variables
at_beyond : (table : List (Option Ty)) (x : ℕ) → length table ≤ x → type_at table x ≡ None
at_beyond [] x l = refl
at_beyond (o ∷ os) zero l = absurd (omega arith)
at_beyond (o ∷ os) (suc x) l = at_beyond os x (omega arith)

follows_beyond : (s : ℕ → Ty) (x : ℕ) (o : Option Ty) → o ≡ None → FollowsAt s x o → s x ≡ var x
follows_beyond s x None e f = f
follows_beyond s x (Some u) e f = absurd (cc)

pub in_or_out : (x n : ℕ) → (x < n) ⊎ (n ≤ x)
in_or_out x n = grind arith

module _ (es : List (Option Term)) (made : List Term) (k : IsTable (equations es)) (many : length made ≡ length es)
    (h : (s : ℕ → Ty) → Follows (equations es) s → (x : ℕ) → x < length es → meaning made x ≡ s x) where
  meaning_is : (x : ℕ) → meaning made x ≡ k.sub x
  meaning_is x = elim (in_or_out x (length es)) [
    | inl l ↦ h k.sub k.follows x l
    | inr l ↦ let n = length_equations es in
        meaning_beyond made x (omega arith) ∙ sym (follows_beyond k.sub x (type_at (equations es) x) (at_beyond (equations es) x (omega arith)) (k.follows x))
  ]

  all_is : meaning made ≡ k.sub
  all_is = λ i. λ x. meaning_is x i

  pub made_solves : Solves (meaning made) (equations es)
  made_solves = subst (λ z. Solves z (equations es)) (sym all_is) (solves_itself (equations es) k.sub k.follows)

  pub made_general : IsMostGeneral (equations es) (meaning made)
  made_general = subst (IsMostGeneral (equations es)) (sym all_is) (λ t. (k.general t, instance_solves (equations es) k.sub t k.follows))

  pub made_within : (x : ℕ) → x < length es → Uses (length es) (meaning made x)
  made_within = subst (λ n. (x : ℕ) → x < n → Uses n (meaning made x)) (length_equations es) (subst (λ z. (x : ℕ) → x < length (equations es) → Uses (length (equations es)) (z x)) (sym all_is) k.within)

  pub made_sorted : (v : ℕ → Sort) (q : Heads) → IsSorted v q (equations es) → (x : ℕ) → HasSort v q (v x) (meaning made x)
  made_sorted v q i = subst (λ z. (x : ℕ) → HasSort v q (v x) (z x)) (sym all_is) (k.sorted v q i)

pub none_small : (es : List (Option Term)) (k : IsTable (equations es)) → ((s : ℕ → Ty) → Follows (equations es) s → Small (length es) s → ⊥)
    → (t : ℕ → Ty) → Solves t (equations es) → Small (length es) t → ⊥
none_small es k big t h small = big k.sub k.follows (λ x l.
    let a = k.general t h in let g = instance_grows t (k.sub x) in let same : nodes (t x) ≡ nodes (apply t (k.sub x)) = ap nodes (a x) in let few = small x l in omega arith)

-- the default
get_map : (f : Ty → Ty) (xs : List Ty) (z : ℕ) (d e : Ty) → z < length xs → get_or (map f xs) z d ≡ f (get_or xs z e)
get_map f [] z d e h = absurd (omega arith)
get_map f (x ∷ xs) zero d e h = refl
get_map f (x ∷ xs) (suc z) d e h = get_map f xs z d e (omega arith)

map_length : (f : Ty → Ty) (xs : List Ty) → length (map f xs) ≡ length xs
map_length f [] = refl
map_length f (x ∷ xs) = ap suc (map_length f xs)

pub none_beyond : (sorts : List Sort) (x : ℕ) → length sorts ≤ x → slice_get sorts x ≡ None
none_beyond [] x l = refl
none_beyond (o ∷ os) zero l = absurd (omega arith)
none_beyond (o ∷ os) (suc x) l = none_beyond os x (omega arith)

pub closed_many : (f : Ty → Ty) (types made : List Term) → plains made ≡ map f (plains types) → length made ≡ length types
closed_many f types made e = sym (plains_length made) ∙ ap length e ∙ map_length f (plains types) ∙ plains_length types

pub closed_is : (sorts : List Sort) (types made : List Term) → length sorts ≡ length types → plains made ≡ map (apply (closing sorts)) (plains types) → (x : ℕ) → meaning made x ≡ apply (closing sorts) (meaning types x)
closed_is sorts types made n e x = elim (in_or_out x (length types)) [
  | inl l ↦ let m = plains_length types in ap (λ l. get_or l x (var x)) e ∙ get_map (apply (closing sorts)) (plains types) x (var x) (var x) (omega arith)
  | inr l ↦ let m = closed_many (apply (closing sorts)) types made e in
      meaning_beyond made x (omega arith) ∙ sym (ap (apply (closing sorts)) (meaning_beyond types x l) ∙ ap (closing_at x) (none_beyond sorts x (omega arith)))
]

-- what is replaced in a solution leaves a solution
pub closed_solves : (table : List (Option Ty)) (s r d : ℕ → Ty) → IsMostGeneral table s → Solves s table → ((x : ℕ) → d x ≡ apply r (s x)) → Solves d table
closed_solves table s r d g h e =
    let itself : Agrees s s = (g s).0 h in
    (g d).1 (λ x. e x ∙ ap (apply r) (itself x) ∙ compose r s (s x) ∙ sym (alike_all d (after r s) (s x) e))

pub default_is : (es : List (Option Term)) (sorts : List Sort) (types made : List Term) → IsMostGeneral (equations es) (meaning types) → Small (length es) (meaning types)
    → ((x : ℕ) → meaning made x ≡ apply (closing sorts) (meaning types x)) → IsDefault (equations es) sorts (meaning made)
default_is es sorts types made g small e = record {
  general = meaning types;
  most_general = g;
  small = subst (λ n. Small n (meaning types)) (sym (length_equations es)) small;
  closed = e;
}

pub none_general : (es : List (Option Term)) (u : ℕ → Bool) (xs : List ℕ) → ((t : ℕ → Ty) → Solves t (equations es) → Small (length es) t → ⊥) → HasNone (equations es) u xs
none_general es u xs h v t s c small = h t s (subst (λ n. Small n t) (length_equations es) small)

pub none_holds : (es : List (Option Term)) (u : ℕ → Bool) (xs : List ℕ) (s : ℕ → Ty) → IsMostGeneral (equations es) s → hold any u s xs ≡ false → HasNone (equations es) u xs
none_holds es u xs s g f v t h c small = never_holds v u t s xs ((g t).0 h) f c

-- as the code sees it
some_at : (sorts : List Sort) (x : ℕ) (k : Sort) → x < length sorts → k ≡ get_or sorts x k → slice_get sorts x ≡ Some k
some_at [] x k l e = absurd (omega arith)
some_at (o ∷ os) zero k l e = ap Some (sym e)
some_at (o ∷ os) (suc x) k l e = some_at os x k (omega arith) e

pub closing_in : (sorts : List Sort) (x : ℕ) (k : Sort) → x < length sorts → k ≡ get_or sorts x k → closing sorts x ≡ closed_as k
closing_in sorts x k l e = ap (closing_at x) (some_at sorts x k l e)

pub closed_some : (t : Term) (x : ℕ) (sorts : List Sort) (k : Sort) (made : Term) → t ≡ w.Var x → x < length sorts → k ≡ get_or sorts x k → plain made ≡ closed_as k
    → plain made ≡ apply (closing sorts) (plain t)
closed_some t x sorts k made is l e p = p ∙ sym (closing_in sorts x k l e) ∙ sym (ap (apply (closing sorts)) (ap plain is ∙ plain_var x))

pub closed_none : (t : Term) (x : ℕ) (sorts : List Sort) → t ≡ w.Var x → length sorts ≤ x → plain (w.Var x) ≡ apply (closing sorts) (plain t)
closed_none t x sorts is l = plain_var x ∙ sym (ap (closing_at x) (none_beyond sorts x l)) ∙ sym (ap (apply (closing sorts)) (ap plain is ∙ plain_var x))

length_push : (all : List Term) (t : Term) → length (all ++ t ∷ []) ≡ suc (length all)
length_push [] t = refl
length_push (a ∷ all) t = ap suc (length_push all t)

pub length_next : (all new : List Term) (t : Term) (x : ℕ) → new ≡ all ++ t ∷ [] → length all ≡ x → length new ≡ x + 1
length_next all new t x e n = let p = length_push all t in let q : length new ≡ length (all ++ t ∷ []) = ap length e in omega arith

pub at_table : (m es : List (Option Term)) (made : List Term) → m ≡ es → ((s : ℕ → Ty) → Follows (equations m) s → (x : ℕ) → x < length m → meaning made x ≡ s x)
    → (s : ℕ → Ty) → Follows (equations es) s → (x : ℕ) → x < length es → meaning made x ≡ s x
at_table m es made e h = subst (λ z. (s : ℕ → Ty) → Follows (equations z) s → (x : ℕ) → x < length z → meaning made x ≡ s x) e h

pub none_at_table : (m es : List (Option Term)) (k : IsTable (equations es)) → m ≡ es → ((s : ℕ → Ty) → Follows (equations m) s → Small (length m) s → ⊥)
    → (t : ℕ → Ty) → Solves t (equations es) → Small (length es) t → ⊥
none_at_table m es k e h = none_small es k (subst (λ z. (s : ℕ → Ty) → Follows (equations z) s → Small (length z) s → ⊥) e h)

pub closed_at : (sorts : List Sort) (types m made : List Term) → m ≡ types → length sorts ≡ length types → plains made ≡ map (apply (closing sorts)) (plains m)
    → (x : ℕ) → meaning made x ≡ apply (closing sorts) (meaning types x)
closed_at sorts types m made e n p = closed_is sorts types made n (p ∙ ap (λ z. map (apply (closing sorts)) (plains z)) e)
