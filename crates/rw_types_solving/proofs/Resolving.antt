-- What a variable, a head and a list of parts come to under a table.
use Rattle.std.proofs.Common.{◌≡◌, ℕ, zero, suc, ◌+◌, ◌<◌, ◌≤◌, ◌∙◌, ◌++◌, sym, ap, refl, arith, Option, List, [], ◌∷◌, map, take, length, get_or, add-one}
use Rattle.std.proofs.lemmas.List.{map-append}
use Rattle.rw_types_solving.specs.declared.term.Head.{Head}
use Rattle.rw_types_solving.specs.declared.term.Term.{Term}
use Rattle.rw_types_solving.specs.declared.term.Term.TheVariants as w
use Rattle.rw_types_solving.specs.Types.{Ty, Tys, app, tys, plain, plains, apply, apply_in}
use Rattle.rw_types_solving.specs.Tables.{Follows}
use Rattle.rw_types_solving.specs.Inside.{ComesTo, ComeTo, IsLarger, AreLarger, size, size_in}
use Rattle.rw_types_solving.proofs.Plains.{plain_var, plain_app, tys_map}
use Rattle.rw_types_solving.proofs.Laws.{size_positive}

pub larger_zero : (table : List (Option Ty)) (n : ℕ) (a : Ty) → n ≡ 0 → IsLarger table n a
larger_zero table n a e s f = let p = size_positive (apply s a) in omega arith

pub comes_known : (table : List (Option Ty)) (x : ℕ) (t : Term) (h : Head) (ts : Tys) (r : Ty) → t ≡ w.Var x
    → ((s : ℕ → Ty) → Follows table s → s x ≡ apply s (app h ts)) → ComesTo table (app h ts) r → ComesTo table (plain t) r
comes_known table x t h ts r is e m s f = m s f ∙ sym (e s f) ∙ sym (ap (apply s) (ap plain is ∙ plain_var x))

pub comes_app : (table : List (Option Ty)) (t : Term) (h : Head) (xs ys : List Term) (r : Ty) → t ≡ w.App h xs → ys ≡ xs
    → ComesTo table (app h (tys (plains ys))) r → ComesTo table (plain t) r
comes_app table t h xs ys r is e m s f = m s f ∙ ap (λ z. apply s (app h (tys (plains z)))) e ∙ sym (ap (apply s) (ap plain is ∙ plain_app h xs))

pub comes_under : (table : List (Option Ty)) (h : Head) (parts all : List Term) → ComeTo table (plains parts) (plains all) → ComesTo table (app h (tys (plains parts))) (plain (w.App h all))
comes_under table h parts all m s f = plain_app h all ∙ ap (λ z. app h (tys z)) (m s f) ∙ ap (app h) (tys_map s (plains parts))

take_next : (ts : List Term) (i : ℕ) (d : Term) → i < length ts → take (suc i) ts ≡ take i ts ++ get_or ts i d ∷ []
take_next [] i d l = absurd (omega arith)
take_next (t ∷ ts) zero d l = refl
take_next (t ∷ ts) (suc i) d l = ap (λ z. t ∷ z) (take_next ts i d (omega arith))

take_whole : (ts : List Term) (i : ℕ) → length ts ≤ i → take i ts ≡ ts
take_whole [] zero l = refl
take_whole [] (suc i) l = refl
take_whole (t ∷ ts) zero l = absurd (omega arith)
take_whole (t ∷ ts) (suc i) l = ap (λ z. t ∷ z) (take_whole ts i (omega arith))

pub come_next : (table : List (Option Ty)) (ts : List Term) (i : ℕ) (d : Term) (all new : List Term) (one : Term) → i < length ts
    → d ≡ get_or ts i d → ComeTo table (plains (take i ts)) (plains all) → ComesTo table (plain d) (plain one) → new ≡ all ++ one ∷ [] → ComeTo table (plains (take (i + 1) ts)) (plains new)
come_next table ts i d all new one l here m o e s f =
    let a = m s f in let b : plain one ≡ apply s (plain (get_or ts i d)) = o s f ∙ ap (λ z. apply s (plain z)) here in
    let left : plains new ≡ plains all ++ plain one ∷ [] = ap plains e ∙ map-append plain all (one ∷ []) in
    let cut : take (i + 1) ts ≡ take i ts ++ get_or ts i d ∷ [] = ap (λ n. take n ts) (add-one i) ∙ take_next ts i d l in
    let right : plains (take (i + 1) ts) ≡ plains (take i ts) ++ plain (get_or ts i d) ∷ [] = ap plains cut ∙ map-append plain (take i ts) (get_or ts i d ∷ []) in
    left ∙ ap (λ z. z ++ plain one ∷ []) a ∙ ap (λ z. map (apply s) (plains (take i ts)) ++ z ∷ []) b
    ∙ sym (ap (map (apply s)) right ∙ map-append (apply s) (plains (take i ts)) (plain (get_or ts i d) ∷ []))

pub come_whole : (table : List (Option Ty)) (ts : List Term) (i : ℕ) (all : List Term) → length ts ≤ i → ComeTo table (plains (take i ts)) (plains all) → ComeTo table (plains ts) (plains all)
come_whole table ts i all l m s f = m s f ∙ ap (λ z. map (apply s) (plains z)) (take_whole ts i l)

size_next_at : (xs : List Ty) (y : Ty) → size_in (tys (xs ++ y ∷ [])) ≡ size_in (tys xs) + size y
size_next_at [] y = omega arith
size_next_at (x ∷ xs) y = let i = size_next_at xs y in omega arith

pub size_next : (all new : List Term) (one : Term) → new ≡ all ++ one ∷ [] → size_in (tys (plains new)) ≡ size_in (tys (plains all)) + size (plain one)
size_next all new one e = ap (λ z. size_in (tys z)) (ap plains e ∙ map-append plain all (one ∷ [])) ∙ size_next_at (plains all) (plain one)

cut_size : (s : ℕ → Ty) (ts : List Term) (i : ℕ) (d : Term) → i < length ts
    → size_in (tys (map (apply s) (plains (take i ts)))) + size (apply s (plain (get_or ts i d))) ≤ size_in (apply_in s (tys (plains ts)))
cut_size s [] i d l = absurd (omega arith)
cut_size s (t ∷ ts) zero d l = omega arith
cut_size s (t ∷ ts) (suc i) d l = let k = cut_size s ts i d (omega arith) in omega arith

pub all_larger : (table : List (Option Ty)) (ts : List Term) (i : ℕ) (d : Term) (all : List Term) (left budget : ℕ) → i < length ts → d ≡ get_or ts i d
    → ComeTo table (plains (take i ts)) (plains all) → left + size_in (tys (plains all)) ≡ budget → IsLarger table left (plain d) → AreLarger table budget (tys (plains ts))
all_larger table ts i d all left budget l here m e k s f =
    let a : size_in (tys (plains all)) ≡ size_in (tys (map (apply s) (plains (take i ts)))) = ap (λ z. size_in (tys z)) (m s f) in
    let b = k s f in
    let same : size (apply s (plain d)) ≡ size (apply s (plain (get_or ts i d))) = ap (λ z. size (apply s (plain z))) here in
    let c = cut_size s ts i d l in
    omega arith
