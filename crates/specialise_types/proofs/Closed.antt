-- The types of nodes in an instance.
use Rattle.std.proofs.Common.{◌≡◌, ℕ, zero, suc, ◌<◌, ◌≤◌, List, [], ◌∷◌, ◌++◌, map, length, get_or, refl, sym, ◌∙◌, ap, subst, arith, ⊎_elim}
use Rattle.std.proofs.lemmas.List.{length-append, get_or_append_left, get_or_push}
use Rattle.std.proofs.lemmas.Bool.{cases_lt}
use Rattle.rw_types_solving.specs.declared.term.Head.{Head}
use Rattle.rw_types_solving.specs.declared.term.Head.TheVariants as h
use Rattle.rw_types_solving.specs.Types.{Ty, Tys, app, more, tys}
use Rattle.rw_types_rules.specs.Words.{unit_type}
use Rattle.rw_types_rules.specs.WellTyped.{given}
use Rattle.rw_types_shared.specs.declared.node.Node.{Node as Kept}
use Rattle.rw_types_shared.specs.Shared.{Node, shown, node_at, type_at, AreBelow, IsProper, Extends}
use Rattle.rw_types_shared.proofs.Levels.{below_further, type_kept, types_kept, type_of_node}
use Rattle.rw_types_shared.proofs.Sharing.{no_shorter, below_next}
use Rattle.rw_types_instances.specs.Instances.{known_as, closed_by, closed_parts}
use Rattle.specialise_types.specs.Closed.{AreClosed}
use Rattle.specialise_types.proofs.Below.{below_at, type_kept_at}

-- == Arguments ==

pub argument_is : (t : ℕ → Ty) (ks : List ℕ) (i k : ℕ) → i < length ks → k ≡ get_or ks i k → t k ≡ given (map t ks) i
argument_is t [] i k l e = absurd (omega arith)
argument_is t (x ∷ xs) zero k l e = ap t e
argument_is t (x ∷ xs) (suc i) k l e = argument_is t xs i k (omega arith) e

pub no_argument : (t : ℕ → Ty) (ks : List ℕ) (i : ℕ) → length ks ≤ i → unit_type ≡ given (map t ks) i
no_argument t [] i l = refl
no_argument t (x ∷ xs) zero l = absurd (omega arith)
no_argument t (x ∷ xs) (suc i) l = no_argument t xs i (omega arith)

pub argument_below : (n : ℕ) (ks : List ℕ) (i k : ℕ) → AreBelow n ks → i < length ks → k ≡ get_or ks i k → k < n
argument_below n ks i k b l e = subst (λ (z : ℕ). z < n) (sym e) (below_at n ks i k b l)

-- == A node ==

pub closed_unknown : (arguments : List Ty) (head : Head) (ts : Tys) (k : ℕ) → head ≡ h.Unknown k → given arguments k ≡ closed_by arguments (app head ts)
closed_unknown arguments head ts k e = sym (ap (λ (z : Head). known_as arguments z (closed_parts arguments ts)) e)

known_other : (arguments : List Ty) (head : Head) (ts : Tys) → ((k : ℕ) → head ≡ h.Unknown k → ⊥) → known_as arguments head ts ≡ app head ts
known_other arguments (h.Unknown k) ts apart = absurd (apart k refl)
known_other arguments h.Tuple ts apart = refl
known_other arguments h.Fun ts apart = refl
known_other arguments (h.Data n) ts apart = refl
known_other arguments h.Comp ts apart = refl
known_other arguments h.I ts apart = refl
known_other arguments h.Layer ts apart = refl
known_other arguments h.StateT ts apart = refl
known_other arguments h.ReT ts apart = refl

pub made_below : (n : ℕ) (made ks : List ℕ) → AreBelow n made → AreBelow (length made) ks → AreBelow n (map (λ k. get_or made k 0) ks)
made_below n made [] b l = tt
made_below n made (k ∷ ks) b l = (below_at n made k 0 b l.0, made_below n made ks b l.1)

parts_closed : (arguments : List Ty) (nodes types : List Node) (made ks : List ℕ) → AreClosed arguments nodes types made → AreBelow (length made) ks
    → tys (map (type_at types) (map (λ k. get_or made k 0) ks)) ≡ closed_parts arguments (tys (map (type_at nodes) ks))
parts_closed arguments nodes types made [] a b = refl
parts_closed arguments nodes types made (k ∷ ks) a b =
    let one = a.are k b.0 in let rest = parts_closed arguments nodes types made ks a b.1 in λ i. more (one i) (rest i)

pub closed_other : (arguments : List Ty) (nodes old new : List Node) (made ks parts : List ℕ) (head : Head) (n : ℕ) → ((k : ℕ) → head ≡ h.Unknown k → ⊥) → IsProper old → IsProper new → Extends old new
    → AreClosed arguments nodes old made → AreBelow (length made) ks → parts ≡ map (λ k. get_or made k 0) ks → node_at new n ≡ (head, parts)
    → type_at new n ≡ closed_by arguments (app head (tys (map (type_at nodes) ks)))
closed_other arguments nodes old new made ks parts head n apart p q e a b is at =
    type_of_node new n (head, parts) q at ∙ ap (λ (z : List ℕ). app head (tys (map (type_at new) z))) is
    ∙ ap (λ (z : List Ty). app head (tys z)) (types_kept old new p e (map (λ k. get_or made k 0) ks) (made_below (length old) made ks a.within b))
    ∙ ap (app head) (parts_closed arguments nodes old made ks a b) ∙ sym (known_other arguments head (closed_parts arguments (tys (map (type_at nodes) ks))) apart)

-- == One node more ==

pub closed_first : (arguments : List Ty) (nodes types : List Node) (made : List ℕ) → made ≡ [] → AreClosed arguments nodes types made
closed_first arguments nodes types made e =
    subst (AreClosed arguments nodes types) (sym e) (record { within = tt; are = λ n l. absurd (omega arith) })

pub closed_next : (arguments : List Ty) (keys : List Kept) (old new : List Node) (all made : List ℕ) (i number : ℕ) (node : Kept) → IsProper (map shown keys) → IsProper old → Extends old new
    → i < length keys → node ≡ get_or keys i node → length all ≡ i → number < length new → made ≡ all ++ number ∷ []
    → type_at new number ≡ closed_by arguments (app node.head (tys (map (type_at (map shown keys)) node.parts.items)))
    → AreClosed arguments (map shown keys) old all → AreClosed arguments (map shown keys) new made
closed_next arguments keys old new all made i number node own p e l here many within is same a = record {
  within = below_next old new all made number e a.within within is;
  are = λ n m. ⊎_elim (earlier n) (last n m) (cases_lt n (length all));
}
  where
    earlier : (n : ℕ) → n < length all → type_at new (get_or made n 0) ≡ closed_by arguments (type_at (map shown keys) n)
    earlier n m =
        ap (λ (z : List ℕ). type_at new (get_or z n 0)) is ∙ ap (type_at new) (get_or_append_left all (number ∷ []) 0 n m)
        ∙ type_kept old new p e (get_or all n 0) (below_at (length old) all n 0 a.within m) ∙ a.are n m

    last : (n : ℕ) → n < length made → length all ≤ n → type_at new (get_or made n 0) ≡ closed_by arguments (type_at (map shown keys) n)
    last n m k =
        let longer = ap length is ∙ length-append all (number ∷ []) in let there : n ≡ length all = omega arith in let at : n ≡ i = omega arith in
        ap (λ (z : ℕ). type_at new (get_or made z 0)) there ∙ ap (λ (z : List ℕ). type_at new (get_or z (length all) 0)) is
        ∙ ap (type_at new) (get_or_push all number 0 (length all) refl) ∙ same
        ∙ sym (ap (closed_by arguments) (ap (type_at (map shown keys)) at ∙ type_kept_at keys i node own l here))

pub arguments_kept : (old new : List Node) (ks : List ℕ) → IsProper old → Extends old new → AreBelow (length old) ks → map (type_at old) ks ≡ map (type_at new) ks
arguments_kept old new ks p e b = sym (types_kept old new p e ks b)

pub still_below : (old new : List Node) (ks : List ℕ) → Extends old new → AreBelow (length old) ks → AreBelow (length new) ks
still_below old new ks e b = below_further (length old) (length new) (no_shorter old new e) ks b
