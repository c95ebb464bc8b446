-- The numbers of types, one after the other, and of a head over its parts.
use Rattle.std.proofs.Common.{◌≡◌, ℕ, ◌+◌, ◌<◌, ◌≤◌, List, [], ◌∷◌, ◌++◌, map, length, take, get_or, append_assoc, append-nil, sym, ◌∙◌, ap, subst, arith}
use Rattle.std.proofs.lemmas.List.{map-append, take_more, length-append}
use Rattle.rw_types_solving.specs.declared.term.Head.{Head}
use Rattle.rw_types_solving.specs.declared.term.Term.{Term}
use Rattle.rw_types_solving.specs.declared.term.Term.TheVariants as w
use Rattle.rw_types_solving.specs.Types.{Ty, app, tys, plain, plains, apply}
use Rattle.rw_types_solving.proofs.Plains.{plain_app, tys_map}
use Rattle.rw_types_shared.specs.Shared.{Node, node_at, type_at, AreBelow, IsProper, Extends}
use Rattle.rw_types_shared.proofs.Levels.{below_further, types_kept, type_of_node}

pub extends_itself : (nodes : List Node) → Extends nodes nodes
extends_itself nodes = record { more = []; kept = sym (append-nil nodes) }

pub extends_on : (a b c : List Node) → Extends a b → Extends b c → Extends a c
extends_on a b c e f = record { more = e.more ++ f.more; kept = f.kept ∙ ap (λ (z : List Node). z ++ f.more) e.kept ∙ append_assoc a e.more f.more }

pub no_shorter : (a b : List Node) → Extends a b → length a ≤ length b
no_shorter a b e = let many = ap length e.kept ∙ length-append a e.more in omega arith

below_last : (n : ℕ) (ks : List ℕ) (k : ℕ) → AreBelow n ks → k < n → AreBelow n (ks ++ k ∷ [])
below_last n [] k b l = (l, tt)
below_last n (j ∷ js) k b l = (b.0, below_last n js k b.1 l)

pub below_next : (old new : List Node) (all made : List ℕ) (k : ℕ) → Extends old new → AreBelow (length old) all → k < length new → made ≡ all ++ k ∷ [] → AreBelow (length new) made
below_next old new all made k e b l m =
    subst (AreBelow (length new)) (sym m) (below_last (length new) all k (below_further (length old) (length new) (no_shorter old new e) all b) l)

-- one type more
pub types_next : (s : ℕ → Ty) (old new : List Node) (all made : List ℕ) (k : ℕ) (terms : List Term) (i : ℕ) (term : Term) → i < length terms → term ≡ get_or terms i term
    → IsProper old → Extends old new → AreBelow (length old) all → type_at new k ≡ apply s (plain term) → made ≡ all ++ k ∷ []
    → map (type_at old) all ≡ map (apply s) (plains (take i terms)) → map (type_at new) made ≡ map (apply s) (plains (take (i + 1) terms))
types_next s old new all made k terms i term l here p e b is m before =
    ap (map (type_at new)) m ∙ map-append (type_at new) all (k ∷ [])
    ∙ ap (λ (z : List Ty). z ++ type_at new k ∷ []) (types_kept old new p e all b ∙ before)
    ∙ ap (λ (z : Ty). map (apply s) (plains (take i terms)) ++ z ∷ []) is
    ∙ sym (ap (λ (zs : List Term). map (apply s) (plains zs)) (take_more terms i term l ∙ ap (λ (z : Term). take i terms ++ z ∷ []) (sym here))
    ∙ ap (map (apply s)) (map-append plain (take i terms) (term ∷ [])) ∙ map-append (apply s) (plains (take i terms)) (plain term ∷ []))

-- a head over parts that are types already
pub head_over : (s : ℕ → Ty) (mid new : List Node) (n : ℕ) (head : Head) (ks : List ℕ) (term : Term) (parts : List Term) → term ≡ w.App head parts → IsProper mid → IsProper new → Extends mid new
    → AreBelow (length mid) ks → node_at new n ≡ (head, ks) → map (type_at mid) ks ≡ map (apply s) (plains parts) → type_at new n ≡ apply s (plain term)
head_over s mid new n head ks term parts is p q e b at same =
    type_of_node new n (head, ks) q at ∙ ap (λ (z : List Ty). app head (tys z)) (types_kept mid new p e ks b ∙ same)
    ∙ ap (app head) (tys_map s (plains parts)) ∙ sym (ap (λ (z : Term). apply s (plain z)) is ∙ ap (apply s) (plain_app head parts))

-- a node of one part, and a node of none
pub type_of_alone : (new : List Node) (n : ℕ) (head : Head) (ks : List ℕ) → IsProper new → node_at new n ≡ (head, ks) → ks ≡ [] → type_at new n ≡ app head (tys [])
type_of_alone new n head ks q at none = type_of_node new n (head, ks) q at ∙ ap (λ (z : List ℕ). app head (tys (map (type_at new) z))) none

pub type_of_one : (mid new : List Node) (n : ℕ) (head : Head) (ks : List ℕ) (k : ℕ) (t : Ty) → IsProper mid → IsProper new → Extends mid new → k < length mid → node_at new n ≡ (head, ks) → ks ≡ k ∷ []
    → type_at mid k ≡ t → type_at new n ≡ app head (tys (t ∷ []))
type_of_one mid new n head ks k t p q e l at one same =
    type_of_node new n (head, ks) q at ∙ ap (λ (z : List ℕ). app head (tys (map (type_at new) z))) one
    ∙ ap (λ (z : List Ty). app head (tys z)) (types_kept mid new p e (k ∷ []) (l, tt)) ∙ ap (λ (z : Ty). app head (tys (z ∷ []))) same

pub one_pushed : (none made : List ℕ) (k : ℕ) → none ≡ [] → made ≡ none ++ k ∷ [] → made ≡ k ∷ []
one_pushed none made k e m = m ∙ ap (λ (z : List ℕ). z ++ k ∷ []) e
