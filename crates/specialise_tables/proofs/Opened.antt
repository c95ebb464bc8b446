-- What is seen before a type, and what of a world that depends on.
use Rattle.std.proofs.Common.{◌≡◌, ◌<◌, ℕ, zero, suc, true, false, List, [], ◌∷◌, ◌++◌, map, length, get_or, append-nil, refl, sym, ◌∙◌, ap, subst, arith}
use Rattle.std.specs.List.{flat_map}
use Rattle.std.proofs.lemmas.List.{map-append}
use Rattle.std.proofs.lemmas.List.Concat.{flat_map-append}
use Rattle.rw_types_solving.specs.declared.term.Head.{Head}
use Rattle.rw_types_solving.specs.declared.term.Head.TheVariants as h
use Rattle.rw_types_solving.specs.Types.{Ty, var, app, tys, apply}
use Rattle.rw_types_rules.specs.Schemes.{Scheme, World}
use Rattle.rw_types_rules.specs.WellTyped.{given}
use Rattle.rw_types_shared.specs.Shared.{Node, node_at, type_at, AreBelow, IsProper, Extends}
use Rattle.rw_types_shared.proofs.Levels.{below_further, type_kept, types_kept, type_of_node}
use Rattle.specialise_rules.specs.Tables.{listed, data_in, data_in_all, fields_of, Sees, sees_nothing, sees_known, sees_new}
use Rattle.specialise_tables.specs.Fields.{taking, world_with, fields_in}
use Rattle.specialise_tables.specs.Going.{IsOpened}

listed_tys : (ts : List Ty) → listed (tys ts) ≡ ts
listed_tys [] = refl
listed_tys (t ∷ ts) = ap (λ (z : List Ty). t ∷ z) (listed_tys ts)

data_in_tys : (ts : List Ty) → data_in_all (tys ts) ≡ flat_map data_in ts
data_in_tys [] = refl
data_in_tys (t ∷ ts) = ap (λ (z : List Ty). data_in t ++ z) (data_in_tys ts)

-- == Fields in a world ==

fields_each : (f : Ty → Ty) (schemes : List Scheme) → map (λ (s : Scheme). map f s.takes) schemes ≡ map (map f) (map (λ (s : Scheme). s.takes) schemes)
fields_each f [] = refl
fields_each f (s ∷ ss) = ap (λ (z : List (List Ty)). map f s.takes ∷ z) (fields_each f ss)

fields_at : (f : Ty → Ty) (made : List (List Scheme)) (n : ℕ) → map (λ (s : Scheme). map f s.takes) (get_or made n []) ≡ map (map f) (get_or (map (map (λ (s : Scheme). s.takes)) made) n [])
fields_at f [] n = refl
fields_at f (m ∷ ms) zero = fields_each f m
fields_at f (m ∷ ms) (suc n) = fields_at f ms n

-- the types of fields are all that matters
pub fields_same : (world other : World) → fields_in world ≡ fields_in other → (t : Ty) → fields_of world t ≡ fields_of other t
fields_same world other e (var x) = refl
fields_same world other e (app h.Tuple ts) = refl
fields_same world other e (app (h.Data n) ts) =
    fields_at (apply (given (listed ts))) world.constructed n
    ∙ ap (λ (z : List (List (List Ty))). map (map (apply (given (listed ts)))) (get_or z n [])) e
    ∙ sym (fields_at (apply (given (listed ts))) other.constructed n)
fields_same world other e (app _ ts) = refl

pub sees_same : (world other : World) → fields_in world ≡ fields_in other → {table types after : List Ty} → Sees world table types after → Sees other table types after
sees_same world other e sees_nothing = sees_nothing
sees_same world other e (sees_known k f) = sees_known k (sees_same world other e f)
sees_same world other e (sees_new {table = table} {inner = inner} {t = t} k h f) =
    sees_new k (subst (λ (z : List (List Ty)). Sees other table (flat_map data_in (flat_map (λ fields. fields) z)) inner) (fields_same world other e t) (sees_same world other e h)) (sees_same world other e f)

takes_taking : (made : List (List Ty)) → map (λ (s : Scheme). s.takes) (map taking made) ≡ made
takes_taking [] = refl
takes_taking (m ∷ ms) = ap (λ (z : List (List Ty)). m ∷ z) (takes_taking ms)

pub fields_in_world : (fields : List (List (List Ty))) → fields_in (world_with fields) ≡ fields
fields_in_world [] = refl
fields_in_world (m ∷ ms) = let one = takes_taking m in let rest = fields_in_world ms in λ i. one i ∷ rest i

flat_each : (f : Ty → Ty) (made : List (List Ty)) → flat_map (λ (takes : List Ty). map f takes) made ≡ flat_map (λ (fields : List Ty). fields) (map (map f) made)
flat_each f [] = refl
flat_each f (m ∷ ms) = ap (λ (z : List Ty). map f m ++ z) (flat_each f ms)

-- == The type of a node, opened ==

module _ (fields : List (List (List Ty))) (old new : List Node) (number : ℕ) (head : Head) (args : List ℕ) (p : IsProper old) (e : Extends old new) (l : number < length old) (is : node_at old number ≡ (head, args)) where
  typed : type_at new number ≡ app head (tys (map (type_at old) args))
  typed = type_kept old new p e number l ∙ type_of_node old number (head, args) p is

  pub opened_data : (n : ℕ) (made : List ℕ) → head ≡ h.Data n
      → map (type_at new) made ≡ flat_map (λ takes. map (apply (given (map (type_at old) args))) takes) (get_or fields n [])
      → IsOpened (world_with fields) true (type_at new number) (map (type_at new) made)
  opened_data n made d are =
      subst (λ (t : Ty). IsOpened (world_with fields) true t (map (type_at new) made)) (sym (typed ∙ ap (λ (z : Head). app z (tys (map (type_at old) args))) d)) (
        refl,
        are ∙ flat_each (apply (given (map (type_at old) args))) (get_or fields n [])
            ∙ ap (λ (z : List (List (List Ty))). flat_map (λ (takes : List Ty). takes) (map (map (apply (given (map (type_at old) args)))) (get_or z n []))) (sym (fields_in_world fields))
            ∙ ap (flat_map (λ (takes : List Ty). takes)) (sym (fields_at (apply (given (map (type_at old) args))) (world_with fields).constructed n))
            ∙ ap (λ (z : List Ty). flat_map (λ (takes : List Ty). takes) (map (λ (s : Scheme). map (apply (given z)) s.takes) (get_or (world_with fields).constructed n []))) (sym (listed_tys (map (type_at old) args))),
      )

module _ (fields : List (List (List Ty))) (types : List Node) (number : ℕ) (head : Head) (args : List ℕ) (p : IsProper types) (is : node_at types number ≡ (head, args)) where
  pub opened_tuple : head ≡ h.Tuple → IsOpened (world_with fields) true (type_at types number) (map (type_at types) args)
  opened_tuple d =
      subst (λ (t : Ty). IsOpened (world_with fields) true t (map (type_at types) args)) (sym (type_of_node types number (head, args) p is ∙ ap (λ (z : Head). app z (tys (map (type_at types) args))) d))
      (refl, sym (append-nil (listed (tys (map (type_at types) args))) ∙ listed_tys (map (type_at types) args)))

  other : (k : Head) → ((n : ℕ) → k ≡ h.Data n → ⊥) → (k ≡ h.Tuple → ⊥) → (ts : List Ty) → data_in (app k (tys ts)) ≡ flat_map data_in ts
  other (h.Data n) a b ts = absurd (a n refl)
  other h.Tuple a b ts = absurd (b refl)
  other h.Fun a b ts = data_in_tys ts
  other (h.Unknown n) a b ts = data_in_tys ts
  other h.Comp a b ts = data_in_tys ts
  other h.I a b ts = data_in_tys ts
  other h.Layer a b ts = data_in_tys ts
  other h.StateT a b ts = data_in_tys ts
  other h.ReT a b ts = data_in_tys ts

  pub opened_other : ((n : ℕ) → head ≡ h.Data n → ⊥) → (head ≡ h.Tuple → ⊥) → IsOpened (world_with fields) false (type_at types number) (map (type_at types) args)
  opened_other a b = ap data_in (type_of_node types number (head, args) p is) ∙ other head a b (map (type_at types) args)

-- == Numbers of fields ==

pub below_both : (n : ℕ) (ks js : List ℕ) → AreBelow n ks → AreBelow n js → AreBelow n (ks ++ js)
below_both n [] js b c = c
below_both n (k ∷ ks) js b c = (b.0, below_both n ks js b.1 c)

pub parts_within : (types : List Node) (number : ℕ) (node : Node) → IsProper types → number < length types → node ≡ node_at types number → AreBelow (length types) node.1
parts_within types number node p l e =
    subst (λ (z : Node). AreBelow (length types) z.1) (sym e) (below_further number (length types) (omega arith) (node_at types number).1 (p.earlier number))

-- the fields of one constructor more
pub fields_next : (f : Ty → Ty) (now new : List Node) (all more whole : List ℕ) (before after : List (List Ty)) (takes : List Ty) → IsProper now → Extends now new → AreBelow (length now) all → whole ≡ all ++ more
    → map (type_at now) all ≡ flat_map (λ (t : List Ty). map f t) before → map (type_at new) more ≡ map f takes → after ≡ before ++ takes ∷ []
    → map (type_at new) whole ≡ flat_map (λ (t : List Ty). map f t) after
fields_next f now new all more whole before after takes p e b w are here a =
    ap (map (type_at new)) w ∙ map-append (type_at new) all more
    ∙ ap (λ (z : List Ty). z ++ map (type_at new) more) (types_kept now new p e all b ∙ are)
    ∙ ap (λ (z : List Ty). flat_map (λ (t : List Ty). map f t) before ++ z) here
    ∙ sym (ap (flat_map (λ (t : List Ty). map f t)) a ∙ flat_map-append (λ (t : List Ty). map f t) before (takes ∷ [])
    ∙ ap (λ (z : List Ty). flat_map (λ (t : List Ty). map f t) before ++ z) (append-nil (map f takes)))
