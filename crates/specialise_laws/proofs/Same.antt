-- The tests of types and instances are equality.
use Rattle.std.proofs.Common.{◌≡◌, true, nat_eq, List, [], ◌∷◌, refl, ap}
use Rattle.rw_types_solving.specs.Types.{Ty, Tys, var, app, none, more, same_head}
use Rattle.rw_types_solving.proofs.Laws.{is_same, itself, head_is, head_self}
use Rattle.rw_types_solving.proofs.StateMonads.{both, and_true}
use Rattle.specialise_rules.specs.Instances.{same_type, same_types, same_list, Instance, same_instance}

mutual
  pub type_is : (t u : Ty) → same_type t u ≡ true → t ≡ u
  type_is (var x) (var y) e = ap var (is_same x y e)
  type_is (var x) (app h ts) e = absurd (cc)
  type_is (app h ts) (var y) e = absurd (cc)
  type_is (app h ts) (app k us) e =
      let two = both (same_head h k) (same_types ts us) e in let one = head_is h k two.0 in let other = types_are ts us two.1 in cc

  pub types_are : (ts us : Tys) → same_types ts us ≡ true → ts ≡ us
  types_are none none e = refl
  types_are none (more u us) e = absurd (cc)
  types_are (more t ts) none e = absurd (cc)
  types_are (more t ts) (more u us) e =
      let two = both (same_type t u) (same_types ts us) e in let one = type_is t u two.0 in let other = types_are ts us two.1 in cc

mutual
  pub type_self : (t : Ty) → same_type t t ≡ true
  type_self (var x) = itself x
  type_self (app h ts) = and_true (same_head h h) (same_types ts ts) (head_self h) (types_self ts)

  pub types_self : (ts : Tys) → same_types ts ts ≡ true
  types_self none = refl
  types_self (more t ts) = and_true (same_type t t) (same_types ts ts) (type_self t) (types_self ts)

pub list_is : (ts us : List Ty) → same_list ts us ≡ true → ts ≡ us
list_is [] [] e = refl
list_is [] (u ∷ us) e = absurd (cc)
list_is (t ∷ ts) [] e = absurd (cc)
list_is (t ∷ ts) (u ∷ us) e =
    let two = both (same_type t u) (same_list ts us) e in let one = type_is t u two.0 in let other = list_is ts us two.1 in cc

pub list_self : (ts : List Ty) → same_list ts ts ≡ true
list_self [] = refl
list_self (t ∷ ts) = and_true (same_type t t) (same_list ts ts) (type_self t) (list_self ts)

pub instance_is : (i j : Instance) → same_instance i j ≡ true → i ≡ j
instance_is i j e =
    let two = both (nat_eq i.declaration j.declaration) (same_list i.arguments j.arguments) e in
    let one = is_same i.declaration j.declaration two.0 in let other = list_is i.arguments j.arguments two.1 in
    λ z. record { declaration = one z; arguments = other z }

pub instance_self : (i : Instance) → same_instance i i ≡ true
instance_self i = and_true (nat_eq i.declaration i.declaration) (same_list i.arguments i.arguments) (itself i.declaration) (list_self i.arguments)
