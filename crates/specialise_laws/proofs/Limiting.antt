-- The limits: what shows that an instance is the first too many, and that none is.
use Rattle.std.proofs.Common.{◌≡◌, ℕ, zero, suc, ◌<◌, ◌≤◌, List, [], ◌∷◌, ◌++◌, length, take, drop, slice_get, Some, refl, sym, ◌∙◌, ap, subst, arith, ⊎_elim}
use Rattle.std.specs.List.{flat_map, sum_by}
use Rattle.std.proofs.lemmas.List.{take-append-drop}
use Rattle.std.proofs.lemmas.List.Concat.{flat_map-append}
use Rattle.std.proofs.lemmas.Option.{slice_get_within}
use Rattle.rw_types_solving.specs.Types.{Ty, nodes}
use Rattle.rw_tree.specs.Declarations.{Declaration}
use Rattle.rw_types_rules.specs.TypedTrees.{TypedNode}
use Rattle.rw_types_rules.specs.Schemes.{World}
use Rattle.specialise_rules.specs.Instances.{Instance, declared_in, next_instance, first_instances}
use Rattle.specialise_rules.specs.Tables.{data_in, types_in, data_types, Sees, IsTableOf}
use Rattle.specialise_rules.specs.Limits.{most_instances, most_nodes, IsTooMuch, IsFirstTooMuch, AreInstances}
use Rattle.specialise_laws.specs.Looking.{AreWithin}
use Rattle.specialise_laws.proofs.Listing.{front_is, first_all}
use Rattle.specialise_laws.proofs.Seeing.{sees_split, sees_longer}

slice_get-take : {X : Type 0} (xs : List X) (n m : ℕ) → m < n → slice_get (take n xs) m ≡ slice_get xs m
slice_get-take xs zero m l = absurd (omega arith)
slice_get-take [] (suc n) m l = refl
slice_get-take (x ∷ xs) (suc n) zero l = refl
slice_get-take (x ∷ xs) (suc n) (suc m) l = slice_get-take xs n m (omega arith)

slice_get-last : {X : Type 0} (xs : List X) (x : X) → slice_get (xs ++ x ∷ []) (length xs) ≡ Some x
slice_get-last [] x = refl
slice_get-last (y ∷ ys) x = slice_get-last ys x

data_types-append : (typed : List (Declaration TypedNode)) (is js : List Instance) → data_types typed (is ++ js) ≡ data_types typed is ++ data_types typed js
data_types-append typed is js =
    ap (flat_map data_in) (flat_map-append (λ (i : Instance). types_in (declared_in typed i)) is js)
    ∙ flat_map-append data_in (flat_map (λ (i : Instance). types_in (declared_in typed i)) is) (flat_map (λ (i : Instance). types_in (declared_in typed i)) js)

module _ (world : World) (typed : List (Declaration TypedNode)) where
  -- the table of a front is no longer
  front_table : (list : List Instance) (m : ℕ) (table : List Ty) → IsTableOf world typed list table
      → (front : List Ty) × IsTableOf world typed (take m list) front × (length front ≤ length table)
  front_table list m table s =
      let both = ap (data_types typed) (sym (take-append-drop m list)) ∙ data_types-append typed (take m list) (drop m list) in
      let two = sees_split (data_types typed (take m list)) (data_types typed (drop m list)) (subst (λ (z : List Ty). Sees world [] z table) both s) in
      (two.0, two.1, sees_longer two.2)

  pub none_much : (list : List Instance) (table : List Ty) → AreWithin world typed list table → (m : ℕ) (j : Instance) → m < length list → slice_get (first_instances typed (suc m)) m ≡ Some j → IsTooMuch world typed m j → ⊥
  none_much list table w m j l e much =
      let front = front_is typed list (suc m) w.first (omega arith) in
      let here : slice_get list m ≡ Some j = sym (slice_get-take list (suc m) m (omega arith)) ∙ ap (λ (z : List Instance). slice_get z m) (sym front) ∙ e in
      let small = w.small m j here in let few = w.few in
      let narrow = w.narrow in
      let f = front_table list (suc m) table w.tabled in
      ⊎_elim (λ (same : m ≡ most_instances). absurd (omega arith))
      (λ other. ⊎_elim (λ (large : most_nodes < sum_by nodes j.arguments). absurd (omega arith))
      (λ wide. let more = wide f.0 (subst (λ (z : List Instance). IsTableOf world typed z f.0) (sym front) f.1) in absurd (omega (arith, f.2))) other) much

  pub first_much : (list : List Instance) (table : List Ty) (i : Instance) → AreWithin world typed list table → next_instance typed list ≡ i ∷ [] → IsTooMuch world typed (length list) i → IsFirstTooMuch world typed (length list) i
  first_much list table i w e much = record {
    listed = ap (λ (z : List Instance). slice_get z (length list)) (ap (λ (z : List Instance). z ++ next_instance typed z) (sym w.first) ∙ ap (λ (z : List Instance). list ++ z) e) ∙ slice_get-last list i;
    much = much;
    first = λ m j l f t. none_much list table w m j l f t;
  }

  pub all_listed : (list : List Instance) (table : List Ty) → AreWithin world typed list table → next_instance typed list ≡ [] → AreInstances world typed list
  all_listed list table w e = record {
    listed = first_all typed list most_instances w.first e w.few;
    all = e;
    none = λ n i f t. let l = slice_get_within list n i f in
        none_much list table w n i l (ap (λ (z : List Instance). slice_get z n) (front_is typed list (suc n) w.first (omega arith)) ∙ slice_get-take list (suc n) n (omega arith) ∙ f) t;
  }
