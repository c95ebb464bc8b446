-- The listed instances, and what is left to look through.
use Rattle.std.proofs.Common.{◌≡◌, ℕ, zero, suc, ◌+◌, ◌-◌, ◌≤◌, Bool, true, false, ◌||◌, List, [], ◌∷◌, ◌++◌, length, take, append_assoc, append-nil, refl, sym, ◌∙◌, ap, arith, if◌then◌else◌}
use Rattle.std.specs.List.{flat_map}
use Rattle.std.proofs.lemmas.List.{length-append, take_at}
use Rattle.std.proofs.lemmas.List.Concat.{flat_map-append}
use Rattle.std.proofs.lemmas.List.Folds.{list_any-append}
use Rattle.rw_tree.specs.Declarations.{Declaration}
use Rattle.rw_types_rules.specs.TypedTrees.{TypedNode}
use Rattle.specialise_rules.specs.Instances.{Instance, same_instance, is_among, first_missing, start_from, mentioned, next_instance, first_instances}
use Rattle.specialise_laws.specs.Looking.{AreListed, IsLeft, AreFirst}
use Rattle.specialise_laws.proofs.Same.{instance_self}

or_first : (a b : Bool) → a ≡ true → (a || b) ≡ true
or_first true b e = refl
or_first false b e = absurd (cc)

or_second : (a b : Bool) → b ≡ true → (a || b) ≡ true
or_second true b e = refl
or_second false b e = e

-- == What is listed ==

pub among_more : (i : Instance) (list more : List Instance) → is_among i list ≡ true → is_among i (list ++ more) ≡ true
among_more i list more e = list_any-append (same_instance i) list more ∙ or_first (is_among i list) (is_among i more) e

pub among_last : (i : Instance) (list : List Instance) → is_among i (list ++ i ∷ []) ≡ true
among_last i list =
    list_any-append (same_instance i) list (i ∷ []) ∙ or_second (is_among i list) (is_among i (i ∷ [])) (or_first (same_instance i i) false (instance_self i))

pub listed_more : (list more is : List Instance) → AreListed list is → AreListed (list ++ more) is
listed_more list more [] a = tt
listed_more list more (i ∷ is) a = (among_more i list more a.0, listed_more list more is a.1)

pub listed_both : (list is js : List Instance) → AreListed list is → AreListed list js → AreListed list (is ++ js)
listed_both list [] js a b = b
listed_both list (i ∷ is) js a b = (a.0, listed_both list is js a.1 b)

missing_known : (b : Bool) (list is : List Instance) (i : Instance) → b ≡ true → (if b then first_missing list is else i ∷ []) ≡ first_missing list is
missing_known true list is i e = refl
missing_known false list is i e = absurd (cc)

missing_new : (b : Bool) (list is : List Instance) (i : Instance) → b ≡ false → (if b then first_missing list is else i ∷ []) ≡ i ∷ []
missing_new true list is i e = absurd (cc)
missing_new false list is i e = refl

-- what is listed is passed over
pub missing_behind : (list before left : List Instance) → AreListed list before → first_missing list (before ++ left) ≡ first_missing list left
missing_behind list [] left a = refl
missing_behind list (i ∷ is) left a = missing_known (is_among i list) list (is ++ left) i a.0 ∙ missing_behind list is left a.1

-- == What is left ==

module _ (typed : List (Declaration TypedNode)) where
  pub nothing_listed : IsLeft typed [] (start_from 0 typed)
  nothing_listed = record { before = []; all = append-nil (start_from 0 typed); listed = tt }

  pub left_known : (list left : List Instance) (i : Instance) → IsLeft typed list (i ∷ left) → is_among i list ≡ true → IsLeft typed list left
  left_known list left i l e = record {
    before = l.before ++ i ∷ [];
    all = l.all ∙ sym (append_assoc l.before (i ∷ []) left);
    listed = listed_both list l.before (i ∷ []) l.listed (e, tt);
  }

  pub left_new : (list left : List Instance) (i : Instance) → IsLeft typed list (i ∷ left) → IsLeft typed (list ++ i ∷ []) (left ++ mentioned typed i)
  left_new list left i l = record {
    before = l.before ++ i ∷ [];
    all = ap (λ (z : List Instance). start_from 0 typed ++ z) (flat_map-append (mentioned typed) list (i ∷ []) ∙ ap (λ (z : List Instance). flat_map (mentioned typed) list ++ z) (append-nil (mentioned typed i)))
        ∙ sym (append_assoc (start_from 0 typed) (flat_map (mentioned typed) list) (mentioned typed i))
        ∙ ap (λ (z : List Instance). z ++ mentioned typed i) (l.all ∙ sym (append_assoc l.before (i ∷ []) left))
        ∙ append_assoc (l.before ++ i ∷ []) left (mentioned typed i);
    listed = listed_both (list ++ i ∷ []) l.before (i ∷ []) (listed_more list (i ∷ []) l.before l.listed) (among_last i list, tt);
  }

  pub next_left : (list left : List Instance) → IsLeft typed list left → next_instance typed list ≡ first_missing list left
  next_left list left l = ap (first_missing list) l.all ∙ missing_behind list l.before left l.listed

  pub next_none : (list : List Instance) → IsLeft typed list [] → next_instance typed list ≡ []
  next_none list l = next_left list [] l

  pub next_some : (list left : List Instance) (i : Instance) → IsLeft typed list (i ∷ left) → is_among i list ≡ false → next_instance typed list ≡ i ∷ []
  next_some list left i l e = next_left list (i ∷ left) l ∙ missing_new (is_among i list) list left i e

  -- == The first instances ==

  one_on : (m k : ℕ) → m + suc k ≡ suc (m + k)
  one_on m k = omega arith

  none_on : (m : ℕ) → m + 0 ≡ m
  none_on m = omega arith

  pub grows : (m k : ℕ) → (more : List Instance) × (first_instances typed (m + k) ≡ first_instances typed m ++ more)
  grows m zero = ([], ap (first_instances typed) (none_on m) ∙ sym (append-nil (first_instances typed m)))
  grows m (suc k) =
      let before = grows m k in (
        before.0 ++ next_instance typed (first_instances typed (m + k)),
        ap (first_instances typed) (one_on m k) ∙ ap (λ (z : List Instance). z ++ next_instance typed (first_instances typed (m + k))) before.1
            ∙ append_assoc (first_instances typed m) before.0 (next_instance typed (first_instances typed (m + k))),
      )

  pub stays : (m k : ℕ) → next_instance typed (first_instances typed m) ≡ [] → first_instances typed (m + k) ≡ first_instances typed m
  stays m zero e = ap (first_instances typed) (none_on m)
  stays m (suc k) e =
      let before = stays m k e in
      ap (first_instances typed) (one_on m k) ∙ ap (λ (z : List Instance). z ++ next_instance typed z) before
      ∙ ap (λ (z : List Instance). first_instances typed m ++ z) e ∙ append-nil (first_instances typed m)

  missing_short : (list is : List Instance) → length (first_missing list is) ≤ 1
  missing_short list [] = omega arith
  missing_short list (i ∷ is) = by_test (is_among i list) (missing_short list is)
    where
      by_test : (b : Bool) → length (first_missing list is) ≤ 1 → length (if b then first_missing list is else i ∷ []) ≤ 1
      by_test true h = h
      by_test false h = omega arith

  pub few_more : (m k : ℕ) → length (first_instances typed (m + k)) ≤ length (first_instances typed m) + k
  few_more m zero = let e = ap (λ (z : ℕ). length (first_instances typed z)) (none_on m) in omega arith
  few_more m (suc k) =
      let e = ap (λ (z : ℕ). length (first_instances typed z)) (one_on m k) in let before = few_more m k in
      let both = length-append (first_instances typed (m + k)) (next_instance typed (first_instances typed (m + k))) in
      let short = missing_short (first_instances typed (m + k)) (start_from 0 typed ++ flat_map (mentioned typed) (first_instances typed (m + k))) in
      omega arith

  pub few : (m : ℕ) → length (first_instances typed m) ≤ m
  few m = let e = few_more 0 m in let z : 0 + m ≡ m = omega arith in let f = ap (λ (z : ℕ). length (first_instances typed z)) z in omega arith

  -- where a list is the first instances, its fronts are
  pub front_is : (list : List Instance) (m : ℕ) → AreFirst typed list → m ≤ length list → first_instances typed m ≡ take m list
  front_is list m a l =
      let k = length list - m in let sum : m + k ≡ length list = omega arith in
      let g = grows m k in
      let whole : list ≡ first_instances typed m ++ g.0 = a ∙ ap (first_instances typed) (sym sum) ∙ g.1 in
      let most = few_more m k in let at_most = few m in let same = ap (λ (z : ℕ). length (first_instances typed z)) sum in let same_length = ap length a in
      let long : length (first_instances typed m) ≡ m = omega arith in
      sym (ap (take m) whole ∙ take_at (first_instances typed m) g.0 m long)

  pub first_none : AreFirst typed []
  first_none = refl

  pub first_more : (list : List Instance) (i : Instance) → AreFirst typed list → next_instance typed list ≡ i ∷ [] → AreFirst typed (list ++ i ∷ [])
  first_more list i a e =
      let long : length (list ++ i ∷ []) ≡ suc (length list) = let both = length-append list (i ∷ []) in omega arith in
      sym (ap (first_instances typed) long ∙ ap (λ (z : List Instance). z ++ next_instance typed z) (sym a) ∙ ap (λ (z : List Instance). list ++ z) e)

  pub first_all : (list : List Instance) (n : ℕ) → AreFirst typed list → next_instance typed list ≡ [] → length list ≤ n → list ≡ first_instances typed n
  first_all list n a e l =
      let k = n - length list in let sum : length list + k ≡ n = omega arith in
      a ∙ sym (ap (first_instances typed) (sym sum) ∙ stays (length list) k (ap (next_instance typed) (sym a) ∙ e))
