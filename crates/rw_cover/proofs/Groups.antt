-- Groups of rows and the places of those that don't cover: one group, and one list behind another.
use Rattle.std.proofs.Common.{◌≡◌, ◌∙◌, refl, sym, ap, subst, append-nil, add-one, ℕ, ◌+◌, ◌<◌, map, flat_map, take, get_or, length, List, [], ◌∷◌, ◌++◌, Bool, true, false, Option, Some, None, if◌then◌else◌, inl, inr}
use Rattle.std.proofs.Math.Seq.{take-suc}
use Rattle.std.proofs.lemmas.List.{map-append}
use Rattle.std.proofs.lemmas.Grind.{flat_map-append}
use Rattle.rw_base.specs.declared.place.Place.{Place}
use Rattle.rw_scope_rules.specs.Names.{earliest}
use Rattle.rw_cover_matrix.specs.Coverage.{Decides}
use Rattle.rw_cover.specs.Coverage.{Group, AreUncovered}
use Rattle.rw_cover.specs.Correct.{IsFirst}
use Rattle.rw_cover.specs.Walk.{sooner}
use Rattle.rw_cover.proofs.Places.{earliest-append}

pub no_groups : IsFirst [] None
no_groups = ([], refl, refl)

-- one group, of which it is known whether it covers
pub one_group : (g : Group) (covered : Bool) → Decides covered g.rows → IsFirst (g ∷ []) (if covered then None else Some g.place)
one_group g true d = ([], inl (d, refl), refl)
one_group g false d = (g.place ∷ [], inr ([], refl, d, refl), refl)

-- the places of two lists of groups
both_uncovered : (gs hs : List Group) (ps qs : List Place) → AreUncovered gs ps → AreUncovered hs qs → AreUncovered (gs ++ hs) (ps ++ qs)
both_uncovered [] hs ps qs none k = subst (λ (ps : List Place). AreUncovered hs (ps ++ qs)) (sym none) k
both_uncovered (g ∷ gs) hs ps qs (inl h) k = inl (h.0, both_uncovered gs hs ps qs h.1 k)
both_uncovered (g ∷ gs) hs ps qs (inr h) k = inr (h.0 ++ qs, ap (λ (ps : List Place). ps ++ qs) h.1, h.2, both_uncovered gs hs h.0 qs h.3 k)

same_sooner : (a b c d : Option Place) → a ≡ b → c ≡ d → sooner a c ≡ sooner b d
same_sooner a b c d e f = ap (λ (x : Option Place). sooner x c) e ∙ ap (sooner b) f

-- the first of two lists of groups
pub both_first : (gs hs : List Group) (one other : Option Place) → IsFirst gs one → IsFirst hs other → IsFirst (gs ++ hs) (sooner one other)
both_first gs hs one other h k =
    (h.0 ++ k.0, both_uncovered gs hs h.0 k.0 h.1 k.1, same_sooner one (earliest h.0) other (earliest k.0) h.2 k.2 ∙ sym (earliest-append h.0 k.0))

-- the places of two lists of groups, apart
pub apart : (gs hs : List Group) (places : List Place) → AreUncovered (gs ++ hs) places
    → (ps : List Place) × (qs : List Place) × (places ≡ ps ++ qs) × AreUncovered gs ps × AreUncovered hs qs
apart [] hs places h = ([], places, refl, refl, h)
apart (g ∷ gs) hs places (inl h) =
    let s = apart gs hs places h.1 in
    (s.0, s.1, s.2, inl (h.0, s.3), s.4)
apart (g ∷ gs) hs places (inr h) =
    let s = apart gs hs h.0 h.3 in
    (g.place ∷ s.0, s.1, h.1 ∙ ap (λ (ps : List Place). g.place ∷ ps) s.2, inr (s.0, refl, h.2, s.3), s.4)

-- the groups of one thing more
module _ {T U : Type 0} (groups_in : U → List Group) (view : T → U) where
  one_more : (xs : List T) (i : ℕ) (x : T) → i < length xs → x ≡ get_or xs i x
      → flat_map groups_in (map view (take (i + 1) xs)) ≡ flat_map groups_in (map view (take i xs)) ++ groups_in (view x)
  one_more xs i x within here =
      ap (λ (n : ℕ). flat_map groups_in (map view (take n xs))) (add-one i)
      ∙ ap (λ (ys : List T). flat_map groups_in (map view ys)) (take-suc xs i x within)
      ∙ ap (λ (ys : List U). flat_map groups_in ys) (map-append view (take i xs) (get_or xs i x ∷ []))
      ∙ flat_map-append groups_in (map view (take i xs)) (view (get_or xs i x) ∷ [])
      ∙ ap (λ (gs : List Group). flat_map groups_in (map view (take i xs)) ++ gs) (append-nil (groups_in (view (get_or xs i x))))
      ∙ ap (λ (y : T). flat_map groups_in (map view (take i xs)) ++ groups_in (view y)) (sym here)

  pub next_first : (xs : List T) (i : ℕ) (x : T) (one other new : Option Place) → i < length xs → x ≡ get_or xs i x
      → IsFirst (flat_map groups_in (map view (take i xs))) one → IsFirst (groups_in (view x)) other → new ≡ sooner one other
      → IsFirst (flat_map groups_in (map view (take (i + 1) xs))) new
  next_first xs i x one other new within here h k e =
      subst (λ (gs : List Group). IsFirst gs new) (sym (one_more xs i x within here))
      (subst (IsFirst (flat_map groups_in (map view (take i xs)) ++ groups_in (view x))) (sym e)
      (both_first (flat_map groups_in (map view (take i xs))) (groups_in (view x)) one other h k))
