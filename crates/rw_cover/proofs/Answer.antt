-- What the first place says: one list of places at most, no group left over or one at the place, and no other answer.
use Rattle.std.proofs.Common.{◌≡◌, ◌∙◌, refl, sym, ap, subst, List, [], ◌∷◌, Bool, true, false, Option, Some, None, if◌then◌else◌, ◌⊎◌, inl, inr, Result, Err}
use Rattle.std.specs.List.{AllByRecursion}
use Rattle.rw_base.specs.declared.place.Place.{Place}
use Rattle.rw_base.specs.declared.fail.Refusal.{Refusal}
use Rattle.rw_base.specs.Answers.{Fail}
use Rattle.rw_base.specs.declared.fail.Failure.TheVariants.{Refused}
use Rattle.rw_scope_rules.specs.Names.{is_before, earlier, earliest}
use Rattle.rw_cover_matrix.specs.Values.{Shapes, no_shapes, more_shapes, opaque, data_of, one_choice, more_choices}
use Rattle.rw_cover_matrix.specs.Matching.{PlainPattern, constructed, no_patterns, AreRowsOf}
use Rattle.rw_cover_matrix.specs.Coverage.{Decides}
use Rattle.rw_cover.specs.Coverage.{Group, AreUncovered}
use Rattle.rw_cover.specs.Correct.{IsFirst, HaveTypes, AllHaveTypes, IsCovered, LeavesOver, LeaveOverAt}
use Rattle.rw_cover.proofs.LeftOver.{left_over}

-- rows that have types either cover or don't
one_answer : (rows : List (List PlainPattern)) → HaveTypes rows → Decides true rows → Decides false rows → ⊥
one_answer rows types covers fails = absurd (let e = (fails types.0 types.1).1 ((covers types.0 types.1).0 refl) in cc)

pub one_list : (groups : List Group) → AllHaveTypes groups → (places others : List Place) → AreUncovered groups places → AreUncovered groups others → places ≡ others
one_list [] types places others h k = h ∙ sym k
one_list (g ∷ gs) types places others (inl h) (inl k) = one_list gs types.1 places others h.1 k.1
one_list (g ∷ gs) types places others (inl h) (inr k) = absurd (one_answer g.rows types.0 h.0 k.2)
one_list (g ∷ gs) types places others (inr h) (inl k) = absurd (one_answer g.rows types.0 k.0 h.2)
one_list (g ∷ gs) types places others (inr h) (inr k) = h.1 ∙ ap (λ (ps : List Place). g.place ∷ ps) (one_list gs types.1 h.0 k.0 h.3 k.3) ∙ sym k.1

-- a constructor of a type that has none stands at no type
no_types : (columns : Shapes) → AreRowsOf ((constructed 0 0 no_patterns ∷ []) ∷ []) columns → ⊥
no_types no_shapes fits = fits.0
no_types (more_shapes opaque columns) fits = fits.0.0
no_types (more_shapes (data_of (one_choice fields)) columns) fits = let e = fits.0.0.0 in cc
no_types (more_shapes (data_of (more_choices fields others)) columns) fits = let e = fits.0.0.0 in cc

pub both_answers : (answer : Bool) → Decides answer ((constructed 0 0 no_patterns ∷ []) ∷ [])
both_answers answer columns fits = absurd (no_types columns fits)

-- no place: all groups cover
no_places : (places : List Place) → None ≡ earliest places → places ≡ []
no_places [] h = refl
no_places (p ∷ ps) h = absurd (cc)

pub none_uncovered : (groups : List Group) → IsFirst groups None → AreUncovered groups []
none_uncovered groups h = subst (AreUncovered groups) (no_places h.0 h.2) h.1

pub all_covered : (groups : List Group) → AreUncovered groups [] → AllByRecursion IsCovered groups
all_covered [] h = tt
all_covered (g ∷ gs) (inl h) = ((λ columns fits. (h.0 columns fits).0 refl), all_covered gs h.1)
all_covered (g ∷ gs) (inr h) = absurd (let e = h.1 in cc)

-- a place: a group there leaves values over
uncovered : (g : Group) → Decides false g.rows → LeavesOver g
uncovered g fails columns fits = left_over columns g.rows (λ covers. let e = (fails columns fits).1 covers in cc)

behind : (g : Group) (gs : List Group) (place : Place) → LeaveOverAt gs place → LeaveOverAt (g ∷ gs) place
behind g gs place h = (g ∷ h.0, h.1, h.2, ap (λ (hs : List Group). g ∷ hs) h.3, h.4, h.5)

-- the first of a place and others is that place, or the first of the others
first_of : (p q : Place) (rest : Option Place) → Some q ≡ Some (earlier p rest) → (p ≡ q) ⊎ (rest ≡ Some q)
first_of p q None h = inl (cc)
first_of p q (Some r) h =
    elim (is_before r p) as (λ b. Some q ≡ Some (if b then r else p) → (p ≡ q) ⊎ (Some r ≡ Some q)) [ true ↦ (λ e. inr (cc)) | false ↦ (λ e. inl (cc)) ] h

left_over_at : (groups : List Group) (places : List Place) (place : Place) → AreUncovered groups places → Some place ≡ earliest places → LeaveOverAt groups place
left_over_at [] places place none h = absurd (let e : Some place ≡ None = h ∙ ap earliest none in cc)
left_over_at (g ∷ gs) places place (inl k) h = behind g gs place (left_over_at gs places place k.1 h)
left_over_at (g ∷ gs) places place (inr k) h =
    elim (first_of g.place place (earliest k.0) (h ∙ ap earliest k.1)) [
      | inl here ↦ ([], g, gs, refl, here, uncovered g k.2)
      | inr later ↦ behind g gs place (left_over_at gs k.0 place k.3 (sym later))
    ]

pub leave_over : (groups : List Group) (place : Place) → IsFirst groups (Some place) → LeaveOverAt groups place
leave_over groups place h = left_over_at groups h.0 place h.1 h.2

-- the first place of groups that have types
pub one_first : (groups : List Group) → AllHaveTypes groups → (one other : Option Place) → IsFirst groups one → IsFirst groups other → one ≡ other
one_first groups types one other h k = h.2 ∙ ap earliest (one_list groups types h.0 k.0 h.1 k.1) ∙ sym k.2

-- the place of a refusal
pub same_refusal : (p q : Refusal) → (let r : Result Unit Fail = Err (Refused p) in r) ≡ Err (Refused q) → p.place ≡ q.place
same_refusal p q e = let f : p ≡ q = cc in ap (λ (r : Refusal). r.place) f
