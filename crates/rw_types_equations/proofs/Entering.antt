-- Binding local names, one after the other.
use Rattle.std.proofs.Common.{◌≡◌, ℕ, List, [], ◌∷◌, ◌++◌, append_assoc, map, length, take, refl, sym, ◌∙◌, ap}
use Rattle.std.proofs.lemmas.List.{append-nil, map-append}
use Rattle.std.proofs.Math.Seq.{take-append_seam}
use Rattle.rw_types_solving.specs.Types.{Ty}
use Rattle.rw_types_equations.specs.Equations.{Entered}

pub entered_none : (old new : List ℕ) (L : (ℕ → Ty) → List Ty) → new ≡ old → ((t : ℕ → Ty) → L t ≡ []) → Entered old new L
entered_none old new L p f = record { more = []; kept = p ∙ sym (append-nil old); names = λ t. sym (f t) }

pub entered_one : (old new : List ℕ) (n : ℕ) (L : (ℕ → Ty) → List Ty) → new ≡ old ++ n ∷ [] → ((t : ℕ → Ty) → L t ≡ t n ∷ []) → Entered old new L
entered_one old new n L p f = record { more = n ∷ []; kept = p; names = λ t. sym (f t) }

pub entered_as : (old new : List ℕ) (L M : (ℕ → Ty) → List Ty) → Entered old new L → ((t : ℕ → Ty) → L t ≡ M t) → Entered old new M
entered_as old new L M e f = record { more = e.more; kept = e.kept; names = λ t. e.names t ∙ f t }

-- what is bound so far, before what is to come, is the whole
pub record EnteredSo (old now : List ℕ) (Whole Rest : (ℕ → Ty) → List Ty) : Type 0 where
  pub more : List ℕ
  pub kept : now ≡ old ++ more
  pub names : (t : ℕ → Ty) → map t more ++ Rest t ≡ Whole t

pub entered_start : (old now : List ℕ) (Whole : (ℕ → Ty) → List Ty) → now ≡ old → EnteredSo old now Whole Whole
entered_start old now Whole p = record { more = []; kept = p ∙ sym (append-nil old); names = λ t. refl }

pub entered_step : (old now next : List ℕ) (Whole Rest X Later : (ℕ → Ty) → List Ty) → EnteredSo old now Whole Rest → Entered now next X → ((t : ℕ → Ty) → Rest t ≡ X t ++ Later t) → EnteredSo old next Whole Later
entered_step old now next Whole Rest X Later s e f = record {
  more = s.more ++ e.more;
  kept = e.kept ∙ ap (λ z. z ++ e.more) s.kept ∙ append_assoc old s.more e.more;
  names = λ t. ap (λ z. z ++ Later t) (map-append t s.more e.more ∙ ap (λ z. map t s.more ++ z) (e.names t)) ∙ append_assoc (map t s.more) (X t) (Later t) ∙ ap (λ z. map t s.more ++ z) (sym (f t)) ∙ s.names t;
}

pub entered_done : (old now : List ℕ) (Whole Rest : (ℕ → Ty) → List Ty) → EnteredSo old now Whole Rest → ((t : ℕ → Ty) → Rest t ≡ []) → Entered old now Whole
entered_done old now Whole Rest s f = record { more = s.more; kept = s.kept; names = λ t. sym (append-nil (map t s.more)) ∙ ap (λ z. map t s.more ++ z) (sym (f t)) ∙ s.names t }

-- the types of all names that are bound then
pub entered_types : (old new : List ℕ) (L : (ℕ → Ty) → List Ty) → Entered old new L → (t : ℕ → Ty) → map t new ≡ map t old ++ L t
entered_types old new L e t = ap (map t) e.kept ∙ map-append t old e.more ∙ ap (λ z. map t old ++ z) (e.names t)

-- they are unbound again
pub entered_left : (old new left : List ℕ) (n : ℕ) (L : (ℕ → Ty) → List Ty) → Entered old new L → n ≡ length old → left ≡ take n new → left ≡ old
entered_left old new left n L e p q = q ∙ ap (λ z. take z new) p ∙ ap (take (length old)) e.kept ∙ take-append_seam old e.more

-- more names are bound
pub record Longer (old now : List ℕ) : Type 0 where
  pub more : List ℕ
  pub kept : now ≡ old ++ more

pub longer_start : (old now : List ℕ) → now ≡ old → Longer old now
longer_start old now p = record { more = []; kept = p ∙ sym (append-nil old) }

pub longer_step : (old now next : List ℕ) (X : (ℕ → Ty) → List Ty) → Longer old now → Entered now next X → Longer old next
longer_step old now next X l e = record { more = l.more ++ e.more; kept = e.kept ∙ ap (λ z. z ++ e.more) l.kept ∙ append_assoc old l.more e.more }

pub longer_same : (old now next : List ℕ) → Longer old now → next ≡ now → Longer old next
longer_same old now next l p = record { more = l.more; kept = p ∙ l.kept }

pub longer_left : (old now left : List ℕ) (n : ℕ) → Longer old now → n ≡ length old → left ≡ take n now → left ≡ old
longer_left old now left n l p q = q ∙ ap (λ z. take z now) p ∙ ap (take (length old)) l.kept ∙ take-append_seam old l.more
