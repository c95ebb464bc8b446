-- What is repeated behind names that were seen depends on which names these are, and not on their order.
use Rattle.std.proofs.Common.{append-nil, Result, Ok, Err, OnOk, append_assoc, ◌≡◌, refl, sym, ap, ◌∙◌, List, [], ◌∷◌, ◌++◌, Bool, true, false, ◌||◌, not, if◌then◌else◌}
use Rattle.std.proofs.lemmas.Slice.Eq.{bytes_eq-Decides}
use Rattle.rw_base.specs.declared.fail.OutOfMemory.{OutOfMemory}
use Rattle.rw_base.specs.declared.place.Span.{Span}
use Rattle.rw_base.specs.declared.place.Place.{Place}
use Rattle.rw_scope_rules.specs.Names.{Bytes, same_name, is_among, repeated, at_if}

one_name : (a b : Bytes) → same_name a b ≡ true → a ≡ b
one_name a b e = (bytes_eq-Decides a b).0 e

or_swap : (a b c : Bool) → (a || (b || c)) ≡ (b || (a || c))
or_swap true true c = refl
or_swap true false c = refl
or_swap false b c = refl

-- a name added at the end
at_end : (x name : Bytes) (seen : List Bytes) → is_among x (seen ++ name ∷ []) ≡ is_among x (name ∷ seen)
at_end x name [] = refl
at_end x name (y ∷ ys) = rw (at_end x name ys) (or_swap (same_name x y) (same_name x name) (is_among x ys))

pub alike : (a b : List Bytes) → ((x : Bytes) → is_among x a ≡ is_among x b) → (rest : List (Bytes × Span)) → repeated a rest ≡ repeated b rest
alike a b same [] = refl
alike a b same (v ∷ vs) = rw (same v.0, alike (v.0 ∷ a) (v.0 ∷ b) (λ x. ap (λ r. same_name x v.0 || r) (same x)) vs) refl

-- a name that was seen
already : (x name : Bytes) (seen : List Bytes) → is_among name seen ≡ true → is_among x (name ∷ seen) ≡ is_among x seen
already x name seen h = elim (same_name x name) as (λ v. v ≡ same_name x name → (v || is_among x seen) ≡ is_among x seen) [
  | true ↦ (λ e. sym (ap (λ z. is_among z seen) (one_name x name (sym e)) ∙ h))
  | false ↦ (λ e. refl)
] refl

is_false : (b m : Bool) → b ≡ not m → b ≡ true → m ≡ false
is_false b true e h = sym h ∙ e
is_false b false e h = refl

is_true : (b m : Bool) → b ≡ not m → b ≡ false → m ≡ true
is_true b true e h = refl
is_true b false e h = sym h ∙ e

module _ (name copy : Bytes) (at : Span) (seen now : List Bytes) (places : List Place) (added : Bool) where
  -- a new name: nothing is repeated
  pub new_name : copy ≡ name → added ≡ not (is_among copy seen) → now ≡ (if added then seen ++ copy ∷ [] else seen) → added ≡ true
      → (rest : List (Bytes × Span)) → places ++ repeated now rest ≡ places ++ (at_if (is_among name seen) at.first ++ repeated (name ∷ seen) rest)
  new_name same tells is_now h rest =
      let fresh : is_among name seen ≡ false = sym (ap (λ z. is_among z seen) same) ∙ is_false added (is_among copy seen) tells h in
      let here : now ≡ seen ++ name ∷ [] = is_now ∙ ap (λ v. if v then seen ++ copy ∷ [] else seen) h ∙ ap (λ z. seen ++ z ∷ []) same in
      rw (fresh, here) (ap (λ r. places ++ r) (alike (seen ++ name ∷ []) (name ∷ seen) (λ x. at_end x name seen) rest))

  -- one that was seen: its place is appended
  pub seen_name : (more : List Place) → copy ≡ name → added ≡ not (is_among copy seen) → now ≡ (if added then seen ++ copy ∷ [] else seen) → added ≡ false
      → more ≡ places ++ at.first ∷ []
      → (rest : List (Bytes × Span)) → more ++ repeated now rest ≡ places ++ (at_if (is_among name seen) at.first ++ repeated (name ∷ seen) rest)
  seen_name more same tells is_now h is_more rest =
      let known : is_among name seen ≡ true = sym (ap (λ z. is_among z seen) same) ∙ is_true added (is_among copy seen) tells h in
      let here : now ≡ seen = is_now ∙ ap (λ v. if v then seen ++ copy ∷ [] else seen) h in
      rw (here, is_more, known, alike (name ∷ seen) seen (λ x. already x name seen known) rest) (append_assoc places (at.first ∷ []) (repeated seen rest))

-- all names of one place, before which and after which nothing comes
pub at_last : {R : Type 0} (result : Result R OutOfMemory) (seen now : List Bytes) (old new : List Place) (vs ws : List (Bytes × Span))
    → seen ≡ [] → vs ≡ ws
    → OnOk result ((rest : List (Bytes × Span)) → new ++ repeated now rest ≡ old ++ repeated seen (vs ++ rest)) → OnOk result (new ≡ old ++ repeated [] ws)
at_last (Ok r) seen now old new vs ws none same h =
    sym (append-nil new) ∙ h [] ∙ ap (λ us. old ++ repeated seen us) (append-nil vs) ∙ ap (λ b. old ++ repeated b vs) none ∙ ap (λ us. old ++ repeated [] us) same
at_last (Err e) seen now old new vs ws none same h = h

-- a name that is put in is among the names from then on
pub put_in : (added : Bool) (name : Bytes) (seen now : List Bytes) → added ≡ not (is_among name seen) → now ≡ (if added then seen ++ name ∷ [] else seen)
    → (x : Bytes) → is_among x now ≡ is_among x (name ∷ seen)
put_in true name seen now tells is_now x = ap (is_among x) is_now ∙ at_end x name seen
put_in false name seen now tells is_now x = ap (is_among x) is_now ∙ sym (already x name seen (is_true false (is_among name seen) tells refl))
