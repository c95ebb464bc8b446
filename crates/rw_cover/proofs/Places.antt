-- The sooner of two places: it doesn't matter in which order several places are compared.
use Rattle.std.proofs.Common.{◌≡◌, ◌∙◌, refl, sym, ap, arith, ℕ, List, [], ◌∷◌, ◌++◌, Bool, true, false, Option, Some, None, if◌then◌else◌}
use Rattle.std.proofs.lemmas.Bool.Decides.{nat_tests}
use Rattle.rw_base.specs.declared.place.Place.{Place}
use Rattle.rw_scope_rules.specs.Names.{is_before, earlier, earliest}
use Rattle.rw_cover.specs.Walk.{sooner}

same_place : (p q : Place) → p.line ≡ q.line → p.column ≡ q.column → p ≡ q
same_place p q e f = ap (λ (n : ℕ). let place : Place = record { line = n; column = p.column } in place) e ∙ ap (λ (n : ℕ). let place : Place = record { line = q.line; column = n } in place) f

-- no place is before one that is before it
apart : (p q : Place) → is_before p q ≡ true → is_before q p ≡ true → ⊥
apart p q h k = grind (arith, nat_tests)

-- of two places neither of which is before the other
alike : (p q : Place) → is_before p q ≡ false → is_before q p ≡ false → p ≡ q
alike p q h k = same_place p q (grind (arith, nat_tests)) (grind (arith, nat_tests))

through : (p q r : Place) → is_before p q ≡ true → is_before q r ≡ true → is_before p r ≡ true
through p q r h k = grind (arith, nat_tests)

not_through : (p q r : Place) → is_before p q ≡ false → is_before q r ≡ false → is_before p r ≡ false
not_through p q r h k = grind (arith, nat_tests)

-- the nearer of three places
grouped : (p q r : Place) (b c : Bool) → is_before q p ≡ b → is_before r q ≡ c
    → earlier p (Some (if is_before r q then r else q)) ≡ earlier (if is_before q p then q else p) (Some r)
grouped p q r true true h k = rw (k, h, k, through r q p k h) refl
grouped p q r true false h k = rw (k, h, k) refl
grouped p q r false true h k = rw (k, h) refl
grouped p q r false false h k = rw (k, h, not_through r q p k h) refl

turned : (p q : Place) (b c : Bool) → is_before q p ≡ b → is_before p q ≡ c → earlier p (Some q) ≡ earlier q (Some p)
turned p q true true h k = absurd (apart p q k h)
turned p q true false h k = rw (h, k) refl
turned p q false true h k = rw (h, k) refl
turned p q false false h k = rw (h, k) (alike p q k h)

-- the sooner of the first two, and of the third
pub sooner_grouped : (a b c : Option Place) → sooner a (sooner b c) ≡ sooner (sooner a b) c
sooner_grouped None b c = refl
sooner_grouped (Some p) None c = refl
sooner_grouped (Some p) (Some q) None = refl
sooner_grouped (Some p) (Some q) (Some r) = ap Some (grouped p q r (is_before q p) (is_before r q) refl refl)

-- the same the other way round
pub sooner_turned : (a b : Option Place) → sooner a b ≡ sooner b a
sooner_turned None None = refl
sooner_turned None (Some q) = refl
sooner_turned (Some p) None = refl
sooner_turned (Some p) (Some q) = ap Some (turned p q (is_before q p) (is_before p q) refl refl)

-- the first of several places and of several others
pub earliest-append : (ps qs : List Place) → earliest (ps ++ qs) ≡ sooner (earliest ps) (earliest qs)
earliest-append [] qs = refl
earliest-append (p ∷ ps) qs = ap (λ first. Some (earlier p first)) (earliest-append ps qs) ∙ sooner_grouped (Some p) (earliest ps) (earliest qs)

-- the first places of two lists, each in two parts, part by part
pub sooner_crossed : (a b c d : Option Place) → sooner (sooner a b) (sooner c d) ≡ sooner (sooner a c) (sooner b d)
sooner_crossed a b c d =
    sym (sooner_grouped a b (sooner c d))
    ∙ ap (sooner a) (sooner_grouped b c d ∙ ap (λ x. sooner x d) (sooner_turned b c) ∙ sym (sooner_grouped c b d))
    ∙ sooner_grouped a c (sooner b d)
