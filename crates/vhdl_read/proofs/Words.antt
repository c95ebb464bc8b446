-- Words without a capital letter are in lower case.
use Rattle.std.proofs.Common.{◌≡◌, ℕ, Bool, true, false, ◌||◌, List, [], ◌∷◌, map, refl, ap, ◌∙◌, arith}
use Rattle.std.specs.List.{list_any}
use Rattle.std.specs.Char.{is_ascii_uppercase, to_ascii_lowercase}
use Rattle.std.proofs.lemmas.Bool.Decides.{nat_tests}

neither : (a b : Bool) → (a || b) ≡ false → (a ≡ false) × (b ≡ false)
neither false b h = (refl, h)
neither true b h = absurd (cc h)

low_letter : (b : ℕ) → is_ascii_uppercase b ≡ false → to_ascii_lowercase b ≡ b
low_letter b e = grind (arith, nat_tests)

pub no_capital : (w : List ℕ) → list_any is_ascii_uppercase w ≡ false → map to_ascii_lowercase w ≡ w
no_capital [] h = refl
no_capital (b ∷ w) h =
    let k = neither (is_ascii_uppercase b) (list_any is_ascii_uppercase w) h in
    ap (λ z. z ∷ map to_ascii_lowercase w) (low_letter b k.0) ∙ ap (λ z. b ∷ z) (no_capital w k.1)
