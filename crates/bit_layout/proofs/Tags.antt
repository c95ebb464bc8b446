-- The width of a tag is the least number of bits that tells the constructors apart.
use Rattle.std.proofs.Common.{◌≡◌, ℕ, ◌+◌, ◌*◌, ◌^◌, ◌<◌, ◌≤◌, nat_le, true, false, refl, arith, add-one}
use Rattle.std.proofs.Math.Nat.{pow-le-pow_right}
use Rattle.std.proofs.lemmas.Bool.Decides.{nat_tests}
use Rattle.rw_core.specs.Bits.{tag_width}
use Rattle.rw_core.specs.TagWidths.{tag_width-enough, tag_width-least}

pub power_more : (t : ℕ) → 2 ^ (t + 1) ≡ 2 * 2 ^ t
power_more t = rw add-one (grind arith)

-- a number whose power is enough, where half of it is not, is the width
pub tag_width-is : (n t : ℕ) → n ≤ 2 ^ t → ((s : ℕ) → n ≤ 2 ^ s → t ≤ s) → tag_width n ≡ t
tag_width-is n t h least =
    let a = tag_width-least n t h in let b = least (tag_width n) (tag_width-enough n) in omega arith

-- what fits below a power has a tag of no more bits
pub power_least : (n t : ℕ) → 2 ^ t < n → (s : ℕ) → n ≤ 2 ^ s → t + 1 ≤ s
power_least n t h s g =
    elim (nat_le s t) as (λ b. nat_le s t ≡ b → t + 1 ≤ s) [
      | true ↦ (λ e. let le : s ≤ t = grind (arith, nat_tests) in let p : 2 ^ s ≤ 2 ^ t = pow-le-pow_right (omega arith) le in absurd (omega arith))
      | false ↦ (λ e. grind (arith, nat_tests))
    ] refl
