-- The width of a tag tells the constructors apart, and none less does.
use Rattle.std.proofs.Common.{◌≡◌, ℕ, zero, suc, ◌+◌, ◌*◌, ◌^◌, ◌≤◌, nat_le, true, false, cond, refl, arith}
use Rattle.std.proofs.Math.Nat.{one-le-pow}
use Rattle.std.proofs.lemmas.Bool.Decides.{nat_tests}
use Rattle.rw_core.specs.Bits.{power_from, tag_width}

le_power : (n : ℕ) → n ≤ 2 ^ n
le_power zero = omega arith
le_power (suc n) = let h = le_power n in let p : 1 ≤ 2 ^ n = one-le-pow n 2 (omega arith) in let e : 2 ^ suc n ≡ 2 * 2 ^ n = grind arith in omega arith

-- the first power is large enough, if one within the steps is
power_from-enough : (steps t n : ℕ) → n ≤ 2 ^ (t + steps) → n ≤ 2 ^ power_from steps t n
power_from-enough zero t n h = grind arith
power_from-enough (suc steps) t n h =
    elim (nat_le n (2 ^ t)) as (λ b. nat_le n (2 ^ t) ≡ b → n ≤ 2 ^ cond b t (power_from steps (t + 1) n)) [
      | true ↦ (λ e. grind (arith, nat_tests))
      | false ↦ (λ e. let r : t + 1 + steps ≡ t + suc steps = omega arith in let g : n ≤ 2 ^ (t + 1 + steps) = rw r h in power_from-enough steps (t + 1) n g)
    ] refl

-- and no lesser one from t on is
power_from-least : (steps t n s : ℕ) → t ≤ s → n ≤ 2 ^ s → power_from steps t n ≤ s
power_from-least zero t n s low h = low
power_from-least (suc steps) t n s low h =
    elim (nat_le n (2 ^ t)) as (λ b. nat_le n (2 ^ t) ≡ b → cond b t (power_from steps (t + 1) n) ≤ s) [
      | true ↦ (λ e. low)
      | false ↦ (λ e. let g : t + 1 ≤ s = grind (arith, nat_tests) in power_from-least steps (t + 1) n s g h)
    ] refl

pub tag_width-enough : (n : ℕ) → n ≤ 2 ^ tag_width n
unfolding tag_width
tag_width-enough n = let e : 0 + n ≡ n = omega arith in power_from-enough n 0 n (rw e (le_power n))

pub tag_width-least : (n t : ℕ) → n ≤ 2 ^ t → tag_width n ≤ t
unfolding tag_width
tag_width-least n t h = power_from-least n 0 n t (omega arith) h
