-- The comparison of bits decides whether they are equal.
use Rattle.std.proofs.Common.{◌≡◌, ℕ, refl, ap, sym, subst, true, ◌∙◌, eqb→eq, T, nat_eq}
use Rattle.std.specs.Prelude.{if◌then◌else◌}
use lib.Pointwise.{pointwise_decides}
use Rattle.vh_tree.specs.Bits.{Bits, bit_number, same_bit, same_bits}
use Rattle.rw_base.specs.declared.bit.Bit9.{Bit9}
use Rattle.rw_base.specs.declared.bit.Bit9.TheVariants.{U, X, Zero, One, Z, W, L, H, Dash}

bit_at : ℕ → Bit9
bit_at n = if nat_eq n 0 then U else if nat_eq n 1 then X else if nat_eq n 2 then Zero else if nat_eq n 3 then One else if nat_eq n 4 then Z else if nat_eq n 5 then W else if nat_eq n 6 then L else if nat_eq n 7 then H else Dash

bit_back : (b : Bit9) → bit_at (bit_number b) ≡ b
unfolding bit_at
bit_back U = refl
bit_back X = refl
bit_back Zero = refl
bit_back One = refl
bit_back Z = refl
bit_back W = refl
bit_back L = refl
bit_back H = refl
bit_back Dash = refl

bit_self : (b : Bit9) → same_bit b b ≡ true
bit_self U = refl
bit_self X = refl
bit_self Zero = refl
bit_self One = refl
bit_self Z = refl
bit_self W = refl
bit_self L = refl
bit_self H = refl
bit_self Dash = refl

bit_decides : (a b : Bit9) → (same_bit a b ≡ true → a ≡ b) × (a ≡ b → same_bit a b ≡ true)
bit_decides a b = (λ e. sym (bit_back a) ∙ ap bit_at (eqb→eq (bit_number a) (bit_number b) (subst T (sym e) tt)) ∙ bit_back b, λ e. subst (λ x. same_bit a x ≡ true) e (bit_self a))

pub bits_equal : (a b : Bits) → same_bits a b ≡ true → a ≡ b
bits_equal a b = (pointwise_decides bit_decides a b).0

pub bits_self : (a : Bits) → same_bits a a ≡ true
bits_self a = (pointwise_decides bit_decides a a).1 refl
