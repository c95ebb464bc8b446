-- The bits of a number from its first one on, and what a decision does with them.
use Rattle.std.proofs.Common.{◌≡◌, ℕ, zero, suc, ◌+◌, ◌-◌, ◌*◌, ◌/◌, ◌%◌, ◌^◌, ◌<◌, ◌≤◌, List, [], ◌∷◌, ◌++◌, map, Bool, true, false, nat_eq, ap, sym, subst, ◌∙◌, arith, append_assoc}
use Rattle.std.specs.Prelude.{if◌then◌else◌}
use Rattle.std.proofs.lemmas.Bool.{lt-ltb, le-ltb}
use Rattle.std.proofs.Math.Nat.{pow-suc, mod-eq_of_lt}
use Rattle.std.proofs.Math.Pow.{pow-lt}
use Rattle.rw_core.specs.Bits.{binary}
use Rattle.vh_tree.specs.Bits.{Bytes, Bits}
use Rattle.rw_base.specs.declared.bit.Bit9.TheVariants.{Zero, One}
use Rattle.vh_tree.specs.declared.stmt.VStmt.{VStmt}
use Rattle.register_machine.specs.Codes.{wire_bit, number_bits}
use Rattle.register_machine.specs.Decision.{either, decide}

-- a number below a power has a zero in front, and one from the power on has a one
pub binary_low : (k n : ℕ) → n < 2 ^ k → binary (suc k) n ≡ false ∷ binary k n
binary_low zero n h = let none : n ≡ 0 = omega arith in ap (λ (m : ℕ). nat_eq (m % 2) 1 ∷ []) none
binary_low (suc k) n h =
    let half : n / 2 < 2 ^ k = omega (arith, pow-suc 2 k) in
    ap (λ (bits : List Bool). bits ++ nat_eq (n % 2) 1 ∷ []) (binary_low k (n / 2) half)

pub binary_high : (k n : ℕ) → n < 2 ^ k → binary (suc k) (2 ^ k + n) ≡ true ∷ binary k n
binary_high zero n h = let none : n ≡ 0 = omega arith in ap (λ (m : ℕ). nat_eq ((1 + m) % 2) 1 ∷ []) none
binary_high (suc k) n h =
    let half : n / 2 < 2 ^ k = omega (arith, pow-suc 2 k) in
    let halved : (2 ^ suc k + n) / 2 ≡ 2 ^ k + n / 2 = omega (arith, pow-suc 2 k) in
    let odd : (2 ^ suc k + n) % 2 ≡ n % 2 = omega (arith, pow-suc 2 k) in
    ap (λ (m : ℕ). binary (suc k) m ++ nat_eq ((2 ^ suc k + n) % 2) 1 ∷ []) halved
    ∙ ap (λ (m : ℕ). binary (suc k) (2 ^ k + n / 2) ++ nat_eq m 1 ∷ []) odd
    ∙ ap (λ (bits : List Bool). bits ++ nat_eq (n % 2) 1 ∷ []) (binary_high k (n / 2) half)

pub number_bits-low : (k n : ℕ) → n < 2 ^ k → number_bits (suc k) n ≡ Zero ∷ number_bits k n
number_bits-low k n h = ap (map wire_bit) (binary_low k n h)

pub number_bits-high : (k n : ℕ) → 2 ^ k ≤ n → n < 2 ^ suc k → number_bits (suc k) n ≡ One ∷ number_bits k (n - 2 ^ k)
number_bits-high k n low h =
    let whole : n ≡ 2 ^ k + (n - 2 ^ k) = omega arith in
    let less : n - 2 ^ k < 2 ^ k = omega (arith, pow-suc 2 k) in
    ap (number_bits (suc k)) whole ∙ ap (map wire_bit) (binary_high k (n - 2 ^ k) less)

-- one bit pushed
pub pushed_low : (all out new : Bits) (n r : ℕ) → 0 < n → r < 2 ^ (n - 1) → new ≡ out ++ Zero ∷ [] → out ++ number_bits n r ≡ all → new ++ number_bits (n - 1) r ≡ all
pushed_low all out new n r some under e so_far =
    let less : n ≡ suc (n - 1) = omega arith in
    rw e (append_assoc out (Zero ∷ []) (number_bits (n - 1) r)
    ∙ ap (λ (bits : Bits). out ++ bits) (sym (ap (λ (m : ℕ). number_bits m r) less ∙ number_bits-low (n - 1) r under)) ∙ so_far)

pub pushed_high : (all out new : Bits) (n r r' : ℕ) → 0 < n → 2 ^ (n - 1) ≤ r → r < 2 ^ n → r' ≡ r - 2 ^ (n - 1) → new ≡ out ++ One ∷ [] → out ++ number_bits n r ≡ all → new ++ number_bits (n - 1) r' ≡ all
pushed_high all out new n r r' some over under less_by e so_far =
    let less : n ≡ suc (n - 1) = omega arith in
    let fits : r < 2 ^ suc (n - 1) = subst (λ (m : ℕ). r < 2 ^ m) less under in
    rw (e, less_by) (append_assoc out (One ∷ []) (number_bits (n - 1) (r - 2 ^ (n - 1)))
    ∙ ap (λ (bits : Bits). out ++ bits) (sym (ap (λ (m : ℕ). number_bits m r) less ∙ number_bits-high (n - 1) r over fits)) ∙ so_far)

-- a power, and the one below it
pub doubled : (n : ℕ) → 0 < n → 2 ^ (n - 1) + 2 ^ (n - 1) ≡ 2 ^ n
doubled n some =
    let less : n ≡ suc (n - 1) = omega arith in
    let twice : 2 ^ suc (n - 1) ≡ 2 ^ (n - 1) * 2 = pow-suc 2 (n - 1) in
    let same : 2 ^ n ≡ 2 ^ suc (n - 1) = ap (λ (k : ℕ). 2 ^ k) less in
    omega (arith, twice, same)

pub shift_is : (k : ℕ) → k < 64 → 1 * 2 ^ k % 18446744073709551616 ≡ 2 ^ k
shift_is k h =
    let fits : 2 ^ k < 2 ^ 64 = pow-lt h in
    let small : 1 * 2 ^ k < 18446744073709551616 = omega (arith, fits) in
    mod-eq_of_lt small ∙ (let e : 1 * 2 ^ k ≡ 2 ^ k = omega arith in e)

-- a decision on one bit more
pub decide-both : (x : Bytes) (n left k base : ℕ) (leaf : ℕ → List VStmt) → left ≡ suc k → base + 2 ^ k < n →
    decide x n left base leaf ≡ either x k (decide x n k base leaf) (decide x n k (base + 2 ^ k) leaf)
decide-both x n left k base leaf e under =
    rw e (ap (λ (t : Bool). if t then either x k (decide x n k base leaf) (decide x n k (base + 2 ^ k) leaf) else decide x n k base leaf) (lt-ltb (base + 2 ^ k) n under))

pub decide-low : (x : Bytes) (n left k base : ℕ) (leaf : ℕ → List VStmt) → left ≡ suc k → n ≤ base + 2 ^ k → decide x n left base leaf ≡ decide x n k base leaf
decide-low x n left k base leaf e over =
    rw e (ap (λ (t : Bool). if t then either x k (decide x n k base leaf) (decide x n k (base + 2 ^ k) leaf) else decide x n k base leaf) (le-ltb (base + 2 ^ k) n over))
