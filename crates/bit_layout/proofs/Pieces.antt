-- Lists in two pieces, numbers in binary, and zeros on the right.
use Rattle.std.proofs.Common.{◌≡◌, ℕ, zero, suc, ◌+◌, ◌-◌, ◌*◌, ◌/◌, ◌%◌, ◌^◌, ◌<◌, ◌≤◌, Bool, true, false, cond, nat_eq, List, [], ◌∷◌, ◌++◌, length, take, drop, refl, arith, ap, sym, ◌∙◌, append_assoc, length-append}
use Rattle.std.specs.Prelude.{fold, replicate}
use Rattle.std.proofs.lemmas.List.{length-replicate, append-nil, replicate-append-replicate}
use Rattle.std.proofs.Math.Pow.{shr-shr}
use Rattle.std.proofs.lemmas.List.Sums.{fold-append}
use Rattle.std.proofs.lemmas.Bool.Decides.{nat_tests}
use Rattle.rw_core.specs.Bits.{binary, padded}
use Rattle.bit_layout.specs.Parts.{with_bit, number_of}

-- equal lists whose fronts are equally long have equal fronts and equal backs
pub fronts_same : {X : Type 0} (a c b d : List X) → length a ≡ length c → a ++ b ≡ c ++ d → a ≡ c
fronts_same [] [] b d l e = refl
fronts_same [] (y ∷ c) b d l e = absurd (omega arith)
fronts_same (x ∷ a) [] b d l e = absurd (omega arith)
fronts_same (x ∷ a) (y ∷ c) b d l e =
    let m : length a ≡ length c = omega arith in let r : a ++ b ≡ c ++ d = cc in let h = fronts_same a c b d m r in cc

pub backs_same : {X : Type 0} (a c b d : List X) → length a ≡ length c → a ++ b ≡ c ++ d → b ≡ d
backs_same [] [] b d l e = e
backs_same [] (y ∷ c) b d l e = absurd (omega arith)
backs_same (x ∷ a) [] b d l e = absurd (omega arith)
backs_same (x ∷ a) (y ∷ c) b d l e =
    let m : length a ≡ length c = omega arith in let r : a ++ b ≡ c ++ d = cc in backs_same a c b d m r

pub take_front : {X : Type 0} (n : ℕ) (all a b : List X) → all ≡ a ++ b → length a ≡ n → take n all ≡ a
take_front n all [] b e l = let z : n ≡ 0 = omega arith in rw z refl
take_front zero all (x ∷ a) b e l = absurd (omega arith)
take_front (suc n) [] (x ∷ a) b e l = cc
take_front (suc n) (y ∷ all) (x ∷ a) b e l =
    let m : length a ≡ n = omega arith in let r : all ≡ a ++ b = cc in let h = take_front n all a b r m in cc

pub drop_front : {X : Type 0} (n : ℕ) (all a b : List X) → all ≡ a ++ b → length a ≡ n → drop n all ≡ b
drop_front n all [] b e l = let z : n ≡ 0 = omega arith in rw z e
drop_front zero all (x ∷ a) b e l = absurd (omega arith)
drop_front (suc n) [] (x ∷ a) b e l = cc
drop_front (suc n) (y ∷ all) (x ∷ a) b e l =
    let m : length a ≡ n = omega arith in let r : all ≡ a ++ b = cc in drop_front n all a b r m

-- as many bits as were asked for
pub length-binary : (t n : ℕ) → length (binary t n) ≡ t
length-binary zero n = refl
length-binary (suc t) n = let h = length-binary t (n / 2) in omega (arith, length-append (binary t (n / 2)) (nat_eq (n % 2) 1 ∷ []))

pub cond_odd : (n : ℕ) → cond (nat_eq (n % 2) 1) 1 0 ≡ n % 2
cond_odd n = grind (arith, nat_tests)

-- a number is told from enough of its bits
pub number_of-binary : (t n : ℕ) → n < 2 ^ t → number_of (binary t n) ≡ n
number_of-binary zero n h = omega arith
number_of-binary (suc t) n h =
    let e : 2 ^ suc t ≡ 2 * 2 ^ t = grind arith in
    let r = number_of-binary t (n / 2) (omega arith) in
    let s = fold-append with_bit 0 (binary t (n / 2)) (nat_eq (n % 2) 1 ∷ []) in
    let o = cond_odd n in omega arith

pub odd_bit : (n : ℕ) (bit : Bool) → nat_eq ((2 * n + cond bit 1 0) % 2) 1 ≡ bit
odd_bit n true = grind (arith, nat_tests)
odd_bit n false = grind (arith, nat_tests)

pub half_bit : (n : ℕ) (bit : Bool) → (2 * n + cond bit 1 0) / 2 ≡ n
half_bit n true = omega arith
half_bit n false = omega arith

-- bits are those of the number that they spell, behind the bits of what stands before them
pub binary-fold : (bits : List Bool) (k n : ℕ) → binary (k + length bits) (fold with_bit n bits) ≡ binary k n ++ bits
binary-fold [] k n = let e : k + 0 ≡ k = omega arith in rw e (sym (append-nil (binary k n)))
binary-fold (bit ∷ bits) k n =
    let e : k + suc (length bits) ≡ suc k + length bits = omega arith in
    let h = binary-fold bits (suc k) (with_bit n bit) in
    let a : binary (suc k) (with_bit n bit) ≡ binary k n ++ bit ∷ [] = ap (λ m. binary k m ++ nat_eq (with_bit n bit % 2) 1 ∷ []) (half_bit n bit) ∙ ap (λ b. binary k n ++ b ∷ []) (odd_bit n bit) in
    rw e (h ∙ ap (λ front. front ++ bits) a ∙ append_assoc (binary k n) (bit ∷ []) bits)

pub binary-number_of : (bits : List Bool) (t : ℕ) → length bits ≡ t → binary t (number_of bits) ≡ bits
binary-number_of bits t l = let e : t ≡ 0 + length bits = omega arith in rw e (binary-fold bits 0 0)

-- zeros on the right leave the front as it is
pub padded-append : (width : ℕ) (a b : List Bool) → padded width (a ++ b) ≡ a ++ padded (width - length a) b
padded-append width a b =
    let e : width - length (a ++ b) ≡ width - length a - length b = rw (length-append a b) (omega arith) in
    ap (λ n. (a ++ b) ++ replicate n false) e ∙ append_assoc a b (replicate (width - length a - length b) false)

pub length-padded : (width : ℕ) (bits : List Bool) → length bits ≤ width → length (padded width bits) ≡ width
length-padded width bits h =
    omega (arith, length-append bits (replicate (width - length bits) false), length-replicate (width - length bits) false)

pub length-le-padded : (width : ℕ) (bits : List Bool) → length bits ≤ length (padded width bits)
length-le-padded width bits = omega (arith, length-append bits (replicate (width - length bits) false))

-- one more bit of a tag
pub binary-more : (t n q : ℕ) → binary (suc t) (n / 2 ^ q) ≡ binary t (n / 2 ^ (q + 1)) ++ nat_eq (n / 2 ^ q % 2) 1 ∷ []
binary-more t n q = ap (λ m. binary t m ++ nat_eq (n / 2 ^ q % 2) 1 ∷ []) (shr-shr n q 1)

-- one more zero
pub replicate-more : (n : ℕ) → replicate (n + 1) false ≡ replicate n false ++ false ∷ []
replicate-more n = sym (replicate-append-replicate n 1 false)

-- a bit that is pushed is the next lower one of the tag
pub tag_pushed : (old bits new : List Bool) (width place q tag n : ℕ) → place ≡ q + 1 → place ≤ width → n ≡ tag → bits ≡ old ++ binary (width - place) (tag / 2 ^ place) →
    new ≡ bits ++ nat_eq (n / 2 ^ q % 2) 1 ∷ [] → new ≡ old ++ binary (width - q) (tag / 2 ^ q)
tag_pushed old bits new width place q tag n ep low en eb e =
    let w : width - q ≡ suc (width - place) = omega arith in
    rw w (e ∙ ap (λ front. front ++ nat_eq (n / 2 ^ q % 2) 1 ∷ []) eb ∙ append_assoc old (binary (width - place) (tag / 2 ^ place)) (nat_eq (n / 2 ^ q % 2) 1 ∷ [])
    ∙ ap (λ p. old ++ (binary (width - place) (tag / 2 ^ p) ++ nat_eq (n / 2 ^ q % 2) 1 ∷ [])) ep
    ∙ ap (λ m. old ++ (binary (width - place) (tag / 2 ^ (q + 1)) ++ nat_eq (m / 2 ^ q % 2) 1 ∷ [])) en
    ∙ ap (λ back. old ++ back) (sym (binary-more (width - place) tag q)))

-- a zero that is pushed
pub zero_pushed : (old bits new : List Bool) (n m : ℕ) → m ≡ n + 1 → bits ≡ old ++ replicate n false → new ≡ bits ++ false ∷ [] → new ≡ old ++ replicate m false
zero_pushed old bits new n m em eb e =
    rw em (e ∙ ap (λ front. front ++ false ∷ []) eb ∙ append_assoc old (replicate n false) (false ∷ []) ∙ ap (λ back. old ++ back) (sym (replicate-more n)))
