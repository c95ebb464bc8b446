-- A decision takes the statements of the number whose bits it tests.
use Rattle.std.proofs.Common.{◌≡◌, ℕ, zero, suc, ◌+◌, ◌-◌, ◌/◌, ◌%◌, ◌^◌, nat_eq, ◌<◌, ◌≤◌, List, [], ◌∷◌, ◌++◌, length, refl, ap, sym, Bool, true, false, ◌∙◌, arith, length-append, append_assoc, ⊎_elim}
use Rattle.std.proofs.Math.Seq.{drop-append_seam}
use Rattle.std.proofs.lemmas.Bool.{cases_lt}
use Rattle.std.proofs.lemmas.List.{length-map}
use Rattle.std.proofs.Math.Nat.{pow-suc}
use Rattle.std.specs.Prelude.{◌&&◌, if◌then◌else◌}
use Rattle.vh_tree.specs.Bits.{Bytes, Bits, slice_of, same_bits}
use Rattle.vh_tree.specs.Functions.{World, stmts_of}
use Rattle.vh_tree_equations.specs.Equations.{expr_of-Slice, stmt_of-If, branch_of-Branch}
use Rattle.rw_core.specs.Bits.{binary}
use Rattle.rw_base.specs.declared.bit.Bit9.{Bit9}
use Rattle.rw_base.specs.declared.bit.Bit9.TheVariants.{Zero, One}
use Rattle.vh_tree.specs.declared.stmt.VStmt.{VStmt}
use Rattle.register_machine.specs.Codes.{wire_bit, number_bits}
use Rattle.register_machine.specs.Decision.{either, decide}
use Rattle.register_machine.proofs.Numbers.{number_bits-low, number_bits-high, decide-both, decide-low}

-- one bit out of a value
one_bit : (front rest : Bits) (b : Bit9) (k : ℕ) → length rest ≡ k → slice_of k k (front ++ b ∷ rest) ≡ b ∷ []
one_bit front rest b k e =
    let at : length (front ++ b ∷ rest) - (k + 1) ≡ length front = omega (arith, length-append front (b ∷ rest), e) in
    let one : k + 1 - k ≡ 1 = omega arith in
    rw (at, one, drop-append_seam) refl

pub length-binary : (k n : ℕ) → length (binary k n) ≡ k
length-binary zero n = refl
length-binary (suc k) n = omega (arith, length-append (binary k (n / 2)) (nat_eq (n % 2) 1 ∷ []), length-binary k (n / 2))

pub length-number_bits : (k n : ℕ) → length (number_bits k n) ≡ k
length-number_bits k n = length-map (binary k n) wire_bit ∙ length-binary k n

and_true : (b : Bool) → (b && true) ≡ b
and_true true = refl
and_true false = refl

module _ (S : Type 0) (w : World S) (x : Bytes) (s : S) where
  either_means : (k : ℕ) (low high : List VStmt) (front rest : Bits) (b : Bit9) → (w.scope s).value x ≡ front ++ b ∷ rest → length rest ≡ k →
      stmts_of S (either x k low high) w s ≡ (if same_bits (b ∷ []) (Zero ∷ []) then stmts_of S low w s else stmts_of S high w s)
  either_means k low high front rest b e long =
      rw (stmt_of-If, branch_of-Branch, and_true, expr_of-Slice, e, one_bit front rest b k long) refl

  -- of number t counted from base, where it is below n
  pub decides : (n k base t : ℕ) (leaf : ℕ → List VStmt) (front : Bits) → t < 2 ^ k → base + t < n → (w.scope s).value x ≡ front ++ number_bits k t →
      stmts_of S (decide x n k base leaf) w s ≡ stmts_of S (leaf (base + t)) w s
  decides n zero base t leaf front small within e = ap (λ (m : ℕ). stmts_of S (leaf m) w s) (omega (arith, small))
  decides n (suc k) base t leaf front small within e = ⊎_elim
      (λ (both : base + 2 ^ k < n). ap (λ (body : List VStmt). stmts_of S body w s) (decide-both x n (suc k) k base leaf refl both) ∙ ⊎_elim
      (λ (under : t < 2 ^ k).
      let is : (w.scope s).value x ≡ front ++ Zero ∷ number_bits k t = e ∙ ap (λ (bits : Bits). front ++ bits) (number_bits-low k t under) in
      either_means k (decide x n k base leaf) (decide x n k (base + 2 ^ k) leaf) front (number_bits k t) Zero is (length-number_bits k t)
      ∙ decides n k base t leaf (front ++ Zero ∷ []) under within (is ∙ sym (append_assoc front (Zero ∷ []) (number_bits k t))))
      (λ (over : 2 ^ k ≤ t).
      let is : (w.scope s).value x ≡ front ++ One ∷ number_bits k (t - 2 ^ k) = e ∙ ap (λ (bits : Bits). front ++ bits) (number_bits-high k t over small) in
      let less : t - 2 ^ k < 2 ^ k = omega (arith, pow-suc 2 k) in
      let inside : base + 2 ^ k + (t - 2 ^ k) < n = omega arith in
      either_means k (decide x n k base leaf) (decide x n k (base + 2 ^ k) leaf) front (number_bits k (t - 2 ^ k)) One is (length-number_bits k (t - 2 ^ k))
      ∙ decides n k (base + 2 ^ k) (t - 2 ^ k) leaf (front ++ One ∷ []) less inside (is ∙ sym (append_assoc front (One ∷ []) (number_bits k (t - 2 ^ k))))
      ∙ ap (λ (m : ℕ). stmts_of S (leaf m) w s) (let same : base + 2 ^ k + (t - 2 ^ k) ≡ base + t = omega arith in same))
      (cases_lt t (2 ^ k)))
      (λ (only : n ≤ base + 2 ^ k).
      let under : t < 2 ^ k = omega arith in
      let is : (w.scope s).value x ≡ front ++ Zero ∷ number_bits k t = e ∙ ap (λ (bits : Bits). front ++ bits) (number_bits-low k t under) in
      ap (λ (body : List VStmt). stmts_of S body w s) (decide-low x n (suc k) k base leaf refl only)
      ∙ decides n k base t leaf (front ++ Zero ∷ []) under within (is ∙ sym (append_assoc front (Zero ∷ []) (number_bits k t))))
      (cases_lt (base + 2 ^ k) n)
