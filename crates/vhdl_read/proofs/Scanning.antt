-- One turn of the loops over bytes.
use Rattle.std.proofs.Common.{◌≡◌, ℕ, zero, suc, ◌+◌, ◌*◌, ◌-◌, ◌≤◌, ◌<◌, true, nat_lt, List, [], ◌∷◌, ◌++◌, length, get_or, drop, Option, Some, None, refl, sym, ◌∙◌, ap, append_assoc, append-nil, arith, add-one}
use Rattle.std.proofs.lemmas.Bool.Decides.{nat_tests}
use Rattle.rw_base.specs.declared.fail.Failure.TheVariants as fail
use Rattle.vh_tree.specs.declared.token.Token.{Token}
use Rattle.vh_tree_reading.specs.Scan.{◌>>=◌, front, added, tokens_at, scanned, read_on, value_of}

abbrev pub behind_all : List Token → Option (List Token) → Option (List Token)
behind_all before None = None
behind_all before (Some q) = Some (before ++ q)

added_again : (before : List Token) (x : Option Token) (r : Option (List Token)) → behind_all (before ++ added x []) r ≡ behind_all before (r >>= λ q. Some (added x q))
added_again before x None = refl
added_again before None (Some q) = ap (λ z. Some (z ++ q)) (append-nil before)
added_again before (Some x) (Some q) = rw append_assoc

scan_go : (n : ℕ) (b : ℕ) (bs : List ℕ) (p : Option Token × List ℕ) → front (b ∷ bs) ≡ Some p → tokens_at (suc n) (b ∷ bs) ≡ (tokens_at n p.1 >>= λ q. Some (added p.0 q))
unfolding tokens_at
scan_go n b bs p h = rw h

pub scan_step : (n m : ℕ) (ts : List ℕ) (before : List Token) (p : Option Token × List ℕ) → n ≡ m + 1 → 0 < length ts → front ts ≡ Some p
    → behind_all (before ++ added p.0 []) (tokens_at m p.1) ≡ behind_all before (tokens_at n ts)
scan_step n m [] before p e g h = absurd (omega arith)
scan_step n m (b ∷ bs) before p e g h = added_again before p.0 (tokens_at m p.1) ∙ sym (ap (behind_all before) (ap (λ x. tokens_at x (b ∷ bs)) (e ∙ add-one m) ∙ scan_go m b bs p h))

pub scan_fail : (n m : ℕ) (ts : List ℕ) (before : List Token) → n ≡ m + 1 → 0 < length ts → front ts ≡ None → behind_all before (tokens_at n ts) ≡ None
unfolding tokens_at
scan_fail n m [] before e g h = absurd (omega arith)
scan_fail n m (b ∷ bs) before e g h = rw (e, add-one m, h)

pub scan_end : (n : ℕ) (before : List Token) (ts : List ℕ) → length ts ≡ 0 → behind_all before (tokens_at n ts) ≡ Some before
unfolding tokens_at
scan_end zero before [] e = ap Some (append-nil before)
scan_end (suc n) before [] e = ap Some (append-nil before)
scan_end n before (b ∷ bs) e = absurd (omega arith)

pub scan_none : (n : ℕ) (before : List Token) (ts : List ℕ) → n ≡ 0 → 0 < length ts → behind_all before (tokens_at n ts) ≡ None
unfolding tokens_at
scan_none n before [] e h = absurd (omega arith)
scan_none n before (b ∷ bs) e h = rw e

pub grows : (n : ℕ) (ds : List ℕ) → n ≤ read_on n ds
grows n [] = omega arith
grows n (d ∷ ds) = let h = grows (10 * n + (d - 48)) ds in omega arith

pub too_large : (n : ℕ) (ds ws : List ℕ) → 2147483647 < n → read_on n ds ≡ read_on 0 ws → value_of ws ≡ None
unfolding value_of
too_large n ds ws h e = let g = grows n ds in let l : nat_lt 2147483647 (read_on 0 ws) ≡ true = grind (arith, nat_tests) in rw l

pub next_digit : (v i : ℕ) (ds : List ℕ) → i < length ds → read_on (10 * v + (get_or ds i 0 - 48)) (drop (i + 1) ds) ≡ read_on v (drop i ds)
next_digit v i [] h = absurd (omega arith)
next_digit v zero (d ∷ ds) h = refl
next_digit v (suc i) (d ∷ ds) h = let e : suc i + 1 ≡ suc (i + 1) = omega arith in rw e (next_digit v i ds (omega arith))

-- as many turns as there are bytes
pub scan_turns : (bs : List ℕ) → scanned bs ≡ tokens_at (length bs) bs
unfolding scanned
scan_turns bs = refl
