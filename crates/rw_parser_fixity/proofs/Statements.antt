-- The statements of a `do`, one at a time: what was made so far, put before what is made of the rest, is what is made of all.
use Rattle.std.proofs.Common.{◌≡◌, ◌∙◌, ℕ, suc, max, ◌+◌, ◌<◌, ◌≤◌, List, [], ◌∷◌, ◌++◌, map, drop, length, get_or, Some, None, refl, sym, ap, arith, append_assoc, append-nil}
use Rattle.rw_parser_reading.specs.Read.{◌>>=◌}
use Rattle.rw_parser_chains.specs.Resolving.{Made, fits, below_of}
use Rattle.rw_parser_chains.proofs.Turns.{with_front, no_front}
use Rattle.rw_parser_fixity.proofs.Chains.{at, beyond, none_dropped}

module _ {T : Type 0} (make : T → Made T) where
  -- what is left at a place
  abbrev pub rest : List T → ℕ → Made (List T)
  rest xs i = below_of i (map make (drop i xs))

  front_more : (all new : List T) (t : T) (levels n : ℕ) (r : Made (List T)) → new ≡ all ++ t ∷ []
      → with_front new (max levels n) r ≡ with_front all levels (r >>= (λ q. Some (t ∷ q.0, max n q.1)))
  front_more all new t levels n None e = refl
  front_more all new t levels n (Some q) e =
      let m : max (max levels n) q.1 ≡ max levels (max n q.1) = omega arith in
      ap (λ z. Some (z ++ q.0, max (max levels n) q.1)) e ∙ ap (λ z. Some (z, max (max levels n) q.1)) (append_assoc all (t ∷ []) q.0) ∙ ap (λ z. Some (all ++ t ∷ q.0, z)) m

  one_below : (k j : ℕ) (x : Made T) (xs : List (Made T)) (t : T) (n m : ℕ) → j ≡ suc k → x ≡ Some (t, n) → fits (suc k + n) ≡ Some m → below_of k (x ∷ xs) ≡ (below_of j xs >>= (λ q. Some (t ∷ q.0, max m q.1)))
  unfolding below_of
  one_below k j x xs t n m e f g = rw (e, f, g) refl

  below_none : (k : ℕ) (x : Made T) (xs : List (Made T)) → x ≡ None → below_of k (x ∷ xs) ≡ None
  unfolding below_of
  below_none k x xs e = rw e refl

  below_deep : (k : ℕ) (x : Made T) (xs : List (Made T)) (t : T) (n : ℕ) → x ≡ Some (t, n) → fits (suc k + n) ≡ None → below_of k (x ∷ xs) ≡ None
  unfolding below_of
  below_deep k x xs t n e f = rw (e, f) refl

  no_below : (k : ℕ) → below_of {T = T} k [] ≡ (fits (suc k) >>= (λ n. Some ([], n)))
  unfolding below_of
  no_below k = refl

  pub begin : (xs : List T) → with_front [] 0 (rest xs 0) ≡ below_of 0 (map make xs)
  begin xs = no_front (rest xs 0) ∙ ap (λ z. below_of 0 (map make z)) (none_dropped xs)

  pub step : (xs all new : List T) (i levels n m : ℕ) (x t : T) → i < length xs → x ≡ get_or xs i x → make x ≡ Some (t, n) → fits (suc i + n) ≡ Some m → new ≡ all ++ t ∷ []
      → with_front new (max levels m) (rest xs (i + 1)) ≡ with_front all levels (rest xs i)
  step xs all new i levels n m x t l e f g p =
      front_more all new t levels m (rest xs (i + 1)) p
      ∙ ap (with_front all levels) (sym (one_below i (i + 1) (make x) (map make (drop (i + 1) xs)) t n m (omega arith) f g))
      ∙ ap (λ z. with_front all levels (below_of i (map make z))) (sym (at xs i x l e))

  pub fail : (xs all : List T) (i levels : ℕ) (x : T) → i < length xs → x ≡ get_or xs i x → make x ≡ None → with_front all levels (rest xs i) ≡ None
  fail xs all i levels x l e f =
      ap (λ z. with_front all levels (below_of i (map make z))) (at xs i x l e) ∙ ap (with_front all levels) (below_none i (make x) (map make (drop (i + 1) xs)) f)

  pub deep : (xs all : List T) (i levels n : ℕ) (x t : T) → i < length xs → x ≡ get_or xs i x → make x ≡ Some (t, n) → fits (suc i + n) ≡ None → with_front all levels (rest xs i) ≡ None
  deep xs all i levels n x t l e f g =
      ap (λ z. with_front all levels (below_of i (map make z))) (at xs i x l e) ∙ ap (with_front all levels) (below_deep i (make x) (map make (drop (i + 1) xs)) t n f g)

  pub done : (xs all : List T) (i j levels n : ℕ) → length xs ≤ i → j ≡ suc i + 0 → fits j ≡ Some n → with_front all levels (rest xs i) ≡ Some (all, max levels n)
  done xs all i j levels n l e f =
      let s : suc i ≡ j = omega arith in
      ap (λ z. with_front all levels (below_of i (map make z))) (beyond xs i l) ∙ ap (with_front all levels) (no_below i)
      ∙ ap (λ z. with_front all levels (fits z >>= (λ n. Some ([], n)))) s ∙ ap (λ z. with_front all levels (z >>= (λ n. Some ([], n)))) f ∙ ap (λ z. Some (z, max levels n)) (append-nil all)

  pub too_many : (xs all : List T) (i j levels : ℕ) → length xs ≤ i → j ≡ suc i + 0 → fits j ≡ None → with_front all levels (rest xs i) ≡ None
  too_many xs all i j levels l e f =
      let s : suc i ≡ j = omega arith in
      ap (λ z. with_front all levels (below_of i (map make z))) (beyond xs i l) ∙ ap (with_front all levels) (no_below i)
      ∙ ap (λ z. with_front all levels (fits z >>= (λ n. Some ([], n)))) s ∙ ap (λ z. with_front all levels (z >>= (λ n. Some ([], n)))) f
