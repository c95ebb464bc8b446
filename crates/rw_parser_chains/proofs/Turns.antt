-- What the loops over the parts of a tree keep: what was made so far, put before what is made of the rest, is what is made of all.
use Rattle.std.proofs.Common.{◌≡◌, ◌∙◌, ℕ, max, ◌+◌, ◌<◌, ◌≤◌, List, [], ◌∷◌, ◌++◌, map, drop, length, get_or, Some, None, refl, sym, ap, arith, append_assoc, append-nil}
use Rattle.std.proofs.lemmas.Grind.{common_steps}
use Rattle.rw_parser_reading.specs.Read.{◌>>=◌}
use Rattle.rw_parser_chains.specs.Resolving.{Made, all_of}

module _ {T : Type 0} where
  drop_at : (xs : List T) (i : ℕ) (x : T) → i < length xs → x ≡ get_or xs i x → drop i xs ≡ x ∷ drop (i + 1) xs
  drop_at xs i x l e = grind (arith, common_steps)

  drop_all : (xs : List T) (i : ℕ) → length xs ≤ i → drop i xs ≡ []
  drop_all xs i l = grind (arith, common_steps)

  abbrev pub with_front : List T → ℕ → Made (List T) → Made (List T)
  with_front xs n r = r >>= (λ q. Some (xs ++ q.0, max n q.1))

  pub no_front : (r : Made (List T)) → with_front [] 0 r ≡ r
  no_front None = refl
  no_front (Some q) = let e : max 0 q.1 ≡ q.1 = omega arith in ap (λ n. Some (q.0, n)) e

  front_more : (all new : List T) (t : T) (levels n : ℕ) (r : Made (List T)) → new ≡ all ++ t ∷ []
      → with_front new (max levels n) r ≡ with_front all levels (r >>= (λ q. Some (t ∷ q.0, max n q.1)))
  front_more all new t levels n None e = refl
  front_more all new t levels n (Some q) e =
      let m : max (max levels n) q.1 ≡ max levels (max n q.1) = omega arith in
      ap (λ z. Some (z ++ q.0, max (max levels n) q.1)) e ∙ ap (λ z. Some (z, max (max levels n) q.1)) (append_assoc all (t ∷ []) q.0) ∙ ap (λ z. Some (all ++ t ∷ q.0, z)) m

  module _ (make : T → Made T) where
    pub all_step : (xs all new : List T) (i levels n : ℕ) (x t : T) → i < length xs → x ≡ get_or xs i x → make x ≡ Some (t, n) → new ≡ all ++ t ∷ []
        → with_front new (max levels n) (all_of (map make (drop (i + 1) xs))) ≡ with_front all levels (all_of (map make (drop i xs)))
    unfolding all_of
    all_step xs all new i levels n x t l e m p =
        front_more all new t levels n (all_of (map make (drop (i + 1) xs))) p
        ∙ ap (λ z. with_front all levels (z >>= (λ p. all_of (map make (drop (i + 1) xs)) >>= (λ q. Some (p.0 ∷ q.0, max p.1 q.1))))) (sym m)
        ∙ ap (λ z. with_front all levels (all_of (map make z))) (sym (drop_at xs i x l e))

    pub all_fail : (xs all : List T) (i levels : ℕ) (x : T) → i < length xs → x ≡ get_or xs i x → make x ≡ None → with_front all levels (all_of (map make (drop i xs))) ≡ None
    unfolding all_of
    all_fail xs all i levels x l e m =
        ap (λ z. with_front all levels (all_of (map make z))) (drop_at xs i x l e)
        ∙ ap (λ z. with_front all levels (z >>= (λ p. all_of (map make (drop (i + 1) xs)) >>= (λ q. Some (p.0 ∷ q.0, max p.1 q.1))))) m

    pub all_done : (xs all : List T) (i levels : ℕ) → length xs ≤ i → with_front all levels (all_of (map make (drop i xs))) ≡ Some (all, levels)
    unfolding all_of
    all_done xs all i levels l =
        let m : max levels 0 ≡ levels = omega arith in
        ap (λ z. with_front all levels (all_of (map make z))) (drop_all xs i l) ∙ ap (λ z. Some (z, max levels 0)) (append-nil all) ∙ ap (λ z. Some (all, z)) m
