-- The end of a block comment is found, and nothing else is.
use Rattle.std.proofs.Common.{◌≡◌, ℕ, suc, ◌+◌, ◌-◌, ◌<◌, true, false, ◌||◌, nat_eq, List, [], ◌∷◌, ◌++◌, length, take, Some, refl, sym, ap, ◌∙◌, subst, arith, add-one, inl, inr}
use Rattle.std.proofs.lemmas.Bool.Decides.{nat_tests}
use Rattle.rw_lex.specs.Tokens.{opens, closes, begins_mark, Closes, the_last, one_less, one_more, another}
use Rattle.rw_lex.specs.Scan.{closing_len}
use Rattle.rw_lex.proofs.Tools.{both, neither, chosen, some_is, same_number, further_some, take_one}

-- a byte that begins no mark with the next is passed
passed : (n b : ℕ) (bs : List ℕ) → 0 < length bs → begins_mark (b ∷ bs) ≡ false → closing_len n b bs ≡ closing_len n 0 bs
unfolding closing_len
passed n b [] some e = absurd (omega arith)
passed n b (c ∷ bs) some e = let k = neither (opens b c) (closes b c) e in rw (k.0, k.1)

closes_some : {n : ℕ} {bs : List ℕ} → Closes n bs → 0 < length bs
closes_some the_last = omega arith
closes_some (one_less n bs d) = omega arith
closes_some (one_more n bs d) = omega arith
closes_some (another n b bs e d) = omega arith

mark_before : (b : ℕ) (bs rest : List ℕ) → 0 < length bs → begins_mark (b ∷ bs) ≡ false → begins_mark (b ∷ (bs ++ rest)) ≡ false
mark_before b [] rest some e = absurd (omega arith)
mark_before b (c ∷ bs) rest some e = e

some_before : (bs rest : List ℕ) → 0 < length bs → 0 < length (bs ++ rest)
some_before [] rest some = absurd (omega arith)
some_before (c ∷ bs) rest some = omega arith

closing_less : (n : ℕ) (bs : List ℕ) (k : ℕ) → closing_len (suc n) 0 bs ≡ Some k → closing_len (suc (suc n)) 0 (45 ∷ 125 ∷ bs) ≡ Some (2 + k)
unfolding closing_len
closing_less n bs k e =
    let t : nat_eq (suc (suc n)) 1 ≡ false = grind (arith, nat_tests) in
    let m : suc (suc n) - 1 ≡ suc n = omega arith in
    rw (t, m, e) (ap Some (omega arith))

closing_more : (n : ℕ) (bs : List ℕ) (k : ℕ) → closing_len (suc n) 0 bs ≡ Some k → closing_len n 0 (123 ∷ 45 ∷ bs) ≡ Some (2 + k)
unfolding closing_len
closing_more n bs k e = rw (add-one n, e) (ap Some (omega arith))

closing_other : (n b : ℕ) (bs : List ℕ) (k : ℕ) → closing_len n b bs ≡ Some k → closing_len n 0 (b ∷ bs) ≡ Some (1 + k)
unfolding closing_len
closing_other n b bs k e = rw e

-- bytes that close a comment are found again before what follows
pub closes_again : {n : ℕ} {inside : List ℕ} → Closes n inside → (rest : List ℕ) → closing_len n 0 (inside ++ rest) ≡ Some (length inside)
unfolding closing_len
closes_again the_last rest = refl
closes_again (one_less n bs d) rest = closing_less n (bs ++ rest) (length bs) (closes_again d rest) ∙ ap Some (omega arith)
closes_again (one_more n bs d) rest = closing_more n (bs ++ rest) (length bs) (closes_again d rest) ∙ ap Some (omega arith)
closes_again (another n b bs e d) rest =
    let some = closes_some d in
    closing_other n b (bs ++ rest) (length bs) (passed n b (bs ++ rest) (some_before bs rest some) (mark_before b bs rest some e) ∙ closes_again d rest) ∙ ap Some (omega arith)

-- what is found closes the comment: behind a byte that belongs to no mark yet, and with none
record Found (bs : List ℕ) : Type 0 where
  behind : (n before k : ℕ) → 0 < n → closing_len n before bs ≡ Some k → Closes n (before ∷ take k bs)
  alone : (n k : ℕ) → 0 < n → closing_len n 0 bs ≡ Some k → Closes n (take k bs)

joined_opens : (n before b k j : ℕ) (bs : List ℕ) → opens before b ≡ true → k ≡ 1 + j → Closes (n + 1) (take j bs) → Closes n (before ∷ take k (b ∷ bs))
joined_opens n before b k j bs o e d =
    let p = both (nat_eq before 123) (nat_eq b 45) o in
    let q : before ≡ 123 = same_number before 123 p.0 in
    let r : b ≡ 45 = same_number b 45 p.1 in
    let t : take k (b ∷ bs) ≡ b ∷ take j bs = ap (λ z. take z (b ∷ bs)) e ∙ take_one b j bs in
    let whole : 123 ∷ 45 ∷ take j bs ≡ before ∷ take k (b ∷ bs) = cc in
    subst (Closes n) whole (one_more n (take j bs) (subst (λ m. Closes m (take j bs)) (add-one n) d))

joined_last : (n before b k : ℕ) (bs : List ℕ) → closes before b ≡ true → n ≡ 1 → k ≡ 1 → Closes n (before ∷ take k (b ∷ bs))
joined_last n before b k bs o m e =
    let p = both (nat_eq before 45) (nat_eq b 125) o in
    let q : before ≡ 45 = same_number before 45 p.0 in
    let r : b ≡ 125 = same_number b 125 p.1 in
    let t : take k (b ∷ bs) ≡ b ∷ [] = ap (λ z. take z (b ∷ bs)) e in
    let whole : 45 ∷ 125 ∷ [] ≡ before ∷ take k (b ∷ bs) = cc in
    subst (Closes n) whole (subst (λ m. Closes m (45 ∷ 125 ∷ [])) (sym m) the_last)

joined_closes : (n m before b k j : ℕ) (bs : List ℕ) → closes before b ≡ true → n ≡ suc (suc m) → k ≡ 1 + j → Closes (suc m) (take j bs) → Closes n (before ∷ take k (b ∷ bs))
joined_closes n m before b k j bs o f e d =
    let p = both (nat_eq before 45) (nat_eq b 125) o in
    let q : before ≡ 45 = same_number before 45 p.0 in
    let r : b ≡ 125 = same_number b 125 p.1 in
    let t : take k (b ∷ bs) ≡ b ∷ take j bs = ap (λ z. take z (b ∷ bs)) e ∙ take_one b j bs in
    let whole : 45 ∷ 125 ∷ take j bs ≡ before ∷ take k (b ∷ bs) = cc in
    subst (Closes n) whole (subst (λ z. Closes z (45 ∷ 125 ∷ take j bs)) (sym f) (one_less m (take j bs) d))

joined_other : (n before b k j : ℕ) (bs : List ℕ) → opens before b ≡ false → closes before b ≡ false → k ≡ 1 + j → Closes n (b ∷ take j bs) → Closes n (before ∷ take k (b ∷ bs))
joined_other n before b k j bs o f e d =
    let t : take k (b ∷ bs) ≡ b ∷ take j bs = ap (λ z. take z (b ∷ bs)) e ∙ take_one b j bs in
    let no : begins_mark (before ∷ b ∷ take j bs) ≡ false = ap (λ z. z || closes before b) o ∙ f in
    subst (λ z. Closes n (before ∷ z)) (sym t) (another n before (b ∷ take j bs) no d)

found : (bs : List ℕ) → Found bs
unfolding closing_len
found [] = record { behind = λ n before k some e. absurd (cc e); alone = λ n k some e. absurd (cc e) }
found (b ∷ bs) =
    let h = found bs in
    record {
      behind = λ n before k some e.
          elim (chosen (opens before b) _ _ _ e) [
            | inl o ↦ let f = further_some 1 k (closing_len (n + 1) 0 bs) o.1 in joined_opens n before b k f.0 bs o.0 f.2 (h.alone (n + 1) f.0 (omega arith) f.1)
            | inr o ↦ elim (chosen (closes before b) _ _ _ o.1) [
              | inl c ↦ elim (chosen (nat_eq n 1) _ _ _ c.1) [
                | inl l ↦ joined_last n before b k bs c.0 (same_number n 1 l.0) (sym (some_is 1 k l.1))
                | inr l ↦ let f = further_some 1 k (closing_len (n - 1) 0 bs) l.1 in
                    let other : nat_eq n 1 ≡ false = l.0 in
                    let two : 1 < n = grind (arith, nat_tests) in
                    let m : n ≡ suc (suc (n - 2)) = omega arith in
                    let less : n - 1 ≡ suc (n - 2) = omega arith in
                    joined_closes n (n - 2) before b k f.0 bs c.0 m f.2 (subst (λ z. Closes z (take f.0 bs)) less (h.alone (n - 1) f.0 (omega arith) f.1))
              ]
              | inr c ↦ let f = further_some 1 k (closing_len n b bs) c.1 in joined_other n before b k f.0 bs o.0 c.0 f.2 (h.behind n b f.0 some f.1)
            ]
          ];
      alone = λ n k some e.
          let f = further_some 1 k (closing_len n b bs) e in
          let t : take k (b ∷ bs) ≡ b ∷ take f.0 bs = ap (λ z. take z (b ∷ bs)) f.2 ∙ take_one b f.0 bs in
          subst (Closes n) (sym t) (h.behind n b f.0 some f.1);
    }

pub closes_there : (bs : List ℕ) (k : ℕ) → closing_len 1 0 bs ≡ Some k → Closes 1 (take k bs)
closes_there bs k e = (found bs).alone 1 k (omega arith) e
