-- The tokens that are read are spelled so.
use Rattle.std.proofs.Common.{◌≡◌, ℕ, zero, suc, ◌<◌, ◌^◌, Bool, true, false, not, cond, ◌&&◌, ◌||◌, nat_eq, nat_lt, List, [], ◌∷◌, ◌++◌, length, map, get_or, drop, Option, Some, None, refl, sym, ap, subst, ◌∙◌, arith, rules, ◌⊎◌, inl, inr}
use Rattle.std.specs.Prelude.{codes, decimal}
use Rattle.std.specs.List.{list_all, list_any}
use Rattle.std.specs.Str.{bytes_eq, all_ascii_digits}
use Rattle.std.specs.Char.{is_ascii_digit, is_ascii_alphabetic, to_ascii_lowercase}
use Rattle.std.proofs.lemmas.Bool.Decides.{nat_tests}
use Rattle.std.proofs.lemmas.Slice.Eq.{bytes_eq-Decides}
use Rattle.std.proofs.lemmas.Str.Parse.{IsNumeralModel, numerals_by_fold}
use Rattle.std.proofs.lemmas.Fmt.{decimal-digits_value}
use Rattle.vh_tree.specs.declared.token.Mark.{Mark}
use Rattle.vh_tree.specs.declared.token.Mark.TheVariants as m
use Rattle.vh_tree.specs.declared.token.Token.{Token}
use Rattle.vh_tree.specs.declared.token.Token.TheVariants as t
use Rattle.vh_tree.specs.VToken.{letter, spelling, is_symbol}
use Rattle.vh_tree.specs.Text.{is_white, in_word, in_line, IsRun, first_is, is_longest, begins_letter, single_underscores}
use Rattle.vh_tree.specs.Text.{IsWord, of_grammar, declared, IsText, ended, a_gap, a_comment, a_word, a_number, a_string, a_symbol}
use Rattle.vh_tree_reading.specs.Scan.{is_bit, run, behind, ◌>>=◌, mark_in, words, singles, word_token, read_on, value_of, number_of, bit_at, string_at, symbol_at, front, added, tokens_at}
use Rattle.vh_tree_reading.proofs.ScanRuns.{both, is_not, split_joins, run_all, split_run}

pub bind_some : {A B : Type 0} (o : Option A) (f : A → Option B) (y : B) → (o >>= f) ≡ Some y → (x : A) × (o ≡ Some x) × (f x ≡ Some y)
bind_some None f y e = absurd (cc)
bind_some (Some x) f y e = (x, refl, e)

pub chosen : {A : Type 0} (b : Bool) (x y z : A) → cond b x y ≡ z → ((b ≡ true) × (x ≡ z)) ⊎ ((b ≡ false) × (y ≡ z))
chosen true x y z e = inl (refl, e)
chosen false x y z e = inr (refl, e)

pub some_is : {A : Type 0} (a b : A) → Some a ≡ Some b → a ≡ b
some_is a b e = cc

pub moved : {A : Type 0} (P : A → Type 0) (a b : A) → Some a ≡ Some b → P a → P b
moved P a b e p = subst P (some_is a b e) p

pub same_bytes : (a b : List ℕ) → bytes_eq a b ≡ true → a ≡ b
same_bytes a b e = (bytes_eq-Decides a b).0 e

pub bytes_self : (a : List ℕ) → bytes_eq a a ≡ true
bytes_self a = (bytes_eq-Decides a a).1 refl

pub same_number : (a b : ℕ) → nat_eq a b ≡ true → a ≡ b
same_number a b e = grind (arith, nat_tests)

neither : (a b : Bool) → (a || b) ≡ false → (a ≡ false) × (b ≡ false)
neither true b e = absurd (cc)
neither false b e = (refl, e)

not_not : (a : Bool) → not a ≡ false → a ≡ true
not_not true e = refl
not_not false e = absurd (cc)

first_there : (b : ℕ) (bs : List ℕ) → first_is b bs ≡ true → bs ≡ b ∷ drop 1 bs
first_there b [] e = absurd (cc)
first_there b (c ∷ cs) e = ap (λ z. z ∷ cs) (same_number c b e)

-- a mark that is found has the spelling, and what the list's marks have
found_mark : (test : Mark → Bool) (all : List Mark) (w : List ℕ) (a : Mark) → list_all test all ≡ true → mark_in all w ≡ Some a → (w ≡ spelling a) × (test a ≡ true)
found_mark test [] w a h e = absurd (cc)
found_mark test (b ∷ others) w a h e =
    let k = both (test b) (list_all test others) h in
    elim (chosen (bytes_eq w (spelling b)) _ _ _ e) [
      | inl c ↦ moved (λ z. (w ≡ spelling z) × (test z ≡ true)) b a c.1 (same_bytes w (spelling b) c.0, k.0)
      | inr c ↦ found_mark test others w a k.1 c.1
    ]

word_sound : (w : List ℕ) (x : Token) → word_token w ≡ Some x → IsWord w x
unfolding word_token
word_sound w x e =
    elim (chosen (bytes_eq w (codes "std_logic_1164")) _ _ _ e) [
      | inl s ↦ moved (IsWord w) (t.Mark m.StdLogic1164) x s.1 (subst (λ z. IsWord z (t.Mark m.StdLogic1164)) (sym (same_bytes w (codes "std_logic_1164") s.0)) (of_grammar m.StdLogic1164 refl))
      | inr s ↦ elim (chosen (list_any is_ascii_digit w) _ _ _ s.1) [
        | inl d ↦ elim (chosen (single_underscores w) _ _ _ d.1) [
          | inl k ↦ moved (IsWord w) (t.Id w) x k.1 (declared w d.0 k.0 (λ q. let y = (bytes_eq-Decides w (codes "std_logic_1164")).1 q in absurd (let f : false ≡ true = sym s.0 ∙ y in cc)))
          | inr k ↦ absurd (let n : None ≡ Some x = k.1 in cc)
        ]
        | inr d ↦ let b = bind_some (mark_in words w) (λ a. Some (t.Mark a)) x d.1 in
            let f = found_mark (λ a. not (is_symbol a)) words w b.0 refl b.1 in
            moved (IsWord w) (t.Mark b.0) x b.2 (subst (λ z. IsWord z (t.Mark b.0)) (sym f.0) (of_grammar b.0 (is_not _ f.1)))
      ]
    ]

pub own : IsNumeralModel (λ ds. all_ascii_digits ds ≡ true) (read_on 0)
own = numerals_by_fold _ (search rules) read_on (search rules)

all_digits : (ds : List ℕ) → list_all is_ascii_digit ds ≡ true → all_ascii_digits ds ≡ true
all_digits [] h = refl
all_digits (d ∷ ds) h = let k = both (is_ascii_digit d) _ h in ap (λ z. z && all_ascii_digits ds) k.0 ∙ all_digits ds k.1

zero_alone : (ds : List ℕ) → (first_is 48 ds && nat_lt 1 (length ds)) ≡ false → 0 < length ds → get_or ds 0 0 ≡ 48 → length ds ≡ 1
zero_alone [] e p h = absurd (omega arith)
zero_alone (d ∷ ds) e p h =
    let s : nat_eq d 48 ≡ true = grind (arith, nat_tests) in
    let f : nat_lt 1 (length (d ∷ ds)) ≡ false = ap (λ z. z && nat_lt 1 (length (d ∷ ds))) (sym s) ∙ e in
    grind (arith, nat_tests)

number_sound : (ds : List ℕ) (n : ℕ) → list_all is_ascii_digit ds ≡ true → 0 < length ds → number_of ds ≡ Some n → (n < 2 ^ 31) × (decimal n ≡ ds)
unfolding number_of value_of
number_sound ds n all some e =
    elim (chosen (first_is 48 ds && nat_lt 1 (length ds)) _ _ _ e) [
      | inl c ↦ absurd (let x : None ≡ Some n = c.1 in cc)
      | inr c ↦ elim (chosen (nat_lt 2147483647 (read_on 0 ds)) _ _ _ c.1) [
        | inl k ↦ absurd (let x : None ≡ Some n = k.1 in cc)
        | inr k ↦ let low : read_on 0 ds < 2 ^ 31 = grind (arith, nat_tests) in
            moved (λ z. (z < 2 ^ 31) × (decimal z ≡ ds)) (read_on 0 ds) n k.1 (low, decimal-digits_value own ds (all_digits ds all) some (zero_alone ds c.0 some) (omega arith))
      ]
    ]

bit_there : (b : ℕ) → is_bit b ≡ true → letter (bit_at b) ≡ b
bit_there b e = grind (arith, nat_tests)

bits_there : (bs : List ℕ) → list_all is_bit bs ≡ true → map letter (map bit_at bs) ≡ bs
bits_there [] h = refl
bits_there (b ∷ bs) h = let k = both (is_bit b) _ h in ap (λ z. z ∷ map letter (map bit_at bs)) (bit_there b k.0) ∙ ap (λ z. b ∷ z) (bits_there bs k.1)

map_length : {A B : Type 0} (f : A → B) (xs : List A) → length (map f xs) ≡ length xs
map_length f [] = refl
map_length f (x ∷ xs) = ap suc (map_length f xs)

-- what a front reads, before any text
abbrev Takes : List ℕ → Option Token × List ℕ → Type 0
Takes bs p = (ts : List Token) → IsText p.1 ts → IsText bs (added p.0 ts)

string_sound : (bs : List ℕ) (p : Option Token × List ℕ) → string_at bs ≡ Some p → Takes (34 ∷ bs) p
unfolding string_at
string_sound bs p e =
    elim (chosen (nat_eq (length (run is_bit bs)) 0 || not (first_is 34 (behind is_bit bs))) _ _ _ e) [
      | inl c ↦ absurd (let x : None ≡ Some p = c.1 in cc)
      | inr c ↦ let f = neither (nat_eq (length (run is_bit bs)) 0) _ c.0 in
          let bits = map bit_at (run is_bit bs) in
          let some : 0 < length (run is_bit bs) = grind (arith, nat_tests) in
          let many : 0 < length bits = omega (arith, some, map_length bit_at (run is_bit bs)) in
          let quote : behind is_bit bs ≡ 34 ∷ drop 1 (behind is_bit bs) = first_there 34 _ (not_not _ f.1) in
          let letters : map letter bits ≡ run is_bit bs = bits_there (run is_bit bs) (run_all is_bit bs) in
          let whole : 34 ∷ (map letter bits ++ 34 ∷ drop 1 (behind is_bit bs)) ≡ 34 ∷ bs =
          ap (λ z. 34 ∷ (z ++ 34 ∷ drop 1 (behind is_bit bs))) letters ∙ ap (λ z. 34 ∷ (run is_bit bs ++ z)) (sym quote) ∙ ap (λ z. 34 ∷ z) (split_joins is_bit bs) in
          moved (Takes (34 ∷ bs)) (Some (t.Bits bits), drop 1 (behind is_bit bs)) p c.1
          (λ ts d. subst (λ z. IsText z (t.Bits bits ∷ ts)) whole (a_string bits (drop 1 (behind is_bit bs)) ts many d))
    ]

-- a symbol that is read stands there
record Stands (b : ℕ) (bs : List ℕ) (q : Mark × List ℕ) : Type 0 where
  there : b ∷ bs ≡ spelling q.0 ++ q.1
  symbol : is_symbol q.0 ≡ true
  long : is_longest q.0 q.1 ≡ true

one_byte : (b c : ℕ) → bytes_eq (b ∷ []) (c ∷ []) ≡ true → nat_eq b c ≡ true
one_byte b c e = let f = same_bytes (b ∷ []) (c ∷ []) e in let g : b ≡ c = ap (λ z. get_or z 0 0) f in grind (arith, nat_tests)

no_colon : (b : ℕ) (bs : List ℕ) → (nat_eq b 58 && first_is 61 bs) ≡ false → (bytes_eq (b ∷ []) (58 ∷ []) && first_is 61 bs) ≡ false
no_colon b bs e = elim (bytes_eq (b ∷ []) (58 ∷ [])) as (λ v. v ≡ bytes_eq (b ∷ []) (58 ∷ []) → (v && first_is 61 bs) ≡ false) [
  | true ↦ (λ h. ap (λ z. z && first_is 61 bs) (sym (one_byte b 58 (sym h))) ∙ e)
  | false ↦ (λ h. refl)
] refl

two_there : (b c d : ℕ) (bs : List ℕ) → (nat_eq b c && first_is d bs) ≡ true → b ∷ bs ≡ c ∷ d ∷ drop 1 bs
two_there b c d bs h = let k = both (nat_eq b c) _ h in ap (λ z. z ∷ bs) (same_number b c k.0) ∙ ap (λ z. c ∷ z) (first_there d bs k.1)

three_there : (bs : List ℕ) → (first_is 49 bs && first_is 39 (drop 1 bs)) ≡ true → bs ≡ 49 ∷ 39 ∷ drop 1 (drop 1 bs)
three_there bs h = let k = both (first_is 49 bs) _ h in first_there 49 bs k.0 ∙ ap (λ z. 49 ∷ z) (first_there 39 (drop 1 bs) k.1)

symbol_sound : (b : ℕ) (bs : List ℕ) (q : Mark × List ℕ) → symbol_at b bs ≡ Some q → Stands b bs q
unfolding symbol_at
symbol_sound b bs q e =
    elim (chosen (nat_eq b 58 && first_is 61 bs) _ _ _ e) [
      | inl c ↦ moved (Stands b bs) _ q c.1 (record { there = two_there b 58 61 bs c.0; symbol = refl; long = refl })
      | inr c ↦ elim (chosen (nat_eq b 60 && first_is 61 bs) _ _ _ c.1) [
        | inl d ↦ moved (Stands b bs) _ q d.1 (record { there = two_there b 60 61 bs d.0; symbol = refl; long = refl })
        | inr d ↦ elim (chosen (nat_eq b 39 && (first_is 49 bs && first_is 39 (drop 1 bs))) _ _ _ d.1) [
          | inl f ↦ let k = both (nat_eq b 39) _ f.0 in
              moved (Stands b bs) _ q f.1 (record { there = ap (λ z. z ∷ bs) (same_number b 39 k.0) ∙ ap (λ z. 39 ∷ z) (three_there bs k.1); symbol = refl; long = refl })
          | inr f ↦ let k = bind_some (mark_in singles (b ∷ [])) (λ a. Some (a, bs)) q f.1 in
              let g = found_mark is_symbol singles (b ∷ []) k.0 refl k.1 in
              moved (Stands b bs) (k.0, bs) q k.2 (record {
                there = ap (λ z. z ++ bs) g.0;
                symbol = g.1;
                long = ap (λ z. not (bytes_eq z (58 ∷ []) && first_is 61 bs)) (sym g.0) ∙ ap not (no_colon b bs c.0);
              })
        ]
      ]
    ]

letter_in_word : (b : ℕ) → is_ascii_alphabetic b ≡ true → in_word b ≡ true
letter_in_word b h = ap (λ v. v || (is_ascii_digit b || nat_eq b 95)) h

front_sound : (b : ℕ) (bs : List ℕ) (p : Option Token × List ℕ) → front (b ∷ bs) ≡ Some p → Takes (b ∷ bs) p
unfolding front
front_sound b bs p e =
    elim (chosen (is_ascii_digit b) _ _ _ e) [
      | inl c ↦ let w = run is_ascii_digit (b ∷ bs) in
          let k = bind_some (number_of w) _ p c.1 in
          let some : 0 < length w = subst (λ v. 0 < length (cond v (b ∷ run is_ascii_digit bs) [])) (sym c.0) (omega arith) in
          let f = number_sound w k.0 (run_all is_ascii_digit (b ∷ bs)) some k.1 in
          let joins : decimal k.0 ++ behind is_ascii_digit (b ∷ bs) ≡ b ∷ bs = ap (λ z. z ++ behind is_ascii_digit (b ∷ bs)) f.1 ∙ split_joins is_ascii_digit (b ∷ bs) in
          moved (Takes (b ∷ bs)) (Some (t.Number k.0), behind is_ascii_digit (b ∷ bs)) p k.2
          (λ ts d. subst (λ z. IsText z (t.Number k.0 ∷ ts)) joins (a_number k.0 (behind is_ascii_digit (b ∷ bs)) ts f.0 (subst (λ z. IsRun is_ascii_digit z (behind is_ascii_digit (b ∷ bs))) (sym f.1) (split_run is_ascii_digit (b ∷ bs))) d))
      | inr c ↦ elim (chosen (is_ascii_alphabetic b) _ _ _ c.1) [
        | inl a ↦ let w = run in_word (b ∷ bs) in
            let k = bind_some (word_token (map to_ascii_lowercase w)) _ p a.1 in
            let begins : begins_letter w ≡ true = ap (λ v. begins_letter (cond v (b ∷ run in_word bs) [])) (letter_in_word b a.0) ∙ a.0 in
            moved (Takes (b ∷ bs)) (Some k.0, behind in_word (b ∷ bs)) p k.2
            (λ ts d. subst (λ z. IsText z (k.0 ∷ ts)) (split_joins in_word (b ∷ bs)) (a_word w (behind in_word (b ∷ bs)) k.0 ts begins (split_run in_word (b ∷ bs)) (word_sound _ k.0 k.1) d))
        | inr a ↦ elim (chosen (is_white b) _ _ _ a.1) [
          | inl w ↦ moved (Takes (b ∷ bs)) (None, bs) p w.1 (λ ts d. a_gap b bs ts w.0 d)
          | inr w ↦ elim (chosen (nat_eq b 34) _ _ _ w.1) [
            | inl q ↦ subst (λ z. Takes (z ∷ bs) p) (sym (same_number b 34 q.0)) (string_sound bs p q.1)
            | inr q ↦ elim (chosen (nat_eq b 45 && first_is 45 bs) _ _ _ q.1) [
              | inl l ↦ moved (Takes (b ∷ bs)) (None, behind in_line (drop 1 bs)) p l.1
                  (λ ts d. subst (λ z. IsText z ts) (ap (λ z. 45 ∷ 45 ∷ z) (split_joins in_line (drop 1 bs)) ∙ sym (two_there b 45 45 bs l.0))
                  (a_comment (run in_line (drop 1 bs)) (behind in_line (drop 1 bs)) ts (split_run in_line (drop 1 bs)) d))
              | inr l ↦ let k = bind_some (symbol_at b bs) _ p l.1 in
                  let s = symbol_sound b bs k.0 k.1 in
                  moved (Takes (b ∷ bs)) (Some (t.Mark k.0.0), k.0.1) p k.2
                  (λ ts d. subst (λ z. IsText z (t.Mark k.0.0 ∷ ts)) (sym s.there) (a_symbol k.0.0 k.0.1 ts s.symbol s.long d))
            ]
          ]
        ]
      ]
    ]

pub tokens_sound : (n : ℕ) (bs : List ℕ) (ts : List Token) → tokens_at n bs ≡ Some ts → IsText bs ts
unfolding tokens_at
tokens_sound zero [] ts e = moved (IsText []) [] ts e ended
tokens_sound (suc n) [] ts e = moved (IsText []) [] ts e ended
tokens_sound zero (b ∷ bs) ts e = absurd (cc)
tokens_sound (suc n) (b ∷ bs) ts e =
    let p = bind_some (front (b ∷ bs)) _ ts e in
    let q = bind_some (tokens_at n p.0.1) _ ts p.2 in
    moved (IsText (b ∷ bs)) (added p.0.0 q.0) ts q.2 (front_sound b bs p.0 p.1 q.0 (tokens_sound n p.0.1 q.0 q.1))
