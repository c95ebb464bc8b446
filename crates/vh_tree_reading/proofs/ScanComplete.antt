-- The tokens that a text spells are read.
use Rattle.std.proofs.Common.{◌≡◌, ◌≢◌, ℕ, zero, suc, ◌<◌, ◌≤◌, ◌^◌, Bool, true, false, cond, ◌&&◌, nat_eq, nat_lt, List, [], ◌∷◌, ◌++◌, length, map, get_or, Option, Some, None, refl, sym, ap, ◌∙◌, arith, length-append}
use Rattle.std.specs.Prelude.{codes, decimal}
use Rattle.std.specs.List.{list_all}
use Rattle.std.specs.Str.{bytes_eq}
use Rattle.std.specs.Char.{is_ascii_digit, is_ascii_alphabetic, to_ascii_lowercase}
use Rattle.std.proofs.lemmas.Bool.Decides.{nat_tests}
use Rattle.std.proofs.lemmas.Slice.Eq.{bytes_eq-Decides}
use Rattle.std.proofs.lemmas.Fmt.{digits_value-decimal, decimal_digit, first_decimal, decimal_nonempty}
use Rattle.rw_base.specs.declared.bit.Bit9.{Bit9}
use Rattle.rw_base.specs.declared.bit.Bit9.TheVariants.{U, X, Zero, One, Z, W, L, H, Dash}
use Rattle.vh_tree.specs.declared.token.Mark.{Mark}
use Rattle.vh_tree.specs.declared.token.Mark.TheVariants as m
use Rattle.vh_tree.specs.declared.token.Token.{Token}
use Rattle.vh_tree.specs.declared.token.Token.TheVariants as t
use Rattle.vh_tree.specs.VToken.{letter, spelling, is_symbol}
use Rattle.vh_tree.specs.Text.{is_white, in_word, in_line, IsRun, first_is, is_longest, begins_letter}
use Rattle.vh_tree.specs.Text.{IsWord, of_grammar, declared, IsText, ended, a_gap, a_comment, a_word, a_number, a_string, a_symbol}
use Rattle.vh_tree_reading.specs.Scan.{is_bit, run, behind, ◌>>=◌, word_token, read_on, value_of, number_of, bit_at, string_at, symbol_at, front, added, tokens_at, scanned}
use Rattle.vh_tree_reading.proofs.ScanRuns.{both, is_not, run_again, behind_again}
use Rattle.vh_tree_reading.proofs.ScanSound.{own, some_is, tokens_sound}

step : (n : ℕ) (bs : List ℕ) (p : Option Token × List ℕ) (ts : List Token) → 0 < length bs → length bs ≤ n → front bs ≡ Some p → ((m : ℕ) → n ≡ suc m → tokens_at m p.1 ≡ Some ts) → tokens_at n bs ≡ Some (added p.0 ts)
unfolding tokens_at
step n [] p ts some h f g = absurd (omega arith)
step zero (b ∷ bs) p ts some h f g = absurd (omega arith)
step (suc n) (b ∷ bs) p ts some h f g = rw (f, g n refl)

second : {A : Type 0} (c d : Bool) (x y z : A) → c ≡ false → d ≡ true → cond c x (cond d y z) ≡ y
second c d x y z e f = rw (e, f)

third : {A : Type 0} (c d f : Bool) (x y z w : A) → c ≡ false → d ≡ false → f ≡ true → cond c x (cond d y (cond f z w)) ≡ z
third c d f x y z w e g h = rw (e, g, h)

first : {A : Type 0} (c : Bool) (x y : A) → c ≡ true → cond c x y ≡ x
first c x y e = rw e

-- ---- gaps
white_no : (b : ℕ) → is_white b ≡ true → (is_ascii_digit b ≡ false) × (is_ascii_alphabetic b ≡ false)
white_no b e = (grind (arith, nat_tests), grind (arith, nat_tests))

gap_front : (b : ℕ) (bs : List ℕ) → is_white b ≡ true → front (b ∷ bs) ≡ Some (None, bs)
unfolding front
gap_front b bs e = let n = white_no b e in third (is_ascii_digit b) (is_ascii_alphabetic b) (is_white b) _ _ _ _ n.0 n.1 e

comment_front : (line bs : List ℕ) → IsRun in_line line bs → front (45 ∷ 45 ∷ (line ++ bs)) ≡ Some (None, bs)
unfolding front
comment_front line bs r = ap (λ z. Some (None, z)) (behind_again in_line line bs r)

-- ---- words
letter_no_digit : (b : ℕ) → is_ascii_alphabetic b ≡ true → is_ascii_digit b ≡ false
letter_no_digit b e = grind (arith, nat_tests)

other_bytes : (a b : List ℕ) → a ≢ b → bytes_eq a b ≡ false
other_bytes a b n = elim (bytes_eq a b) as (λ v. v ≡ bytes_eq a b → v ≡ false) [ true ↦ (λ e. absurd (n ((bytes_eq-Decides a b).0 (sym e)))) | false ↦ (λ e. refl) ] refl

word_again : (w : List ℕ) (x : Token) → IsWord w x → word_token w ≡ Some x
unfolding word_token
word_again _ _ (of_grammar m.All e) = refl
word_again _ _ (of_grammar m.And e) = refl
word_again _ _ (of_grammar m.Architecture e) = refl
word_again _ _ (of_grammar m.Begin e) = refl
word_again _ _ (of_grammar m.Behaviour e) = refl
word_again _ _ (of_grammar m.Clk e) = refl
word_again _ _ (of_grammar m.Downto e) = refl
word_again _ _ (of_grammar m.Else e) = refl
word_again _ _ (of_grammar m.Elsif e) = refl
word_again _ _ (of_grammar m.End e) = refl
word_again _ _ (of_grammar m.Entity e) = refl
word_again _ _ (of_grammar m.Function e) = refl
word_again _ _ (of_grammar m.Ieee e) = refl
word_again _ _ (of_grammar m.If e) = refl
word_again _ _ (of_grammar m.In e) = refl
word_again _ _ (of_grammar m.Inp e) = refl
word_again _ _ (of_grammar m.Is e) = refl
word_again _ _ (of_grammar m.Library e) = refl
word_again _ _ (of_grammar m.Of e) = refl
word_again _ _ (of_grammar m.Out e) = refl
word_again _ _ (of_grammar m.Outp e) = refl
word_again _ _ (of_grammar m.Port e) = refl
word_again _ _ (of_grammar m.Process e) = refl
word_again _ _ (of_grammar m.Return e) = refl
word_again _ _ (of_grammar m.Rewire e) = refl
word_again _ _ (of_grammar m.RisingEdge e) = refl
word_again _ _ (of_grammar m.Rst e) = refl
word_again _ _ (of_grammar m.Signal e) = refl
word_again _ _ (of_grammar m.StdLogic e) = refl
word_again _ _ (of_grammar m.StdLogic1164 e) = refl
word_again _ _ (of_grammar m.StdLogicVector e) = refl
word_again _ _ (of_grammar m.Then e) = refl
word_again _ _ (of_grammar m.Use e) = refl
word_again _ _ (of_grammar m.Variable e) = refl
word_again _ _ (of_grammar a e) = absurd (cc)
word_again _ _ (declared w d s n) = rw (other_bytes w (codes "std_logic_1164") n, d, s)

abbrev read_word : List ℕ → List ℕ → Option (Option Token × List ℕ)
read_word w rest = word_token (map to_ascii_lowercase w) >>= λ x. Some (Some x, rest)

word_front : (w bs : List ℕ) (x : Token) → begins_letter w ≡ true → IsRun in_word w bs → IsWord (map to_ascii_lowercase w) x → front (w ++ bs) ≡ Some (Some x, bs)
unfolding front
word_front [] bs x b r k = absurd (cc)
word_front (b ∷ w) bs x a r k =
    second (is_ascii_digit b) (is_ascii_alphabetic b) _ (read_word (run in_word (b ∷ (w ++ bs))) (behind in_word (b ∷ (w ++ bs)))) _ (letter_no_digit b a) a
    ∙ ap (λ z. read_word z (behind in_word (b ∷ (w ++ bs)))) (run_again in_word (b ∷ w) bs r)
    ∙ ap (λ z. read_word (b ∷ w) z) (behind_again in_word (b ∷ w) bs r)
    ∙ ap (λ (z : Option Token). z >>= λ x. Some (Some x, bs)) (word_again _ x k)

-- ---- numbers
first_no : (ds : List ℕ) → 48 < get_or ds 0 0 → first_is 48 ds ≡ false
first_no [] h = absurd (omega arith)
first_no (d ∷ ds) h = grind (arith, nat_tests)

number_again : (n : ℕ) → n < 2 ^ 31 → number_of (decimal n) ≡ Some n
unfolding number_of value_of
number_again n h =
    let v : read_on 0 (decimal n) ≡ n = digits_value-decimal own n (omega arith) in
    let low : nat_lt 2147483647 n ≡ false = grind (arith, nat_tests) in
    let z : (first_is 48 (decimal n) && nat_lt 1 (length (decimal n))) ≡ false = lead n (omega arith) in
    rw (z, v, low)
  where
    lead : (n : ℕ) → n < 2 ^ 64 → (first_is 48 (decimal n) && nat_lt 1 (length (decimal n))) ≡ false
    lead zero h = ap (λ w. first_is 48 w && nat_lt 1 (length w)) (decimal_digit 0 (omega arith))
    lead (suc k) h = ap (λ c. c && nat_lt 1 (length (decimal (suc k)))) (first_no (decimal (suc k)) (first_decimal (suc k) (omega arith) h))

abbrev read_number : List ℕ → List ℕ → Option (Option Token × List ℕ)
read_number w rest = number_of w >>= λ n. Some (Some (t.Number n), rest)

digits_front : (ds bs : List ℕ) (n : ℕ) → 0 < length ds → IsRun is_ascii_digit ds bs → number_of ds ≡ Some n → front (ds ++ bs) ≡ Some (Some (t.Number n), bs)
unfolding front
digits_front [] bs n some r k = absurd (omega arith)
digits_front (d ∷ ds) bs n some r k =
    first (is_ascii_digit d) (read_number (run is_ascii_digit (d ∷ (ds ++ bs))) (behind is_ascii_digit (d ∷ (ds ++ bs)))) _ (both (is_ascii_digit d) _ r.all).0
    ∙ ap (λ z. read_number z (behind is_ascii_digit (d ∷ (ds ++ bs)))) (run_again is_ascii_digit (d ∷ ds) bs r)
    ∙ ap (λ z. read_number (d ∷ ds) z) (behind_again is_ascii_digit (d ∷ ds) bs r)
    ∙ ap (λ (z : Option ℕ). z >>= λ n. Some (Some (t.Number n), bs)) k

-- ---- strings
bit_again : (b : Bit9) → (is_bit (letter b) ≡ true) × (bit_at (letter b) ≡ b)
bit_again U = (refl, refl)
bit_again X = (refl, refl)
bit_again Zero = (refl, refl)
bit_again One = (refl, refl)
bit_again Z = (refl, refl)
bit_again W = (refl, refl)
bit_again L = (refl, refl)
bit_again H = (refl, refl)
bit_again Dash = (refl, refl)

letters_all : (bits : List Bit9) → list_all is_bit (map letter bits) ≡ true
letters_all [] = refl
letters_all (b ∷ bits) = ap (λ z. z && list_all is_bit (map letter bits)) (bit_again b).0 ∙ letters_all bits

bits_again : (bits : List Bit9) → map bit_at (map letter bits) ≡ bits
bits_again [] = refl
bits_again (b ∷ bits) = ap (λ z. z ∷ map bit_at (map letter bits)) (bit_again b).1 ∙ ap (λ z. b ∷ z) (bits_again bits)

not_empty : (bits : List Bit9) → 0 < length bits → nat_eq (length (map letter bits)) 0 ≡ false
not_empty [] h = absurd (omega arith)
not_empty (b ∷ bits) h = grind (arith, nat_tests)

string_again : (bits : List Bit9) (bs : List ℕ) → 0 < length bits → string_at (map letter bits ++ 34 ∷ bs) ≡ Some (Some (t.Bits bits), bs)
unfolding string_at
string_again bits bs h =
    let r : IsRun is_bit (map letter bits) (34 ∷ bs) = record { all = letters_all bits; stop = refl } in
    rw (run_again is_bit (map letter bits) (34 ∷ bs) r, behind_again is_bit (map letter bits) (34 ∷ bs) r, not_empty bits h, bits_again bits)

string_front : (bits : List Bit9) (bs : List ℕ) → 0 < length bits → front (34 ∷ (map letter bits ++ 34 ∷ bs)) ≡ Some (Some (t.Bits bits), bs)
unfolding front
string_front bits bs h = string_again bits bs h

-- ---- symbols
symbol_front : (a : Mark) (bs : List ℕ) → is_symbol a ≡ true → is_longest a bs ≡ true → front (spelling a ++ bs) ≡ Some (Some (t.Mark a), bs)
unfolding front symbol_at
symbol_front m.Opens bs e l = refl
symbol_front m.Closes bs e l = refl
symbol_front m.Comma bs e l = refl
symbol_front m.Semicolon bs e l = refl
symbol_front m.Colon bs e l = let n : first_is 61 bs ≡ false = is_not _ l in rw n
symbol_front m.Dot bs e l = refl
symbol_front m.Amp bs e l = refl
symbol_front m.Equal bs e l = refl
symbol_front m.Assign bs e l = refl
symbol_front m.Drive bs e l = refl
symbol_front m.High bs e l = refl
symbol_front a bs e l = absurd (cc)

symbol_some : (a : Mark) → is_symbol a ≡ true → 0 < length (spelling a)
symbol_some m.Opens e = omega arith
symbol_some m.Closes e = omega arith
symbol_some m.Comma e = omega arith
symbol_some m.Semicolon e = omega arith
symbol_some m.Colon e = omega arith
symbol_some m.Dot e = omega arith
symbol_some m.Amp e = omega arith
symbol_some m.Equal e = omega arith
symbol_some m.Assign e = omega arith
symbol_some m.Drive e = omega arith
symbol_some m.High e = omega arith
symbol_some a e = absurd (cc)

word_some : (w : List ℕ) → begins_letter w ≡ true → 0 < length w
word_some [] e = absurd (cc)
word_some (b ∷ w) e = omega arith

pub tokens_read : {bs : List ℕ} {ts : List Token} → IsText bs ts → (n : ℕ) → length bs ≤ n → tokens_at n bs ≡ Some ts
unfolding tokens_at
tokens_read ended zero h = refl
tokens_read ended (suc n) h = refl
tokens_read (a_gap b bs ts e d) n h = step n (b ∷ bs) (None, bs) ts (omega arith) h (gap_front b bs e) (λ m q. tokens_read d m (omega arith))
tokens_read (a_comment line bs ts r d) n h =
    step n (45 ∷ 45 ∷ (line ++ bs)) (None, bs) ts (omega arith) h (comment_front line bs r) (λ m q. tokens_read d m (omega (arith, length-append line bs)))
tokens_read (a_word w bs x ts b r k d) n h =
    let some = word_some w b in
    step n (w ++ bs) (Some x, bs) ts (omega (arith, length-append w bs)) h (word_front w bs x b r k) (λ m q. tokens_read d m (omega (arith, length-append w bs)))
tokens_read (a_number v bs ts l r d) n h =
    let some = decimal_nonempty v (omega arith) in
    step n (decimal v ++ bs) (Some (t.Number v), bs) ts (omega (arith, length-append (decimal v) bs)) h (digits_front (decimal v) bs v some r (number_again v l)) (λ m q. tokens_read d m (omega (arith, length-append (decimal v) bs)))
tokens_read (a_string bits bs ts some d) n h =
    step n (34 ∷ (map letter bits ++ 34 ∷ bs)) (Some (t.Bits bits), bs) ts (omega arith) h (string_front bits bs some) (λ m q. tokens_read d m (omega (arith, length-append (map letter bits) (34 ∷ bs))))
tokens_read (a_symbol a bs ts e l d) n h =
    let some = symbol_some a e in
    step n (spelling a ++ bs) (Some (t.Mark a), bs) ts (omega (arith, length-append (spelling a) bs)) h (symbol_front a bs e l) (λ m q. tokens_read d m (omega (arith, length-append (spelling a) bs)))

pub scanned_sound : (bs : List ℕ) (ts : List Token) → scanned bs ≡ Some ts → IsText bs ts
unfolding scanned
scanned_sound bs ts e = tokens_sound (length bs) bs ts e

pub scanned_complete : (bs : List ℕ) (ts : List Token) → IsText bs ts → scanned bs ≡ Some ts
unfolding scanned
scanned_complete bs ts d = tokens_read d (length bs) (omega arith)

pub one_reading : (bs : List ℕ) (a b : List Token) → IsText bs a → IsText bs b → a ≡ b
one_reading bs a b d e = some_is a b (sym (scanned_complete bs a d) ∙ scanned_complete bs b e)
