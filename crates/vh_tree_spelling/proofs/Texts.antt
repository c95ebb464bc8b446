-- The text of tokens spells them, if some text does.
use Rattle.std.proofs.Common.{◌≡◌, ℕ, ◌<◌, ◌^◌, Bool, true, false, not, cond, ◌&&◌, nat_eq, List, [], ◌∷◌, ◌++◌, length, map, refl, sym, ap, subst, ◌∙◌, arith, append_assoc}
use Rattle.std.specs.Prelude.{decimal}
use Rattle.std.specs.List.{list_all, list_any}
use Rattle.std.specs.Char.{is_ascii_alphabetic, is_ascii_digit, to_ascii_lowercase}
use Rattle.std.proofs.lemmas.Bool.Decides.{nat_tests}
use Rattle.rw_base.specs.declared.bit.Bit9.{Bit9}
use Rattle.rw_base.specs.declared.bit.Bit9.TheVariants.{U, X, Zero, One, Z, W, L, H, Dash}
use Rattle.vh_tree.specs.declared.token.Mark.{Mark}
use Rattle.vh_tree.specs.declared.token.Mark.TheVariants as m
use Rattle.vh_tree.specs.declared.token.Token.{Token}
use Rattle.vh_tree.specs.declared.token.Token.TheVariants as t
use Rattle.vh_tree.specs.VToken.{letter, spelling, bytes_of, is_symbol}
use Rattle.vh_tree.specs.Text.{is_allowed, all_allowed, is_white, in_word, begins_letter, IsWord, of_grammar, declared, IsText, ended, a_gap, a_comment, a_word, a_number, a_string, a_symbol}
use Rattle.vh_tree.specs.Canonical.{ends_line, separator, with_separator, spelled}

-- a token that some text spells
pub data IsToken : Token → Type 0 where
  mark_token : (a : Mark) → IsToken (t.Mark a)
  id_token : (w : List ℕ) → begins_letter w ≡ true → list_all in_word w ≡ true → map to_ascii_lowercase w ≡ w → IsWord w (t.Id w) → list_any is_ascii_digit w ≡ true → IsToken (t.Id w)
  number_token : (n : ℕ) → n < 2 ^ 31 → list_all is_ascii_digit (decimal n) ≡ true → IsToken (t.Number n)
  bits_token : (bits : List Bit9) → 0 < length bits → IsToken (t.Bits bits)

abbrev pub AllTokens : List Token → Type 0
AllTokens [] = Unit {0}
AllTokens (x ∷ ts) = IsToken x × AllTokens ts

-- ---- what a text spells are tokens
low_letter : (b : ℕ) → is_ascii_alphabetic b ≡ true → is_ascii_alphabetic (to_ascii_lowercase b) ≡ true
low_letter b e = grind (arith, nat_tests)

low_word : (b : ℕ) → in_word b ≡ true → in_word (to_ascii_lowercase b) ≡ true
low_word b e = grind (arith, nat_tests)

low_twice : (b : ℕ) → to_ascii_lowercase (to_ascii_lowercase b) ≡ to_ascii_lowercase b
low_twice b = grind (arith, nat_tests)

pub both : (a b : Bool) → (a && b) ≡ true → (a ≡ true) × (b ≡ true)
both true b h = (refl, h)
both false b h = absurd (cc h)

low_all : (w : List ℕ) → list_all in_word w ≡ true → list_all in_word (map to_ascii_lowercase w) ≡ true
low_all [] h = refl
low_all (b ∷ w) h = let k = both (in_word b) _ h in ap (λ z. z && list_all in_word (map to_ascii_lowercase w)) (low_word b k.0) ∙ low_all w k.1

low_again : (w : List ℕ) → map to_ascii_lowercase (map to_ascii_lowercase w) ≡ map to_ascii_lowercase w
low_again [] = refl
low_again (b ∷ w) = ap (λ z. z ∷ map to_ascii_lowercase (map to_ascii_lowercase w)) (low_twice b) ∙ ap (λ z. to_ascii_lowercase b ∷ z) (low_again w)

low_begins : (w : List ℕ) → begins_letter w ≡ true → begins_letter (map to_ascii_lowercase w) ≡ true
low_begins [] h = h
low_begins (b ∷ w) h = low_letter b h

word_token : (w : List ℕ) (x : Token) → begins_letter w ≡ true → list_all in_word w ≡ true → map to_ascii_lowercase w ≡ w → IsWord w x → IsToken x
word_token _ _ b a l (of_grammar m e) = mark_token m
word_token _ _ b a l (declared w d s n) = id_token w b a l (declared w d s n) d

pub text_tokens : {bs : List ℕ} {ts : List Token} → IsText bs ts → AllTokens ts
text_tokens ended = tt
text_tokens (a_gap b bs ts e d) = text_tokens d
text_tokens (a_comment line bs ts r d) = text_tokens d
text_tokens (a_word w bs x ts b r k d) = (word_token (map to_ascii_lowercase w) x (low_begins w b) (low_all w r.all) (low_again w) k, text_tokens d)
text_tokens (a_number n bs ts l r d) = (number_token n l r.all, text_tokens d)
text_tokens (a_string bits bs ts some d) = (bits_token bits some, text_tokens d)
text_tokens (a_symbol a bs ts e l d) = (mark_token a, text_tokens d)

-- ---- a token before a gap
record Gap (s : ℕ) : Type 0 where
  white : is_white s ≡ true
  no_word : in_word s ≡ false
  no_digit : is_ascii_digit s ≡ false
  no_equal : nat_eq s 61 ≡ false
  fits : is_allowed s ≡ true

gap : (x : Token) → Gap (separator x)
gap x = elim (ends_line x) as (λ b. Gap (cond b 10 32)) [
  | true ↦ record { white = refl; no_word = refl; no_digit = refl; no_equal = refl; fits = refl }
  | false ↦ record { white = refl; no_word = refl; no_digit = refl; no_equal = refl; fits = refl }
]

and_no : (a b : Bool) → b ≡ false → not (a && b) ≡ true
and_no true b e = ap not e
and_no false b e = refl

record WordMark (a : Mark) : Type 0 where
  begins : begins_letter (spelling a) ≡ true
  all : list_all in_word (spelling a) ≡ true
  low : map to_ascii_lowercase (spelling a) ≡ spelling a

-- each word of the grammar is a word in lower case
word_mark : (a : Mark) → is_symbol a ≡ false → WordMark a
word_mark m.All e = record { begins = refl; all = refl; low = refl }
word_mark m.And e = record { begins = refl; all = refl; low = refl }
word_mark m.Architecture e = record { begins = refl; all = refl; low = refl }
word_mark m.Begin e = record { begins = refl; all = refl; low = refl }
word_mark m.Behaviour e = record { begins = refl; all = refl; low = refl }
word_mark m.Clk e = record { begins = refl; all = refl; low = refl }
word_mark m.Downto e = record { begins = refl; all = refl; low = refl }
word_mark m.Else e = record { begins = refl; all = refl; low = refl }
word_mark m.Elsif e = record { begins = refl; all = refl; low = refl }
word_mark m.End e = record { begins = refl; all = refl; low = refl }
word_mark m.Entity e = record { begins = refl; all = refl; low = refl }
word_mark m.Function e = record { begins = refl; all = refl; low = refl }
word_mark m.Ieee e = record { begins = refl; all = refl; low = refl }
word_mark m.If e = record { begins = refl; all = refl; low = refl }
word_mark m.In e = record { begins = refl; all = refl; low = refl }
word_mark m.Inp e = record { begins = refl; all = refl; low = refl }
word_mark m.Is e = record { begins = refl; all = refl; low = refl }
word_mark m.Library e = record { begins = refl; all = refl; low = refl }
word_mark m.Of e = record { begins = refl; all = refl; low = refl }
word_mark m.Out e = record { begins = refl; all = refl; low = refl }
word_mark m.Outp e = record { begins = refl; all = refl; low = refl }
word_mark m.Port e = record { begins = refl; all = refl; low = refl }
word_mark m.Process e = record { begins = refl; all = refl; low = refl }
word_mark m.Return e = record { begins = refl; all = refl; low = refl }
word_mark m.Rewire e = record { begins = refl; all = refl; low = refl }
word_mark m.RisingEdge e = record { begins = refl; all = refl; low = refl }
word_mark m.Rst e = record { begins = refl; all = refl; low = refl }
word_mark m.Signal e = record { begins = refl; all = refl; low = refl }
word_mark m.StdLogic e = record { begins = refl; all = refl; low = refl }
word_mark m.StdLogic1164 e = record { begins = refl; all = refl; low = refl }
word_mark m.StdLogicVector e = record { begins = refl; all = refl; low = refl }
word_mark m.Then e = record { begins = refl; all = refl; low = refl }
word_mark m.Use e = record { begins = refl; all = refl; low = refl }
word_mark m.Variable e = record { begins = refl; all = refl; low = refl }
word_mark a e = absurd (cc)

mark_text : (a : Mark) (c : Bool) → c ≡ is_symbol a → (s : ℕ) (bs : List ℕ) (ts : List Token) → Gap s → IsText (s ∷ bs) ts → IsText (spelling a ++ s ∷ bs) (t.Mark a ∷ ts)
mark_text a true e s bs ts g d = a_symbol a (s ∷ bs) ts (sym e) (and_no _ _ g.no_equal) d
mark_text a false e s bs ts g d =
    let w = word_mark a (sym e) in
    a_word (spelling a) (s ∷ bs) (t.Mark a) ts w.begins (record { all = w.all; stop = ap not g.no_word }) (subst (λ z. IsWord z (t.Mark a)) (sym w.low) (of_grammar a (sym e))) d

token_text : (x : Token) (s : ℕ) (bs : List ℕ) (ts : List Token) → IsToken x → Gap s → IsText (s ∷ bs) ts → IsText (bytes_of x ++ s ∷ bs) (x ∷ ts)
token_text _ s bs ts (mark_token a) g d = mark_text a (is_symbol a) refl s bs ts g d
token_text _ s bs ts (id_token w b a l k h) g d =
    a_word w (s ∷ bs) (t.Id w) ts b (record { all = a; stop = ap not g.no_word }) (subst (λ z. IsWord z (t.Id w)) (sym l) k) d
token_text _ s bs ts (number_token n l a) g d = a_number n (s ∷ bs) ts l (record { all = a; stop = ap not g.no_digit }) d
token_text _ s bs ts (bits_token bits some) g d =
    subst (λ z. IsText (34 ∷ z) (t.Bits bits ∷ ts)) (sym (append_assoc (map letter bits) (34 ∷ []) (s ∷ bs))) (a_string bits (s ∷ bs) ts some d)

pub spelled_text : (ts : List Token) → AllTokens ts → IsText (spelled ts) ts
unfolding with_separator
spelled_text [] h = ended
spelled_text (x ∷ ts) h =
    let g = gap x in
    subst (λ z. IsText z (x ∷ ts)) (sym (append_assoc (bytes_of x) (separator x ∷ []) (spelled ts)))
    (token_text x (separator x) (spelled ts) ts h.0 g (a_gap (separator x) (spelled ts) ts g.white (spelled_text ts h.1)))

-- ---- the bytes of tokens are allowed
all_of_both : (p : ℕ → Bool) (a b : List ℕ) → list_all p a ≡ true → list_all p b ≡ true → list_all p (a ++ b) ≡ true
all_of_both p [] b h k = k
all_of_both p (x ∷ a) b h k = let f = both (p x) _ h in ap (λ z. z && list_all p (a ++ b)) f.0 ∙ all_of_both p a b f.1 k

all_more : (p q : ℕ → Bool) → ((b : ℕ) → p b ≡ true → q b ≡ true) → (bs : List ℕ) → list_all p bs ≡ true → list_all q bs ≡ true
all_more p q f [] h = refl
all_more p q f (b ∷ bs) h = let k = both (p b) _ h in ap (λ z. z && list_all q bs) (f b k.0) ∙ all_more p q f bs k.1

word_fits : (b : ℕ) → in_word b ≡ true → is_allowed b ≡ true
word_fits b e = grind (arith, nat_tests)

digit_fits : (b : ℕ) → is_ascii_digit b ≡ true → is_allowed b ≡ true
digit_fits b e = grind (arith, nat_tests)

letter_fits : (b : Bit9) → is_allowed (letter b) ≡ true
letter_fits U = refl
letter_fits X = refl
letter_fits Zero = refl
letter_fits One = refl
letter_fits Z = refl
letter_fits W = refl
letter_fits L = refl
letter_fits H = refl
letter_fits Dash = refl

letters_fit : (bits : List Bit9) → all_allowed (map letter bits) ≡ true
letters_fit [] = refl
letters_fit (b ∷ bits) = ap (λ z. z && all_allowed (map letter bits)) (letter_fits b) ∙ letters_fit bits

mark_allowed : (a : Mark) → all_allowed (spelling a) ≡ true
mark_allowed m.All = refl
mark_allowed m.And = refl
mark_allowed m.Architecture = refl
mark_allowed m.Begin = refl
mark_allowed m.Behaviour = refl
mark_allowed m.Clk = refl
mark_allowed m.Downto = refl
mark_allowed m.Else = refl
mark_allowed m.Elsif = refl
mark_allowed m.End = refl
mark_allowed m.Entity = refl
mark_allowed m.Function = refl
mark_allowed m.Ieee = refl
mark_allowed m.If = refl
mark_allowed m.In = refl
mark_allowed m.Inp = refl
mark_allowed m.Is = refl
mark_allowed m.Library = refl
mark_allowed m.Of = refl
mark_allowed m.Out = refl
mark_allowed m.Outp = refl
mark_allowed m.Port = refl
mark_allowed m.Process = refl
mark_allowed m.Return = refl
mark_allowed m.Rewire = refl
mark_allowed m.RisingEdge = refl
mark_allowed m.Rst = refl
mark_allowed m.Signal = refl
mark_allowed m.StdLogic = refl
mark_allowed m.StdLogic1164 = refl
mark_allowed m.StdLogicVector = refl
mark_allowed m.Then = refl
mark_allowed m.Use = refl
mark_allowed m.Variable = refl
mark_allowed m.Opens = refl
mark_allowed m.Closes = refl
mark_allowed m.Comma = refl
mark_allowed m.Semicolon = refl
mark_allowed m.Colon = refl
mark_allowed m.Dot = refl
mark_allowed m.Amp = refl
mark_allowed m.Equal = refl
mark_allowed m.Assign = refl
mark_allowed m.Drive = refl
mark_allowed m.High = refl

token_allowed : (x : Token) → IsToken x → all_allowed (bytes_of x) ≡ true
token_allowed _ (mark_token a) = mark_allowed a
token_allowed _ (id_token w b a l k h) = all_more in_word is_allowed word_fits w a
token_allowed _ (number_token n l a) = all_more is_ascii_digit is_allowed digit_fits (decimal n) a
token_allowed _ (bits_token bits some) = all_of_both is_allowed (map letter bits) (34 ∷ []) (letters_fit bits) refl

pub spelled_allowed : (ts : List Token) → AllTokens ts → all_allowed (spelled ts) ≡ true
unfolding with_separator
spelled_allowed [] h = refl
spelled_allowed (x ∷ ts) h =
    all_of_both is_allowed (bytes_of x ++ separator x ∷ []) (spelled ts)
    (all_of_both is_allowed (bytes_of x) (separator x ∷ []) (token_allowed x h.0) (ap (λ z. z && true) (gap x).fits)) (spelled_allowed ts h.1)
