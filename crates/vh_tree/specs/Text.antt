-- Which tokens a text spells (IEEE Std 1076-1993, sections 13.2 to 13.9): maximal runs of bytes, each judged as a whole.
use Rattle.std.specs.Prelude.{◌≡◌, ◌≢◌, ℕ, ◌<◌, ◌^◌, Bool, true, false, not, ◌||◌, ◌&&◌, nat_eq, nat_le, List, [], ◌∷◌, ◌++◌, map, length, codes, decimal, bytes_eq}
use Rattle.std.specs.List.{list_all, list_any}
use Rattle.std.specs.Char.{is_ascii_digit, is_ascii_alphabetic, to_ascii_lowercase}
use Rattle.rw_base.specs.declared.bit.Bit9.{Bit9}
use Rattle.vh_tree.specs.declared.token.Mark.{Mark}
use Rattle.vh_tree.specs.declared.token.Token.{Token}
use Rattle.vh_tree.specs.declared.token.Token.TheVariants as t
use Rattle.vh_tree.specs.VToken.{letter, spelling, is_symbol}

-- the bytes that may stand in a text: tab, LF, CR, and 32 to 126
abbrev pub is_allowed : ℕ → Bool
is_allowed b = nat_eq b 9 || (nat_eq b 10 || (nat_eq b 13 || (nat_le 32 b && nat_le b 126)))

-- every byte of the text may stand there
abbrev pub all_allowed : List ℕ → Bool
all_allowed = list_all is_allowed

-- white space: space, LF, tab and CR
abbrev pub is_white : ℕ → Bool
is_white b = nat_eq b 32 || (nat_eq b 10 || (nat_eq b 9 || nat_eq b 13))

-- the bytes of words: letters, digits and underscores
abbrev pub in_word : ℕ → Bool
in_word b = is_ascii_alphabetic b || (is_ascii_digit b || nat_eq b 95)

-- the bytes of a comment: all but LF
abbrev pub in_line : ℕ → Bool
in_line b = not (nat_eq b 10)

-- no byte of the kind begins the text
abbrev pub stops : (ℕ → Bool) → List ℕ → Bool
stops kind [] = true
stops kind (b ∷ bs) = not (kind b)

-- a maximal run: all its bytes are of the kind, and none of the kind follows
pub record IsRun (kind : ℕ → Bool) (run rest : List ℕ) : Type 0 where
  pub all : list_all kind run ≡ true
  pub stop : stops kind rest ≡ true

-- the text begins with this byte
abbrev pub first_is : ℕ → List ℕ → Bool
first_is b [] = false
first_is b (c ∷ cs) = nat_eq c b

-- the text begins with a letter
abbrev pub begins_letter : List ℕ → Bool
begins_letter [] = false
begins_letter (b ∷ bs) = is_ascii_alphabetic b

-- an underscore here would be the last byte, or stand before another
abbrev pub ends_single : List ℕ → Bool
ends_single [] = true
ends_single (c ∷ cs) = nat_eq c 95

-- no underscore stands last or before another
abbrev pub single_underscores : List ℕ → Bool
single_underscores [] = true
single_underscores (b ∷ bs) = not (nat_eq b 95 && ends_single bs) && single_underscores bs

-- a run of word bytes, in lower case, is a token: a word of the grammar, or a declared name, which has a digit
pub data IsWord : List ℕ → Token → Type 0 where
  of_grammar : (a : Mark) → is_symbol a ≡ false → IsWord (spelling a) (t.Mark a)
  declared : (w : List ℕ) → list_any is_ascii_digit w ≡ true → single_underscores w ≡ true → w ≢ codes "std_logic_1164" → IsWord w (t.Id w)

-- `:` before `=` is no symbol of its own: the longest one counts
abbrev pub is_longest : Mark → List ℕ → Bool
is_longest a rest = not (bytes_eq (spelling a) (codes ":") && first_is 61 rest)

-- the text spells these tokens: gaps, comments, and one token after another
pub data IsText : List ℕ → List Token → Type 0 where
  ended : IsText [] []
  a_gap : (b : ℕ) (bs : List ℕ) (ts : List Token) → is_white b ≡ true → IsText bs ts → IsText (b ∷ bs) ts
  a_comment : (line bs : List ℕ) (ts : List Token) → IsRun in_line line bs → IsText bs ts → IsText (45 ∷ 45 ∷ (line ++ bs)) ts
  a_word : (w bs : List ℕ) (x : Token) (ts : List Token) → begins_letter w ≡ true → IsRun in_word w bs → IsWord (map to_ascii_lowercase w) x → IsText bs ts → IsText (w ++ bs) (x ∷ ts)
  a_number : (n : ℕ) (bs : List ℕ) (ts : List Token) → n < 2 ^ 31 → IsRun is_ascii_digit (decimal n) bs → IsText bs ts → IsText (decimal n ++ bs) (t.Number n ∷ ts)
  a_string : (bits : List Bit9) (bs : List ℕ) (ts : List Token) → 0 < length bits → IsText bs ts → IsText (34 ∷ (map letter bits ++ 34 ∷ bs)) (t.Bits bits ∷ ts)
  a_symbol : (a : Mark) (bs : List ℕ) (ts : List Token) → is_symbol a ≡ true → is_longest a bs ≡ true → IsText bs ts → IsText (spelling a ++ bs) (t.Mark a ∷ ts)
