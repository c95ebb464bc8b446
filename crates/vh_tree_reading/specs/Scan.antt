-- The tokens of a text, as functions on lists: what a reader computes, held against `Text`.
use Rattle.std.specs.Prelude.{ℕ, Bool, zero, suc, ◌+◌, ◌-◌, ◌*◌, not, ◌||◌, ◌&&◌, nat_eq, nat_lt, List, [], ◌∷◌, map, length, drop, Option, Some, None, if◌then◌else◌, codes}
use Rattle.std.specs.Str.{bytes_eq}
use Rattle.std.specs.List.{list_any}
use Rattle.std.specs.Char.{is_ascii_digit, is_ascii_alphabetic, to_ascii_lowercase}
use Rattle.rw_base.specs.declared.bit.Bit9.{Bit9}
use Rattle.rw_base.specs.declared.bit.Bit9.TheVariants.{U, X, Zero, One, Z, W, L, H, Dash}
use Rattle.vh_tree.specs.declared.token.Mark.{Mark}
use Rattle.vh_tree.specs.declared.token.Mark.TheVariants as m
use Rattle.vh_tree.specs.declared.token.Token.{Token}
use Rattle.vh_tree.specs.declared.token.Token.TheVariants as t
use Rattle.vh_tree.specs.VToken.{spelling}
use Rattle.vh_tree.specs.Text.{is_white, in_word, in_line, first_is, single_underscores}

-- go on with what was found
infixl 10 ◌>>=◌
abbrev pub ◌>>=◌ : {A B : Type 0} → Option A → (A → Option B) → Option B
None >>= f = None
(Some x) >>= f = f x

-- a byte of a string of the nine values
abbrev pub is_bit : ℕ → Bool
is_bit b = nat_eq b 85 || (nat_eq b 88 || (nat_eq b 48 || (nat_eq b 49 || (nat_eq b 90 || (nat_eq b 87 || (nat_eq b 76 || (nat_eq b 72 || nat_eq b 45)))))))

-- the longest run of a kind at the front
abbrev pub run : (ℕ → Bool) → List ℕ → List ℕ
run c [] = []
run c (b ∷ bs) = if c b then b ∷ run c bs else []

-- what is behind the longest run of a kind
abbrev pub behind : (ℕ → Bool) → List ℕ → List ℕ
behind c [] = []
behind c (b ∷ bs) = if c b then behind c bs else b ∷ bs

-- the first mark with this spelling
abbrev pub mark_in : List Mark → List ℕ → Option Mark
mark_in [] w = None
mark_in (a ∷ others) w = if bytes_eq w (spelling a) then Some a else mark_in others w

-- the words of the grammar that have no digit
abbrev pub words : List Mark
words = m.All ∷ m.And ∷ m.Architecture ∷ m.Begin ∷ m.Behaviour ∷ m.Clk ∷ m.Downto ∷ m.Else ∷ m.Elsif ∷ m.End ∷ m.Entity ∷ m.Function ∷ m.Ieee ∷ m.If ∷ m.In ∷ m.Inp ∷ m.Is ∷ m.Library ∷ m.Of ∷ m.Out ∷ m.Outp ∷ m.Port ∷ m.Process ∷ m.Return ∷ m.Rewire ∷ m.RisingEdge ∷ m.Rst ∷ m.Signal ∷ m.StdLogic ∷ m.StdLogicVector ∷ m.Then ∷ m.Use ∷ m.Variable ∷ []

-- the symbols of one byte
abbrev pub singles : List Mark
singles = m.Opens ∷ m.Closes ∷ m.Comma ∷ m.Semicolon ∷ m.Colon ∷ m.Dot ∷ m.Amp ∷ m.Equal ∷ []

-- a run of word bytes in lower case, as a token
unfoldable pub word_token : List ℕ → Option Token
word_token w =
    if bytes_eq w (codes "std_logic_1164") then Some (t.Mark m.StdLogic1164)
    else (if list_any is_ascii_digit w then (if single_underscores w then Some (t.Id w) else None) else (mark_in words w >>= λ a. Some (t.Mark a)))

-- the number that digits give, going on from n
abbrev pub read_on : ℕ → List ℕ → ℕ
read_on n [] = n
read_on n (c ∷ cs) = read_on (10 * n + (c - 48)) cs

-- a number of at most 31 bits
unfoldable pub value_of : List ℕ → Option ℕ
value_of w = if nat_lt 2147483647 (read_on 0 w) then None else Some (read_on 0 w)

-- a number without a leading zero
unfoldable pub number_of : List ℕ → Option ℕ
number_of w = if first_is 48 w && nat_lt 1 (length w) then None else value_of w

-- the value that a letter shows
abbrev pub bit_at : ℕ → Bit9
bit_at b =
    if nat_eq b 85 then U
    else (if nat_eq b 88 then X else (if nat_eq b 48 then Zero else (if nat_eq b 49 then One else (if nat_eq b 90 then Z else (if nat_eq b 87 then W else (if nat_eq b 76 then L else (if nat_eq b 72 then H else Dash)))))))

-- the string behind a quote
unfoldable pub string_at : List ℕ → Option (Option Token × List ℕ)
string_at bs =
    if nat_eq (length (run is_bit bs)) 0 || not (first_is 34 (behind is_bit bs)) then None else Some (Some (t.Bits (map bit_at (run is_bit bs))), drop 1 (behind is_bit bs))

-- the symbol that begins a text
unfoldable pub symbol_at : ℕ → List ℕ → Option (Mark × List ℕ)
symbol_at b bs =
    if nat_eq b 58 && first_is 61 bs then Some (m.Assign, drop 1 bs)
    else (if nat_eq b 60 && first_is 61 bs then Some (m.Drive, drop 1 bs)
    else (if nat_eq b 39 && (first_is 49 bs && first_is 39 (drop 1 bs)) then Some (m.High, drop 1 (drop 1 bs)) else (mark_in singles (b ∷ []) >>= λ a. Some (a, bs))))

-- a token or a gap, and what is behind it
unfoldable pub front : List ℕ → Option (Option Token × List ℕ)
front [] = None
front (b ∷ bs) =
    if is_ascii_digit b then (number_of (run is_ascii_digit (b ∷ bs)) >>= λ n. Some (Some (t.Number n), behind is_ascii_digit (b ∷ bs)))
    else (if is_ascii_alphabetic b then (word_token (map to_ascii_lowercase (run in_word (b ∷ bs))) >>= λ x. Some (Some x, behind in_word (b ∷ bs)))
    else (if is_white b then Some (None, bs)
    else (if nat_eq b 34 then string_at bs
    else (if nat_eq b 45 && first_is 45 bs then Some (None, behind in_line (drop 1 bs)) else (symbol_at b bs >>= λ p. Some (Some (t.Mark p.0), p.1))))))

-- a token before others, if there is one
abbrev pub added : Option Token → List Token → List Token
added None ts = ts
added (Some x) ts = x ∷ ts

-- all tokens of a text; the number bounds the turns
unfoldable pub tokens_at : ℕ → List ℕ → Option (List Token)
tokens_at n [] = Some []
tokens_at zero (b ∷ bs) = None
tokens_at (suc n) (b ∷ bs) = do
  p ← front (b ∷ bs)
  q ← tokens_at n p.1
  Some (added p.0 q)

-- the tokens of a text
unfoldable pub scanned : List ℕ → Option (List Token)
scanned bs = tokens_at (length bs) bs
