-- The classes of bytes, and runs of bytes of one kind (Haskell 2010 Report, section 2.2, in this project's profile).
use Rattle.std.specs.Prelude.{ℕ, Bool, true, false, not, ◌||◌, ◌&&◌, nat_eq, nat_le, List, [], ◌∷◌, codes, if◌then◌else◌}
use Rattle.std.specs.List.{list_all}
use Rattle.rw_lex.specs.declared.bytes.Class.{Class}
use Rattle.rw_lex.specs.declared.bytes.Class.TheVariants as class
use Rattle.rw_lex.specs.declared.bytes.Run.{Run}
use Rattle.rw_lex.specs.declared.bytes.Run.TheVariants as run

-- a byte is one of these
abbrev pub is_among : List ℕ → ℕ → Bool
is_among [] b = false
is_among (c ∷ cs) b = nat_eq b c || is_among cs b

-- a byte is one of those from the first to the last
abbrev pub is_between : ℕ → ℕ → ℕ → Bool
is_between first last b = nat_le first b && nat_le b last

-- the class of a byte: white space is space, tab, LF, form feed and CR
abbrev pub class_of : ℕ → Class
class_of b =
    if is_among (32 ∷ 9 ∷ 10 ∷ 12 ∷ 13 ∷ []) b then class.White
    else (if is_between 97 122 b || nat_eq b 95 then class.Small
    else (if is_between 65 90 b then class.Capital
    else (if is_between 48 57 b then class.Digit else (if is_among (codes "!#$%&*+./<=>?@\\^|-~:") b then class.Symbol else (if is_among (codes "(),;`{}") b then class.Special else class.Other)))))

-- letters and the underscore begin words
abbrev pub is_letter_class : Class → Bool
is_letter_class class.Small = true
is_letter_class class.Capital = true
is_letter_class _ = false

-- capital letters begin constructors
abbrev pub is_capital_class : Class → Bool
is_capital_class class.Capital = true
is_capital_class _ = false

-- letters, the underscore and digits go on with a word
abbrev pub is_word_class : Class → Bool
is_word_class class.Small = true
is_word_class class.Capital = true
is_word_class class.Digit = true
is_word_class _ = false

-- digits make numbers
abbrev pub is_digit_class : Class → Bool
is_digit_class class.Digit = true
is_digit_class _ = false

-- symbols make operators
abbrev pub is_symbol_class : Class → Bool
is_symbol_class class.Symbol = true
is_symbol_class _ = false

-- what a run is of: a word's letters, digits, underscores and apostrophes (39); digits; operator symbols; all but LF (10)
abbrev pub is_in : Run → ℕ → Bool
is_in run.Word b = is_word_class (class_of b) || nat_eq b 39
is_in run.Digits b = is_digit_class (class_of b)
is_in run.Symbols b = is_symbol_class (class_of b)
is_in run.Line b = not (nat_eq b 10)

-- all of these bytes are of the kind
abbrev pub is_run : Run → List ℕ → Bool
is_run kind piece = list_all (is_in kind) piece

-- these bytes don't begin with one of the kind
abbrev pub stops : Run → List ℕ → Bool
stops kind [] = true
stops kind (b ∷ bs) = not (is_in kind b)
