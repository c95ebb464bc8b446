-- Traces: texts of lines, each of the characters `0` and `1`, one for each list of bits; and the lines that are printed.
use Rattle.std.specs.Prelude.{◌≡◌, ℕ, ◌+◌, ◌-◌, List, [], ◌∷◌, ◌++◌, map, take, drop, length, Bool, ◌&&◌, ◌||◌, nat_eq, nat_le, Option, Some, None, Result, Ok, Err, bytes_eq, codes, if◌then◌else◌}
use Rattle.std.specs.List.{list_all}
use Rattle.rw_base.specs.declared.bit.Bit9.{Bit9}
use Rattle.vh_tree.specs.VToken.{letter}
use Rattle.rw_trace.specs.declared.fail.TraceFail.{TraceFail}
use Rattle.rw_trace.specs.declared.fail.TraceFail.TheVariants.{BadLine, OutOfMemory}

-- how many bytes and how many lines a trace has, at most
abbrev pub most_bytes : ℕ
most_bytes = 16777216

abbrev pub most_lines : ℕ
most_lines = 1048576

-- a byte at the front of a line
abbrev pub begins_line : ℕ → List (List ℕ) → List (List ℕ)
begins_line b [] = (b ∷ []) ∷ []
begins_line b (line ∷ lines) = (b ∷ line) ∷ lines

-- the lines of a text, each with the LF (10) that ends it; the last may end at the end of the text
abbrev pub lines_of : List ℕ → List (List ℕ)
lines_of [] = []
lines_of (b ∷ bs) = if nat_eq b 10 then (b ∷ []) ∷ lines_of bs else begins_line b (lines_of bs)

-- whether a byte is the last of these
abbrev pub ends_in : ℕ → List ℕ → Bool
ends_in b bytes = bytes_eq (drop (length bytes - 1) bytes) (b ∷ [])

-- all but the last
abbrev pub front_of : List ℕ → List ℕ
front_of bytes = take (length bytes - 1) bytes

-- the characters of a line: all but the LF that ends it, and a CR (13) just before that
abbrev pub characters : List ℕ → List ℕ
characters line = if ends_in 10 line then (if ends_in 13 (front_of line) then front_of (front_of line) else front_of line) else line

-- `0` (48) or `1` (49)
abbrev pub is_bit : ℕ → Bool
is_bit b = nat_eq b 48 || nat_eq b 49

-- the bits of these characters: so many, and each of them `0` or `1`
abbrev pub bits_of : ℕ → List ℕ → Option (List Bool)
bits_of width cs = if list_all is_bit cs && nat_eq (length cs) width then Some (map (nat_eq 49) cs) else None

-- the bits of the line of this number, counted from 1, whose last byte is that of this number; None where it is refused
abbrev pub line_read : ℕ → ℕ → ℕ → List ℕ → Option (List Bool)
line_read width number last line = if nat_le number most_lines && nat_le last most_bytes then bits_of width (characters line) else None

-- a line before those that follow it; the first that is refused counts
abbrev pub read_before : ℕ → Option (List Bool) → Result (List (List Bool)) ℕ → Result (List (List Bool)) ℕ
read_before number None rest = Err number
read_before number (Some bits) (Ok lines) = Ok (bits ∷ lines)
read_before number (Some bits) (Err later) = Err later

-- the lines from this number on, behind so many bytes
abbrev pub lines_read : ℕ → ℕ → ℕ → List (List ℕ) → Result (List (List Bool)) ℕ
lines_read width number behind [] = Ok []
lines_read width number behind (line ∷ lines) =
    read_before number (line_read width number (behind + length line) line) (lines_read width (number + 1) (behind + length line) lines)

-- the bits of each line of a trace whose lines have this width, or the number of the first line that is refused
abbrev pub trace_of : ℕ → List ℕ → Result (List (List Bool)) ℕ
trace_of width bytes = lines_read width 1 0 (lines_of bytes)

-- the answer is this, unless memory ran out
abbrev pub Answers : {X : Type 0} → (X → List (List Bool)) → Result X TraceFail → Result (List (List Bool)) ℕ → Type 0
Answers view (Ok x) found = found ≡ Ok (view x)
Answers view (Err (BadLine number)) found = found ≡ Err number
Answers view (Err OutOfMemory) found = Unit {0}

-- the line that is printed for these values
abbrev pub line_of : List Bit9 → List ℕ
line_of bits = map letter bits ++ codes "\n"
