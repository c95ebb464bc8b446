-- The first refused line of a trace, over its lines as a list: beside `lines_read`, which goes from line to line.
use Rattle.std.specs.Prelude.{◌≡◌, ◌≢◌, ℕ, suc, ◌+◌, ◌<◌, List, [], ◌∷◌, take, length, get_or, Bool, Option, Some, None, Ok, Err, ◌↔◌}
use Rattle.rw_trace.specs.Traces.{line_read, lines_of, trace_of}

-- how many bytes lines have
abbrev pub bytes_in : List (List ℕ) → ℕ
bytes_in [] = 0
bytes_in (line ∷ lines) = length line + bytes_in lines

-- the bits of the line with so many before it, None where it is refused. The first line has this number, and so many bytes stand before it
abbrev pub line_at : ℕ → ℕ → ℕ → List (List ℕ) → ℕ → Option (List Bool)
line_at width number behind lines before = line_read width (number + before) (behind + bytes_in (take (suc before) lines)) (get_or lines before [])

-- the line with this number is refused, and none before it
pub record IsFirstRefused (width number behind : ℕ) (lines : List (List ℕ)) (refused : ℕ) : Type 0 where
  pub before : ℕ
  pub within : before < length lines
  pub numbered : refused ≡ number + before
  pub this : line_at width number behind lines before ≡ None
  pub earlier : (other : ℕ) → other < before → line_at width number behind lines other ≢ None

-- these are the bits of the lines, one by one
pub record AreRead (width number behind : ℕ) (lines : List (List ℕ)) (read : List (List Bool)) : Type 0 where
  pub count : length read ≡ length lines
  pub each : (before : ℕ) → before < length lines → line_at width number behind lines before ≡ Some (get_or read before [])

-- of a trace: it is refused with a number exactly where the line with this number, counted from 1, is the first of its lines that is refused, and
-- it gives bits exactly where these are the bits of its lines
abbrev pub RefusedLaw : Type 0
RefusedLaw = (width : ℕ) (bytes : List ℕ) (refused : ℕ) → (trace_of width bytes ≡ Err refused) ↔ IsFirstRefused width 1 0 (lines_of bytes) refused

abbrev pub ReadLaw : Type 0
ReadLaw = (width : ℕ) (bytes : List ℕ) (read : List (List Bool)) → (trace_of width bytes ≡ Ok read) ↔ AreRead width 1 0 (lines_of bytes) read
