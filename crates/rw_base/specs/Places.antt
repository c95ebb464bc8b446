-- Where a byte of a source stands (Haskell 2010 Report, section 10.3, for tab stops).
use Rattle.std.specs.Prelude.{ℕ, ◌+◌, ◌-◌, ◌*◌, ◌/◌, ◌==◌, ◌&&◌, nat_le, Bool, List, fold, if◌then◌else◌}
use Rattle.rw_base.specs.declared.place.Place.{Place}

-- the line after a byte: a LF ends one
abbrev pub next_line : ℕ → ℕ → ℕ
next_line line byte = if byte == 10 then line + 1 else line

-- a byte that goes on with a character of several bytes
abbrev pub continues : ℕ → Bool
continues byte = nat_le 128 byte && nat_le byte 191

-- the column after a byte: a LF begins the columns anew, and tab stops stand at 1, 9, 17 and so on
abbrev pub next_column : ℕ → ℕ → ℕ
next_column column byte =
    if byte == 10 then 1 else if byte == 9 then (column + 7) / 8 * 8 + 1 else if continues byte then column else column + 1

-- the place of what follows these bytes, the first of which stands at 1:1
abbrev pub place_after : List ℕ → Place
place_after front = record { line = fold next_line 1 front; column = fold next_column 1 front }
