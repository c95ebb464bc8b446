-- The frames of a clause with its name.
use Rattle.std.specs.Prelude.{ℕ, List}
use Rattle.rw_base.specs.declared.place.Span.{Span}
use Rattle.rw_tree.specs.declared.clause.Alt.{Alt}
use Rattle.rw_parser_reading.specs.Frames.{frames_of_row}

-- how many frames stand inside one another in a clause
abbrev pub frames_of_clause : List ℕ × Alt Span → ℕ
frames_of_clause clause = frames_of_row clause.1
