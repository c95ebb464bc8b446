-- Names as lists of bytes.
use Rattle.std.specs.Prelude.{ℕ, List}

-- the bytes that a name is compared by: its own
abbrev pub itself : List ℕ → List ℕ
itself name = name
