-- A run of tokens by how many there are in it.
use Rattle.std.specs.Prelude.{◌≡◌, ◌<◌, ◌+◌, ◌-◌, ◌&&◌, ℕ, nat_eq, List, [], ◌∷◌, length, take, drop, Option, Some, None, if◌then◌else◌}
use Rattle.rw_parser_grammar.specs.declared.lexeme.Mark.TheVariants as m
use Rattle.rw_parser_grammar.specs.declared.lexeme.Lexeme.{Lexeme}
use Rattle.rw_parser_grammar.specs.declared.lexeme.Lexeme.TheVariants as t
use Rattle.rw_parser_reading.specs.Read.{same_mark}
use Rattle.rw_parser_reading.specs.ReadProgram.{run_at}

-- how many braces are open behind a token, with so many before it; nothing where the token ends the run
abbrev pub depth_after : ℕ → Lexeme → Option ℕ
depth_after d (t.Mark w a) =
    if same_mark a m.OpensBlock then Some (d + 1)
    else (if same_mark a m.ClosesBlock then (if nat_eq d 0 then None else Some (d - 1)) else (if same_mark a m.Semicolon && nat_eq d 0 then None else Some d))
depth_after d (t.Variable w name) = Some d
depth_after d (t.Constructor w name) = Some d
depth_after d (t.Operator w name) = Some d
depth_after d (t.Number w digits) = Some d

-- the tokens begin with a run of so many, and one that ends it; or no run ends
abbrev pub Ends : List Lexeme → Option ℕ → Type 0
Ends ts None = run_at 0 ts ≡ None
Ends ts (Some k) = (k < length ts) × ((end : Lexeme) × (run_at 0 ts ≡ Some (take k ts, (end, drop (k + 1) ts))) × (drop k ts ≡ end ∷ drop (k + 1) ts))
