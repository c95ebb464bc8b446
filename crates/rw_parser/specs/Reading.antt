-- Reading the items of a program run after run.
use Rattle.std.specs.Prelude.{◌≡◌, ℕ, List, ◌∷◌, Option, Some, None, Result, Ok, Err, if◌then◌else◌}
use Rattle.rw_base.specs.declared.place.Place.{Place}
use Rattle.rw_base.specs.Answers.{Fail}
use Rattle.rw_base.specs.declared.fail.Failure.TheVariants as fail
use Rattle.rw_base.specs.declared.rule.Rule.TheVariants as rule
use Rattle.rw_parser_grammar.specs.declared.item.Item.{Item}
use Rattle.rw_parser_grammar.specs.declared.lexeme.Lexeme.{Lexeme}
use Rattle.rw_parser_reading.specs.Read.{◌>>=◌}
use Rattle.rw_parser_grammar.specs.Grammar.{whole_run}
use Rattle.rw_parser_reading.specs.ReadProgram.{is_last, items_at}
use Rattle.rw_parser.specs.Kept.{item_kept}
use Rattle.rw_parser.specs.Shallow.{Kept, kept_behind}

-- the item of a run, if it is kept
unfoldable pub run_kept : ℕ → List Lexeme → Lexeme → Option (Option Item)
run_kept n run end = do
  p ← item_kept n (whole_run run end)
  if is_last end p.1 then Some p.0 else None

-- what was answered is what was found, or E05 is broken where the first run spells no item; want of memory says nothing
abbrev pub KeepsAll : Result Kept Fail → Result Kept Place → Type 0
KeepsAll (Ok after) found = found ≡ Ok after
KeepsAll (Err (fail.Refused refusal)) found = (refusal.rule ≡ rule.E05) × (found ≡ Err refusal.place)
KeepsAll (Err fail.OutOfMemory) found = Unit {0}

-- one run behind what is kept, whatever stands behind it
abbrev pub KeepsRun : ℕ → List Lexeme × Lexeme → Kept → Result Kept Fail → Type 0
KeepsRun n run before (Ok after) = (runs : List (List Lexeme × Lexeme)) → kept_behind before (items_at n (run ∷ runs)) ≡ kept_behind after (items_at n runs)
KeepsRun n run before (Err (fail.Refused refusal)) = (refusal.rule ≡ rule.E05) × ((runs : List (List Lexeme × Lexeme)) → kept_behind before (items_at n (run ∷ runs)) ≡ Err refusal.place)
KeepsRun n run before (Err fail.OutOfMemory) = Unit {0}
