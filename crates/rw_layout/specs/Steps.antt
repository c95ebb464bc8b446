-- What the functions inside promise each other.
use Rattle.std.specs.Prelude.{◌≡◌, ℕ, Bool, true, false, List, ◌++◌, Option, Some, None, Result, Ok, Err}
use Rattle.rw_base.specs.declared.place.Place.{Place}
use Rattle.rw_base.specs.Answers.{Fail}
use Rattle.rw_base.specs.declared.fail.Failure.TheVariants as fail
use Rattle.rw_lex.specs.declared.token.Token.{Token}
use Rattle.rw_layout.specs.declared.entry.Opener.TheVariants as o
use Rattle.rw_layout.specs.declared.entry.Entry.{Entry}
use Rattle.rw_layout.specs.declared.entry.Entry.TheVariants as e
use Rattle.rw_layout.specs.declared.stack.Run.{Run}
use Rattle.rw_layout.specs.declared.stack.Run.TheVariants as run
use Rattle.rw_layout.specs.declared.step.Layout.{Layout}
use Rattle.rw_layout.specs.Layout.{Turn, is_block, is_plain, is_deeper, broken_at}

-- an opener other than a brace
abbrev pub is_inner : Entry → Bool
is_inner (e.Open o.Brace at) = false
is_inner (e.Open o.LetBrace at) = false
is_inner (e.Open opener at) = true
is_inner (e.Block n of_let) = false

-- what the entries of a run are
abbrev pub is_run : Run → Entry → Bool
is_run run.Blocks entry = is_block entry
is_run run.Plain entry = is_plain entry
is_run (run.Deeper column) entry = is_deeper column entry
is_run run.Inner entry = is_inner entry

-- the column of a block that is met, 0 where something else is
abbrev pub column_met : Option Entry → ℕ
column_met (Some (e.Block n of_let)) = n
column_met entry = 0

-- a call leaves what was found, or refuses by E04 at this place where nothing was, unless memory ran out
abbrev pub Leaves : {X : Type 0} → Result (Unit {0}) Fail → Place → X → Option X → Type 0
Leaves (Ok done) at new found = found ≡ Some new
Leaves (Err (fail.Refused refusal)) at new found = (found ≡ None) × (refusal ≡ broken_at at)
Leaves (Err fail.OutOfMemory) at new found = Unit {0}

-- what was done so far, as a turn
abbrev pub so_far : Layout → Turn
so_far layout = record { tokens = layout.out.items; before = layout.before; stack = layout.stack }

-- a turn behind these tokens
abbrev pub turn_behind : List Token → Turn → Turn
turn_behind tokens turn = record { tokens = tokens ++ turn.tokens; before = turn.before; stack = turn.stack }

-- what was emitted so far, and the stack
abbrev pub laid : Layout → List Token × List Entry
laid layout = (layout.out.items, layout.stack)
