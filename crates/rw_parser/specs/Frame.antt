-- The frame of a program, and the whole.
use Rattle.std.specs.Prelude.{◌≡◌, ◌⊎◌, ℕ, List, Option, Some, None, Result, Ok, Err}
use Rattle.rw_base.specs.declared.place.Place.{Place}
use Rattle.rw_base.specs.declared.place.Span.{Span}
use Rattle.rw_base.specs.Answers.{Fail}
use Rattle.rw_base.specs.declared.fail.Failure.TheVariants as fail
use Rattle.rw_base.specs.declared.rule.Rule.TheVariants as rule
use Rattle.rw_tree.specs.declared.program.Program.{Program}
use Rattle.rw_lex.specs.declared.token.Token.{Token}
use Rattle.rw_parser_grammar.specs.declared.lexeme.Mark.TheVariants as m
use Rattle.rw_parser_grammar.specs.declared.lexeme.Lexeme.{Lexeme}
use Rattle.rw_parser_grammar.specs.Chains.{strength_of_name}
use Rattle.rw_parser_grammar.specs.Grammar.{Spells, IsNotOfTheGrammar, first_place}
use Rattle.rw_parser_reading.specs.Read.{◌>>=◌, after}
use Rattle.rw_parser_reading.specs.ReadProgram.{header_at, items_at}
use Rattle.rw_parser_grammar.specs.Resolution.{IsProgramResolved, FirstDeclarationBroken}
use Rattle.rw_parser.specs.Shallow.{Kept, nothing, kept_behind}

-- the tokens behind the outer opening brace
unfoldable pub frame_tokens : List Lexeme → Option (List Lexeme)
frame_tokens ts = header_at ts >>= (λ r. after m.OpensBlock r)

-- what is kept of the items of runs; without them the place of the first token
abbrev pub kept_framed : ℕ → List Lexeme → Option (List (List Lexeme × Lexeme)) → Result Kept Place
kept_framed n ts None = Err (first_place ts)
kept_framed n ts (Some runs) = kept_behind nothing (items_at n runs)

-- a program with its chains grouped, if none of its items is too deep: else the place of the first one that is broken in it, or this one
abbrev pub Grouped : Program Span → Option Place → Result (Program Span) Fail → Type 0
Grouped program deep (Err fail.OutOfMemory) = Unit {0}
Grouped program None (Ok resolved) = IsProgramResolved program resolved
Grouped program (Some at) (Ok resolved) = ⊥
Grouped program None (Err (fail.Refused refusal)) = (refusal.rule ≡ rule.E05) × FirstDeclarationBroken (strength_of_name program.decls) program.decls refusal.place
Grouped program (Some at) (Err (fail.Refused refusal)) =
    (refusal.rule ≡ rule.E05) × (FirstDeclarationBroken (strength_of_name program.decls) program.decls refusal.place ⊎ ((refusal.place ≡ at) × ((resolved : Program Span) × IsProgramResolved program resolved)))

-- the tokens spell a program that is broken first at this place
abbrev pub IsBroken : List Token → Place → Type 0
IsBroken tokens at = (program : Program Span) × Spells tokens program × FirstDeclarationBroken (strength_of_name program.decls) program.decls at

-- what is answered of tokens
abbrev pub Parses : List Token → Result (Program Span) Fail → Type 0
Parses tokens (Ok resolved) = (program : Program Span) × Spells tokens program × IsProgramResolved program resolved
Parses tokens (Err (fail.Refused refusal)) = (refusal.rule ≡ rule.E05) × (IsNotOfTheGrammar tokens refusal.place ⊎ IsBroken tokens refusal.place)
Parses tokens (Err fail.OutOfMemory) = Unit {0}
