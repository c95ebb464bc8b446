-- The verdict on a source: which program it is, or the first of the rules E01 to E16 that it breaks and where.
use Rattle.std.specs.Prelude.{◌≡◌, ◌⊎◌, ◌≤◌, ◌<◌, ◌++◌, ℕ, List, [], ◌∷◌, Option, Some, None, Ok, Err, length, codes, nat_eq, if◌then◌else◌}
use Rattle.rw_base.specs.declared.place.Place.{Place}
use Rattle.rw_base.specs.declared.place.Span.{Span}
use Rattle.rw_base.specs.declared.rule.Rule.TheVariants.{E01, E05, E13, E14, E15, E16}
use Rattle.rw_base.specs.Answers.{Fail}
use Rattle.rw_base.specs.declared.fail.Failure.TheVariants as fail
use Rattle.rw_base.specs.declared.fail.Refusal.{Refusal}
use Rattle.rw_tree.specs.declared.program.Program.{Program}
use Rattle.rw_tree.specs.Declarations.{Declaration, function_declaration, PlainProgram, plain_program}
use Rattle.rw_prelude.specs.PreludeText.{prelude}
use Rattle.rw_lex.specs.declared.token.Token.{Token}
use Rattle.rw_lex.specs.Tokens.{IsTokenList, Breaks}
use Rattle.rw_layout.specs.Layout.{layout_of}
use Rattle.rw_parser_grammar.specs.Grammar.{Spells, IsNotOfTheGrammar}
use Rattle.rw_parser_grammar.specs.Resolution.{IsProgramResolved}
use Rattle.rw_parser.specs.Frame.{IsBroken}
use Rattle.rw_scope_rules.specs.Bindings.{bound_program}
use Rattle.rw_scope_rules.specs.Names.{is_among, earliest}
use Rattle.rw_scope_rules.specs.Verdict.{broken_first, first_broken}
use Rattle.rw_cover.specs.Coverage.{AreUncovered, groups_of}
use Rattle.rw_cover.specs.Correct.{IsFirst}
use Rattle.rw_types_rules.specs.Schemes.{world_of}
use Rattle.rw_types.specs.Inferred.{AreTypable, FirstUntypable}
use Rattle.rw_start.specs.Start.{improper_start}
use Rattle.rw_start.specs.Positions.{misplaced}
use Rattle.rw_front.specs.Stages.{Stage, ◌then◌}

-- == From bytes to a tree: E01 to E05 ==

abbrev pub most_bytes : ℕ
most_bytes = 262144

abbrev pub first_of_all : Place
first_of_all = record { line = 1; column = 1 }

-- a source of at most 262,144 bytes
abbrev pub IsShort : Stage (List ℕ) (List ℕ)
IsShort bytes (Ok same) = (same ≡ bytes) × (length bytes ≤ most_bytes)
IsShort bytes (Err refusal) = (refusal ≡ record { rule = E01; place = first_of_all }) × (most_bytes < length bytes)

-- its tokens
abbrev pub HasTokens : Stage (List ℕ) (List Token)
HasTokens bytes (Ok tokens) = IsTokenList bytes tokens
HasTokens bytes (Err refusal) = Breaks bytes refusal

-- these with the braces and semicolons of their layout
abbrev pub IsLaidOut : Stage (List Token) (List Token)
IsLaidOut tokens made = layout_of tokens ≡ made

-- the program that they spell, with its chains of operators grouped
abbrev pub IsParsed : Stage (List Token) (Program Span)
IsParsed tokens (Ok program) = (spelled : Program Span) × Spells tokens spelled × IsProgramResolved spelled program
IsParsed tokens (Err refusal) = (refusal.rule ≡ E05) × (IsNotOfTheGrammar tokens refusal.place ⊎ IsBroken tokens refusal.place)

abbrev pub IsRead : Stage (List ℕ) (Program Span)
IsRead = IsShort then (HasTokens then (IsLaidOut then IsParsed))

-- == The rules on the tree: E06 to E16 ==

-- the declarations of the prelude stand before those of a source
abbrev pub with_prelude : Program Span → PlainProgram Span
with_prelude program = plain_program (λ span. span) (record { decls = prelude ++ program.decls })

-- the place of the declaration of `start`, 1:1 where there is none
abbrev pub place_of_start : List (Declaration Span) → Place
place_of_start [] = first_of_all
place_of_start (function_declaration a x clauses ∷ ds) = if is_among x (codes "start" ∷ []) then a.first else place_of_start ds
place_of_start (d ∷ ds) = place_of_start ds

-- a place in the prelude, which is none of the source, is reported as that of `start`
abbrev pub reported_place : PlainProgram Span → Place → Place
reported_place program at = if nat_eq at.line 0 then place_of_start program.declarations else at

abbrev pub reported : PlainProgram Span → Refusal → Refusal
reported program refusal = record { rule = refusal.rule; place = reported_place program refusal.place }

-- why there is no answer, as it is reported
abbrev pub told_of : PlainProgram Span → Fail → Fail
told_of program (fail.Refused refusal) = fail.Refused (reported program refusal)
told_of program fail.OutOfMemory = fail.OutOfMemory

-- a rule keeps the program, or is broken by it first at a place
abbrev pub Keeps : (PlainProgram Span → Option Refusal → Type 0) → Stage (PlainProgram Span) (PlainProgram Span)
Keeps Is program (Ok same) = (same ≡ program) × Is program None
Keeps Is program (Err refusal) = (broken : Refusal) × (refusal ≡ reported program broken) × Is program (Some broken)

-- the whole program: a source behind the prelude
abbrev pub BeginsWithPrelude : Stage (Program Span) (PlainProgram Span)
BeginsWithPrelude program (Ok whole) = whole ≡ with_prelude program
BeginsWithPrelude program (Err refusal) = ⊥

-- E06 to E12, on names, the kinds of types, data types and let groups
abbrev pub IsScopedAs : PlainProgram Span → Option Refusal → Type 0
IsScopedAs program broken = first_broken program ≡ broken

-- E13: each declaration has a typing, or this is the first that has none
abbrev pub IsTypedAs : PlainProgram Span → Option Refusal → Type 0
IsTypedAs program None = AreTypable (world_of program.declarations) (bound_program program).declarations
IsTypedAs program (Some broken) = (broken.rule ≡ E13) × FirstUntypable (world_of program.declarations) (bound_program program).declarations broken.place

-- E14: patterns cover, or this is the first place where they don't
abbrev pub IsCoveredAs : PlainProgram Span → Option Refusal → Type 0
IsCoveredAs program None = AreUncovered (groups_of (bound_program program)) []
IsCoveredAs program (Some broken) = (broken.rule ≡ E14) × IsFirst (groups_of (bound_program program)) (Some broken.place)

-- E15 and E16: `start` and its system
abbrev pub StartsAs : PlainProgram Span → Option Refusal → Type 0
StartsAs program broken =
    broken_first E15 (earliest (improper_start (bound_program program))) (broken_first E16 (earliest (misplaced (bound_program program))) None) ≡ broken

-- == The whole ==

-- which program a source is, or the first rule that it breaks and where
abbrev pub Verdict : Stage (List ℕ) (PlainProgram Span)
Verdict = IsRead then (BeginsWithPrelude then (Keeps IsScopedAs then (Keeps IsTypedAs then (Keeps IsCoveredAs then Keeps StartsAs))))
