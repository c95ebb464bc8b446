-- There is one verdict, over the laws of each stage.
use Rattle.std.proofs.Common.{◌≡◌, ℕ, List, [], None}
use Rattle.rw_base.specs.declared.place.Place.{Place}
use Rattle.rw_base.specs.declared.place.Span.{Span}
use Rattle.rw_base.specs.declared.fail.Refusal.{Refusal}
use Rattle.rw_tree.specs.declared.program.Program.{Program}
use Rattle.rw_tree.specs.Declarations.{PlainProgram}
use Rattle.rw_lex.specs.declared.token.Token.{Token}
use Rattle.rw_lex.specs.Tokens.{IsTokenList, Breaks}
use Rattle.rw_parser_grammar.specs.Chains.{strength_of_name}
use Rattle.rw_parser_grammar.specs.Grammar.{Spells, IsNotOfTheGrammar}
use Rattle.rw_parser_grammar.specs.Resolution.{IsProgramResolved, FirstDeclarationBroken}
use Rattle.rw_scope_rules.specs.Bindings.{bound_program}
use Rattle.rw_scope_rules.specs.Kinds.{recursive_or_empty}
use Rattle.rw_scope_rules.specs.Verdict.{IsScoped, first_broken}
use Rattle.rw_cover.specs.Coverage.{AreUncovered, groups_of}
use Rattle.rw_cover_laws.specs.Typed.{IsTypableProgram}
use Rattle.rw_front.specs.Stages.{◌then◌, IsExactAt}
use Rattle.rw_front.specs.Verdict.{IsRead, BeginsWithPrelude, Keeps, IsScopedAs, IsTypedAs, IsCoveredAs, StartsAs, Verdict}
use Rattle.rw_front.proofs.Exact.{then_exact}
use Rattle.rw_front.proofs.Reading.{read_exact}
use Rattle.rw_front.proofs.Judging.{judged_exact}

pub verdict_exact : (one_list : (bytes : List ℕ) (a b : List Token) → IsTokenList bytes a → IsTokenList bytes b → a ≡ b)
    → (never_both : (bytes : List ℕ) (tokens : List Token) (refusal : Refusal) → IsTokenList bytes tokens → Breaks bytes refusal → ⊥)
    → (one_refusal : (bytes : List ℕ) (a b : Refusal) → Breaks bytes a → Breaks bytes b → a ≡ b)
    → (one_program : (tokens : List Token) (a b : Program Span) → Spells tokens a → Spells tokens b → a ≡ b)
    → (apart : (tokens : List Token) (program : Program Span) (at : Place) → Spells tokens program → IsNotOfTheGrammar tokens at → ⊥)
    → (one_place : (tokens : List Token) (a b : Place) → IsNotOfTheGrammar tokens a → IsNotOfTheGrammar tokens b → a ≡ b)
    → (one_tree : (program first second : Program Span) → IsProgramResolved program first → IsProgramResolved program second → first ≡ second)
    → (never_broken : (program other : Program Span) (at : Place) → IsProgramResolved program other → FirstDeclarationBroken (strength_of_name program.decls) program.decls at → ⊥)
    → (one_chain : (program : Program Span) (first second : Place) → FirstDeclarationBroken (strength_of_name program.decls) program.decls first
    → FirstDeclarationBroken (strength_of_name program.decls) program.decls second → first ≡ second)
    → (holds : (program : PlainProgram Span) → first_broken program ≡ None → IsScoped program)
    → (uncovered : (program : PlainProgram Span) → recursive_or_empty program ≡ [] → IsTypableProgram program → (places others : List Place)
    → AreUncovered (groups_of (bound_program program)) places → AreUncovered (groups_of (bound_program program)) others → places ≡ others)
    → (bytes : List ℕ) → IsExactAt Verdict bytes
verdict_exact one_list never_both one_refusal one_program apart one_place one_tree never_broken one_chain holds uncovered bytes =
    then_exact IsRead (BeginsWithPrelude then (Keeps IsScopedAs then (Keeps IsTypedAs then (Keeps IsCoveredAs then Keeps StartsAs)))) bytes
    (read_exact one_program apart one_place one_tree never_broken one_chain one_list never_both one_refusal bytes)
    (λ program _. judged_exact uncovered holds program)
