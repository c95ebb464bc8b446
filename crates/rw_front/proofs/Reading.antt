-- From bytes to a tree there is one way, over the laws of tokens, of the grammar and of chains.
use Rattle.std.proofs.Common.{◌≡◌, ◌∙◌, ◌⊎◌, inl, inr, ◌≤◌, ℕ, List, Result, Ok, Err, refl, sym, ap, subst, arith, length}
use Rattle.rw_base.specs.declared.place.Place.{Place}
use Rattle.rw_base.specs.declared.place.Span.{Span}
use Rattle.rw_base.specs.declared.rule.Rule.{Rule}
use Rattle.rw_base.specs.Answers.{Fail}
use Rattle.rw_base.specs.declared.fail.Failure.TheVariants as fail
use Rattle.rw_base.specs.declared.fail.Refusal.{Refusal}
use Rattle.rw_layout.specs.Layout.{layout_of}
use Rattle.rw_tree.specs.declared.program.Program.{Program}
use Rattle.rw_lex.specs.declared.token.Token.{Token}
use Rattle.rw_lex.specs.Tokens.{IsTokenList, Breaks}
use Rattle.rw_parser_grammar.specs.Chains.{strength_of_name}
use Rattle.rw_parser_grammar.specs.Grammar.{Spells, IsNotOfTheGrammar}
use Rattle.rw_parser_grammar.specs.Resolution.{IsProgramResolved, FirstDeclarationBroken}
use Rattle.rw_parser.specs.Frame.{IsBroken, Parses}
use Rattle.rw_front.specs.Stages.{◌then◌, IsExactAt, AnswersBy}
use Rattle.rw_front.specs.Verdict.{most_bytes, IsShort, HasTokens, IsLaidOut, IsParsed, IsRead}
use Rattle.rw_front.proofs.Exact.{then_exact, answers_after}

refusal_with : Rule → Place → Refusal
refusal_with rule place = record { rule = rule; place = place }

pub same_refusal : (r s : Refusal) → r.rule ≡ s.rule → r.place ≡ s.place → r ≡ s
unfolding refusal_with
same_refusal r s p q = ap (λ rule. refusal_with rule r.place) p ∙ ap (refusal_with s.rule) q

short_exact : (bytes : List ℕ) → IsExactAt IsShort bytes
short_exact bytes (Ok a) (Ok b) (p, h) (q, k) = ap Ok (p ∙ sym q)
short_exact bytes (Ok a) (Err r) (p, h) (q, k) = absurd (omega arith)
short_exact bytes (Err r) (Ok b) (p, h) (q, k) = absurd (omega arith)
short_exact bytes (Err r) (Err s) (p, h) (q, k) = ap Err (p ∙ sym q)

layout_exact : (tokens : List Token) → IsExactAt IsLaidOut tokens
layout_exact tokens a b p q = sym p ∙ q

module _ (one_list : (bytes : List ℕ) (a b : List Token) → IsTokenList bytes a → IsTokenList bytes b → a ≡ b)
    (never_both : (bytes : List ℕ) (tokens : List Token) (refusal : Refusal) → IsTokenList bytes tokens → Breaks bytes refusal → ⊥)
    (one_refusal : (bytes : List ℕ) (a b : Refusal) → Breaks bytes a → Breaks bytes b → a ≡ b) where
  tokens_exact : (bytes : List ℕ) → IsExactAt HasTokens bytes
  tokens_exact bytes (Ok a) (Ok b) p q = ap Ok (one_list bytes a b p q)
  tokens_exact bytes (Ok a) (Err r) p q = absurd (never_both bytes a r p q)
  tokens_exact bytes (Err r) (Ok b) p q = absurd (never_both bytes b r q p)
  tokens_exact bytes (Err r) (Err s) p q = ap Err (one_refusal bytes r s p q)

module _ (one_program : (tokens : List Token) (a b : Program Span) → Spells tokens a → Spells tokens b → a ≡ b)
    (apart : (tokens : List Token) (program : Program Span) (at : Place) → Spells tokens program → IsNotOfTheGrammar tokens at → ⊥)
    (one_place : (tokens : List Token) (a b : Place) → IsNotOfTheGrammar tokens a → IsNotOfTheGrammar tokens b → a ≡ b)
    (one_tree : (program first second : Program Span) → IsProgramResolved program first → IsProgramResolved program second → first ≡ second)
    (never_broken : (program other : Program Span) (at : Place) → IsProgramResolved program other → FirstDeclarationBroken (strength_of_name program.decls) program.decls at → ⊥)
    (one_chain : (program : Program Span) (first second : Place) → FirstDeclarationBroken (strength_of_name program.decls) program.decls first
    → FirstDeclarationBroken (strength_of_name program.decls) program.decls second → first ≡ second) where
  not_parsed : (tokens : List Token) (program : Program Span) (at : Place) → (spelled : Program Span) × Spells tokens spelled × IsProgramResolved spelled program
      → (IsNotOfTheGrammar tokens at) ⊎ (IsBroken tokens at) → ⊥
  not_parsed tokens program at (p, spelled, resolved) (inl broken) = apart tokens p at spelled broken
  not_parsed tokens program at (p, spelled, resolved) (inr (q, also, broken)) =
      let same : q ≡ p = one_program tokens q p also spelled in
      never_broken p program at resolved (subst (λ (x : Program Span). FirstDeclarationBroken (strength_of_name x.decls) x.decls at) same broken)

  place_parsed : (tokens : List Token) (a b : Place) → (IsNotOfTheGrammar tokens a) ⊎ (IsBroken tokens a) → (IsNotOfTheGrammar tokens b) ⊎ (IsBroken tokens b) → a ≡ b
  place_parsed tokens a b (inl p) (inl q) = one_place tokens a b p q
  place_parsed tokens a b (inl p) (inr (q, spelled, broken)) = absurd (apart tokens q a spelled p)
  place_parsed tokens a b (inr (p, spelled, broken)) (inl q) = absurd (apart tokens p b spelled q)
  place_parsed tokens a b (inr (p, spelled, broken)) (inr (q, also, wrong)) =
      let same : q ≡ p = one_program tokens q p also spelled in
      one_chain p a b broken (subst (λ (x : Program Span). FirstDeclarationBroken (strength_of_name x.decls) x.decls b) same wrong)

  parsed_exact : (tokens : List Token) → IsExactAt IsParsed tokens
  parsed_exact tokens (Ok a) (Ok b) (p, spelled, resolved) (q, also, other) =
      let same : q ≡ p = one_program tokens q p also spelled in
      ap Ok (one_tree p a b resolved (subst (λ (x : Program Span). IsProgramResolved x b) same other))
  parsed_exact tokens (Ok a) (Err r) p (rule, q) = absurd (not_parsed tokens a r.place p q)
  parsed_exact tokens (Err r) (Ok b) (rule, p) q = absurd (not_parsed tokens b r.place q p)
  parsed_exact tokens (Err r) (Err s) (rule, p) (other, q) = ap Err (same_refusal r s (rule ∙ sym other) (place_parsed tokens r.place s.place p q))

  module _ (one_list : (bytes : List ℕ) (a b : List Token) → IsTokenList bytes a → IsTokenList bytes b → a ≡ b)
      (never_both : (bytes : List ℕ) (tokens : List Token) (refusal : Refusal) → IsTokenList bytes tokens → Breaks bytes refusal → ⊥)
      (one_refusal : (bytes : List ℕ) (a b : Refusal) → Breaks bytes a → Breaks bytes b → a ≡ b) where
    pub read_exact : (bytes : List ℕ) → IsExactAt IsRead bytes
    read_exact bytes =
        then_exact IsShort (HasTokens then (IsLaidOut then IsParsed)) bytes (short_exact bytes) (λ b _.
        then_exact HasTokens (IsLaidOut then IsParsed) b (tokens_exact one_list never_both one_refusal b) (λ tokens _.
        then_exact IsLaidOut IsParsed tokens (layout_exact tokens) (λ laid _. parsed_exact laid)))

-- ---- what is answered

pub parses_answers : (tokens : List Token) (r : Result (Program Span) Fail) → Parses tokens r → AnswersBy IsParsed (λ program. program) tokens r
parses_answers tokens (Ok program) p = p
parses_answers tokens (Err (fail.Refused refusal)) p = p
parses_answers tokens (Err fail.OutOfMemory) p = tt

pub read_answers : (bytes : List ℕ) (tokens laid : List Token) (r : Result (Program Span) Fail) → length bytes ≤ most_bytes → IsTokenList bytes tokens → layout_of tokens ≡ Ok laid
    → Parses laid r → AnswersBy IsRead (λ program. program) bytes r
read_answers bytes tokens laid r short listed layout parsed =
    answers_after IsShort (HasTokens then (IsLaidOut then IsParsed)) (λ program. program) bytes bytes (refl, short) r
    (answers_after HasTokens (IsLaidOut then IsParsed) (λ program. program) bytes tokens listed r
    (answers_after IsLaidOut IsParsed (λ program. program) tokens laid layout r (parses_answers laid r parsed)))
