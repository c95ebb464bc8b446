-- From bytes to a tree each stage has an answer.
use Rattle.std.proofs.Common.{◌≡◌, ◌⊎◌, inl, inr, ℕ, ◌<◌, ◌≤◌, List, length, Ok, Err, refl}
use Rattle.rw_base.specs.declared.place.Place.{Place}
use Rattle.rw_base.specs.declared.place.Span.{Span}
use Rattle.rw_base.specs.declared.fail.Refusal.{Refusal}
use Rattle.rw_base.specs.declared.rule.Rule.TheVariants.{E01, E05}
use Rattle.rw_tree.specs.declared.program.Program.{Program}
use Rattle.rw_lex.specs.declared.token.Token.{Token}
use Rattle.rw_lex.specs.Tokens.{IsTokenList, Breaks}
use Rattle.rw_layout.specs.Layout.{layout_of}
use Rattle.rw_parser_grammar.specs.Chains.{strength_of_name}
use Rattle.rw_parser_grammar.specs.Grammar.{Spells, IsNotOfTheGrammar}
use Rattle.rw_parser_grammar.specs.Resolution.{IsProgramResolved, FirstDeclarationBroken}
use Rattle.rw_types_solving.proofs.MostGeneral.{in_or_out}
use Rattle.rw_front.specs.Stages.{◌then◌}
use Rattle.rw_front.specs.Verdict.{most_bytes, first_of_all, IsShort, HasTokens, IsLaidOut, IsParsed, IsRead}
use Rattle.rw_front_laws.specs.Total.{IsTotalAt}
use Rattle.rw_front_laws.proofs.Stages.{then_total}

short_total : (bytes : List ℕ) → IsTotalAt IsShort bytes
short_total bytes = elim (in_or_out most_bytes (length bytes)) [
  | inl l ↦ (Err (record { rule = E01; place = first_of_all }), (refl, l))
  | inr l ↦ (Ok bytes, (refl, l))
]

laid_out_total : (tokens : List Token) → IsTotalAt IsLaidOut tokens
laid_out_total tokens = (layout_of tokens, refl)

-- over the laws of the stages
module _ (listed : (bytes : List ℕ) → ((tokens : List Token) × IsTokenList bytes tokens) ⊎ ((refusal : Refusal) × Breaks bytes refusal))
    (spelled : (tokens : List Token) → ((program : Program Span) × Spells tokens program) ⊎ ((at : Place) × IsNotOfTheGrammar tokens at))
    (grouped : (program : Program Span) → ((other : Program Span) × IsProgramResolved program other) ⊎ ((at : Place) × FirstDeclarationBroken (strength_of_name program.decls) program.decls at)) where
  tokens_total : (bytes : List ℕ) → IsTotalAt HasTokens bytes
  tokens_total bytes = elim (listed bytes) [
    | inl (tokens, p) ↦ (Ok tokens, p)
    | inr (refusal, p) ↦ (Err refusal, p)
  ]

  of_program : (tokens : List Token) (program : Program Span) → Spells tokens program → IsTotalAt IsParsed tokens
  of_program tokens program p = elim (grouped program) [
    | inl (other, q) ↦ (Ok other, (program, p, q))
    | inr (at, q) ↦ (Err (record { rule = E05; place = at }), (refl, inr (program, p, q)))
  ]

  parsed_total : (tokens : List Token) → IsTotalAt IsParsed tokens
  parsed_total tokens = elim (spelled tokens) [
    | inl (program, p) ↦ of_program tokens program p
    | inr (at, p) ↦ (Err (record { rule = E05; place = at }), (refl, inl p))
  ]

  pub read_total : (bytes : List ℕ) → IsTotalAt IsRead bytes
  read_total bytes =
      then_total IsShort (HasTokens then (IsLaidOut then IsParsed)) bytes (short_total bytes) (λ short _.
      then_total HasTokens (IsLaidOut then IsParsed) short (tokens_total short) (λ tokens _.
      then_total IsLaidOut IsParsed tokens (laid_out_total tokens) (λ laid _. parsed_total laid)))
