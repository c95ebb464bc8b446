-- The whole: what is answered of tokens, from what is kept of their items.
use Rattle.std.proofs.Common.{◌≡◌, ◌∙◌, ℕ, ◌≤◌, List, length, Option, Some, None, Result, Ok, Err, refl, sym, ap, subst, inl, inr, arith}
use Rattle.rw_base.specs.declared.place.Place.{Place}
use Rattle.rw_base.specs.declared.place.Span.{Span}
use Rattle.rw_base.specs.Answers.{Fail, IsUnlessMemory}
use Rattle.rw_base.specs.declared.fail.Failure.TheVariants as fail
use Rattle.rw_base.specs.declared.fail.Refusal.{Refusal}
use Rattle.rw_base.specs.declared.rule.Rule.TheVariants as rule
use Rattle.rw_tree.specs.declared.decl.Decl.{Decl}
use Rattle.rw_tree.specs.declared.program.Program.{Program}
use Rattle.rw_lex.specs.declared.token.Token.{Token}
use Rattle.rw_parser_grammar.specs.declared.item.Item.{Item}
use Rattle.rw_parser_grammar.specs.declared.lexeme.Lexeme.{Lexeme}
use Rattle.rw_parser_grammar.specs.Chains.{strength_of_name}
use Rattle.rw_parser_grammar.specs.Lexemes.{lexemes}
use Rattle.rw_parser_grammar.specs.Grammar.{Spells, IsNotOfTheGrammar, first_place, declarations_of, item_groups}
use Rattle.rw_parser_reading.specs.ReadProgram.{frame_at, items_at, program_at, framed}
use Rattle.rw_parser_grammar.specs.Resolution.{IsProgramResolved, FirstDeclarationBroken}
use Rattle.rw_parser_reading.specs.Shallow.{of_items, shallow, first_deep}
use Rattle.rw_parser_laws.proofs.Frames.{one_program}
use Rattle.rw_parser_laws.proofs.ReadProgram.{items_sound, program_sound, place_sound, unframed, no_two_answers, one_place_of, count_from}
use Rattle.rw_parser_laws.proofs.Shallow.{NoFunctions, items_no_functions, none_deep, earlier_broken, deep_broken}
use Rattle.rw_parser_chains.proofs.Programs as chain
use Rattle.rw_parser.specs.Joined.{closed}
use Rattle.rw_parser.proofs.Keeping.{kept_declarations, kept_deep}
use Rattle.rw_parser.specs.Shallow.{Kept, nothing, keeping, kept_behind}
use Rattle.rw_parser.specs.Reading as reading
use Rattle.rw_parser.specs.Frame.{kept_framed, Grouped, Parses}

-- ---- what was read
pub record Items (n : ℕ) (tokens : List Token) (found : Kept) : Type 0 where
  pub items : List Item
  pub spelled : program_at n tokens ≡ Ok (of_items items)
  pub kept_of : found ≡ keeping nothing items
  pub no_functions : NoFunctions items

items_by : (n : ℕ) (tokens : List Token) (found : Kept) (runs : List (List Lexeme × Lexeme)) → program_at n tokens ≡ framed n (lexemes tokens) (Some runs) → (r : Result (List Item) Place) → items_at n runs ≡ r → kept_behind nothing r ≡ Ok found → Items n tokens found
items_by n tokens found runs p (Ok items) e f =
    record {
      items = items;
      spelled = p ∙ ap (λ z. framed_of z) e;
      kept_of = cc;
      no_functions = items_no_functions (items_sound n runs items e);
    }
  where
    framed_of : Result (List Item) Place → Result (Program Span) Place
    framed_of (Ok made) = Ok (of_items made)
    framed_of (Err at) = Err at
items_by n tokens found runs p (Err at) e f = absurd (cc)

pub items_found : (n : ℕ) (tokens : List Token) (found : Kept) (o : Option (List (List Lexeme × Lexeme))) → frame_at (lexemes tokens) ≡ o → kept_framed n (lexemes tokens) o ≡ Ok found → Items n tokens found
items_found n tokens found None e f = absurd (cc)
items_found n tokens found (Some runs) e f = items_by n tokens found runs (unframed n tokens (Some runs) e) (items_at n runs) refl f

place_by : (n : ℕ) (tokens : List Token) (at : Place) (runs : List (List Lexeme × Lexeme)) → program_at n tokens ≡ framed n (lexemes tokens) (Some runs) → (r : Result (List Item) Place) → items_at n runs ≡ r → kept_behind nothing r ≡ Err at → program_at n tokens ≡ Err at
place_by n tokens at runs p (Ok items) e f = absurd (cc)
place_by n tokens at runs p (Err other) e f = let g : other ≡ at = cc in p ∙ ap framed_of e ∙ ap Err g
  where
    framed_of : Result (List Item) Place → Result (Program Span) Place
    framed_of (Ok made) = Ok (of_items made)
    framed_of (Err at) = Err at

pub place_found : (n : ℕ) (tokens : List Token) (at : Place) (o : Option (List (List Lexeme × Lexeme))) → frame_at (lexemes tokens) ≡ o → kept_framed n (lexemes tokens) o ≡ Err at → program_at n tokens ≡ Err at
place_found n tokens at None e f = let g : first_place (lexemes tokens) ≡ at = cc in unframed n tokens None e ∙ ap Err g
place_found n tokens at (Some runs) e f = place_by n tokens at runs (unframed n tokens (Some runs) e) (items_at n runs) refl f

-- ---- what is answered
module _ (n : ℕ) (tokens : List Token) (found : Kept) (read : Items n tokens found) where
  spells_items : Spells tokens (of_items read.items)
  spells_items = program_sound n tokens (of_items read.items) read.spelled

  answered_at : (deep : Option Place) (result : Result (Program Span) Fail) → first_deep read.items ≡ deep → Grouped (of_items (shallow read.items)) deep result → Parses tokens result
  answered_at deep (Err fail.OutOfMemory) e g = tt
  answered_at None (Ok resolved) e g = (of_items read.items, spells_items, subst (λ z. IsProgramResolved (of_items z) resolved) (none_deep read.items e) g)
  answered_at (Some at) (Ok resolved) e g = absurd g
  answered_at None (Err (fail.Refused refusal)) e g =
      (g.0, inr (of_items read.items, spells_items, subst (λ z. FirstDeclarationBroken (strength_of_name (of_items z).decls) (of_items z).decls refusal.place) (none_deep read.items e) g.1))
  answered_at (Some at) (Err (fail.Refused refusal)) e g = (
    g.0,
    inr (
      of_items read.items,
      spells_items,
      elim g.1 [
        | inl b ↦ earlier_broken read.items at refusal.place read.no_functions e b
        | inr d ↦ subst (FirstDeclarationBroken (strength_of_name (of_items read.items).decls) (of_items read.items).decls) (sym d.0) (deep_broken read.items at d.1.0 read.no_functions e d.1.1)
      ],
    ),
  )

  pub answered : (program : Program Span) (deep : Option Place) (result : Result (Program Span) Fail) → program ≡ of_items (shallow read.items) → deep ≡ first_deep read.items → Grouped program deep result → Parses tokens result
  answered program deep result e f g = answered_at deep result (sym f) (subst (λ z. Grouped z deep result) e g)

pub failed : (n : ℕ) (tokens : List Token) (e : Fail) → length tokens ≤ n → reading.KeepsAll (Err e) (kept_framed n (lexemes tokens) (frame_at (lexemes tokens))) → Parses tokens (Err e)
failed n tokens (fail.Refused refusal) l h = (h.0, inl (place_sound n tokens refusal.place l (place_found n tokens refusal.place (frame_at (lexemes tokens)) refl h.1)))
failed n tokens fail.OutOfMemory l h = tt

-- ---- the tokens as the grammar sees them
module _ (tokens : List Token) (ts : List Lexeme) (same : ts ≡ lexemes tokens) where
  pub within : length ts ≤ length tokens
  within = let c = count_from 0 tokens in let l = ap length same in omega arith

  pub broken_parse : (e : Fail) → reading.KeepsAll (Err e) (kept_framed (length tokens) ts (frame_at ts)) → Parses tokens (Err e)
  broken_parse e h = failed (length tokens) tokens e (omega arith) (subst (λ z. reading.KeepsAll (Err e) (kept_framed (length tokens) z (frame_at z))) same h)

  pub whole_parse : (found : Kept) (decls : List (Decl Span)) (result : Result (Program Span) Fail) → kept_framed (length tokens) ts (frame_at ts) ≡ Ok found → decls ≡ closed found.0
      → Grouped (record { decls = decls }) found.1 result → Parses tokens result
  whole_parse found decls result e d g =
      let f : kept_framed (length tokens) (lexemes tokens) (frame_at (lexemes tokens)) ≡ Ok found = subst (λ z. kept_framed (length tokens) z (frame_at z) ≡ Ok found) same e in
      let items = items_found (length tokens) tokens found (frame_at (lexemes tokens)) refl f in
      let joined : closed found.0 ≡ declarations_of (item_groups (shallow items.items)) = ap (λ z. closed z.0) items.kept_of ∙ kept_declarations items.items in
      let deep : found.1 ≡ first_deep items.items = ap (λ z. z.1) items.kept_of ∙ kept_deep items.items in
      answered (length tokens) tokens found items (record { decls = decls }) found.1 result (λ i. record { decls = (d ∙ joined) i }) deep g

-- ---- grouping
pub grouped_failed : (program : Program Span) (deep : Option Place) (e : Fail)
    → ((refusal : Refusal) → ◌≡◌ {A = Result (Program Span) Fail} (Err e) (Err (fail.Refused refusal)) → (refusal.rule ≡ rule.E05) × FirstDeclarationBroken (strength_of_name program.decls) program.decls refusal.place) → Grouped program deep (Err e)
grouped_failed program deep fail.OutOfMemory h = tt
grouped_failed program None (fail.Refused refusal) h = h refusal refl
grouped_failed program (Some at) (fail.Refused refusal) h = let p = h refusal refl in (p.0, inl p.1)

-- ---- both ways
module _ (tokens : List Token) where
  pub kept_answer : (program resolved : Program Span) (result : Result (Program Span) Fail) → Spells tokens program → IsProgramResolved program resolved → Parses tokens result → IsUnlessMemory (Ok resolved) result
  kept_answer program resolved (Err fail.OutOfMemory) d e h = inr refl
  kept_answer program resolved (Ok made) d e h =
      let same : h.0 ≡ program = one_program tokens h.0 program h.1 d in
      inl (ap Ok (chain.one_program (subst (λ z. IsProgramResolved z made) same h.2) e))
  kept_answer program resolved (Err (fail.Refused refusal)) d e h =
      elim h.1 [
        | inl b ↦ absurd (no_two_answers tokens program refusal.place d b)
        | inr b ↦ let same : b.0 ≡ program = one_program tokens b.0 program b.1 d in
            absurd (chain.apart e (subst (λ z. FirstDeclarationBroken (strength_of_name z.decls) z.decls refusal.place) same b.2))
      ]

  abbrev refusal_at : Place → Result (Program Span) Fail
  refusal_at at = Err (fail.Refused (record { rule = rule.E05; place = at }))

  same_refusal : (refusal : Refusal) (at : Place) → refusal.rule ≡ rule.E05 → refusal.place ≡ at → ◌≡◌ {A = Result (Program Span) Fail} (Err (fail.Refused refusal)) (refusal_at at)
  same_refusal refusal at r p =
      ap (λ z. Err (fail.Refused z)) (ap (λ z. record { rule = z; place = refusal.place }) r ∙ ap (λ z. record { rule = rule.E05; place = z }) p)

  pub grammar_answer : (at : Place) (result : Result (Program Span) Fail) → IsNotOfTheGrammar tokens at → Parses tokens result → IsUnlessMemory (refusal_at at) result
  grammar_answer at (Err fail.OutOfMemory) b h = inr refl
  grammar_answer at (Ok made) b h = absurd (no_two_answers tokens h.0 at h.1 b)
  grammar_answer at (Err (fail.Refused refusal)) b h =
      elim h.1 [
        | inl k ↦ inl (same_refusal refusal at h.0 (one_place_of tokens refusal.place at k b))
        | inr k ↦ absurd (no_two_answers tokens k.0 at k.1 b)
      ]

  pub chain_answer : (program : Program Span) (at : Place) (result : Result (Program Span) Fail) → Spells tokens program → FirstDeclarationBroken (strength_of_name program.decls) program.decls at → Parses tokens result → IsUnlessMemory (refusal_at at) result
  chain_answer program at (Err fail.OutOfMemory) d b h = inr refl
  chain_answer program at (Ok made) d b h =
      let same : h.0 ≡ program = one_program tokens h.0 program h.1 d in
      absurd (chain.apart (subst (λ z. IsProgramResolved z made) same h.2) b)
  chain_answer program at (Err (fail.Refused refusal)) d b h =
      elim h.1 [
        | inl k ↦ absurd (no_two_answers tokens program refusal.place d k)
        | inr k ↦ let same : k.0 ≡ program = one_program tokens k.0 program k.1 d in
            inl (same_refusal refusal at h.0 (chain.one_place program (subst (λ z. FirstDeclarationBroken (strength_of_name z.decls) z.decls refusal.place) same k.2) b))
      ]
