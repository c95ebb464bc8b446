-- The answer of a whole program, from what its declarations resolve to, or from the first that is broken.
use Rattle.std.proofs.Common.{◌≡◌, ◌∙◌, inl, inr, ℕ, List, Ok, Err, refl, ap, subst}
use Rattle.rw_base.specs.declared.place.Place.{Place}
use Rattle.rw_base.specs.declared.place.Span.{Span}
use Rattle.rw_base.specs.Answers.{Fail, IsUnlessMemory}
use Rattle.rw_base.specs.declared.fail.Failure.TheVariants as fail
use Rattle.rw_base.specs.declared.fail.Refusal.{Refusal}
use Rattle.rw_base.specs.declared.rule.Rule.TheVariants as rule
use Rattle.rw_tree.specs.declared.decl.Decl.{Decl}
use Rattle.rw_tree.specs.declared.program.Program.{Program}
use Rattle.rw_parser_grammar.specs.Chains.{Strength, strength_of_name}
use Rattle.rw_parser_grammar.specs.Resolution.{AreDeclarationsResolved, IsProgramResolved, program_resolved, FirstDeclarationBroken}
use Rattle.rw_parser_chains.proofs.Programs.{one_program, apart, one_place}
use Rattle.rw_parser_fixity.specs.Found.{Finds}
use Rattle.rw_parser_fixity.proofs.Listed.{broken_of}

module _ (program : Program Span) where
  abbrev pub Breaks : Place → Type 0
  Breaks place = FirstDeclarationBroken (strength_of_name program.decls) program.decls place

  pub program_made : (strength : List ℕ → Strength) (decls others : List (Decl Span)) → strength ≡ strength_of_name program.decls → decls ≡ program.decls
      → AreDeclarationsResolved strength decls others → IsProgramResolved program (record { decls = others })
  program_made strength decls others e f d =
      let h : AreDeclarationsResolved (strength_of_name program.decls) program.decls others = subst (λ z. AreDeclarationsResolved z program.decls others) e (subst (λ z. AreDeclarationsResolved strength z others) f d) in
      program_resolved program.decls others h

  pub failed : (strength : List ℕ → Strength) (decls : List (Decl Span)) (e : Fail) → strength ≡ strength_of_name program.decls → decls ≡ program.decls
      → Finds (AreDeclarationsResolved strength decls) (FirstDeclarationBroken strength decls) (Err e) → Finds (AreDeclarationsResolved strength decls) Breaks (Err e)
  failed strength decls e f g h =
      broken_of (AreDeclarationsResolved strength decls) (AreDeclarationsResolved strength decls) (FirstDeclarationBroken strength decls) Breaks
      (λ place b. subst (λ z. FirstDeclarationBroken z program.decls place) f (subst (λ z. FirstDeclarationBroken strength z place) g b)) e h

  pub kept_made : (made : Program Span) → IsProgramResolved program made → (resolved : Program Span) → IsProgramResolved program resolved → IsUnlessMemory {A = Program Span} {R = Refusal} (Ok resolved) (Ok made)
  kept_made made d resolved e = inl (ap Ok (one_program d e))

  pub broken_made : (made : Program Span) → IsProgramResolved program made → (place : Place) → Breaks place → IsUnlessMemory {A = Program Span} {R = Refusal} (Err (fail.Refused (record { rule = rule.E05; place = place }))) (Ok made)
  broken_made made d place b = absurd (apart d b)

  module _ {X : Type 0} (good : X → Type 0) where
    pub kept_failed : (e : Fail) → Finds good Breaks (Err e) → (resolved : Program Span) → IsProgramResolved program resolved → IsUnlessMemory {A = Program Span} {R = Refusal} (Ok resolved) (Err e)
    kept_failed (fail.Refused refusal) h resolved d = absurd (apart d h.1)
    kept_failed fail.OutOfMemory h resolved d = inr refl

    pub broken_failed : (e : Fail) → Finds good Breaks (Err e) → (place : Place) → Breaks place → IsUnlessMemory {A = Program Span} {R = Refusal} (Err (fail.Refused (record { rule = rule.E05; place = place }))) (Err e)
    broken_failed (fail.Refused refusal) h place b =
        let same : refusal.place ≡ place = one_place program h.1 b in
        let all : refusal ≡ record { rule = rule.E05; place = place } = ap (λ z. record { rule = z; place = refusal.place }) h.0 ∙ ap (λ z. record { rule = rule.E05; place = z }) same in
        inl (ap (λ z. Err (fail.Refused z)) all)
    broken_failed fail.OutOfMemory h place b = inr refl

    pub refused_failed : (e : Fail) → Finds good Breaks (Err e) → (refusal : Refusal) → e ≡ fail.Refused refusal → (refusal.rule ≡ rule.E05) × Breaks refusal.place
    refused_failed e h refusal same = subst (λ z. Finds good Breaks (Err z)) same h
