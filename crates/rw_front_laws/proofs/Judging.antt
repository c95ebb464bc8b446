-- Each rule on a tree has an answer, and so has the whole.
use Rattle.std.proofs.Common.{◌≡◌, ◌⊎◌, inl, inr, ℕ, List, [], ◌∷◌, Option, Some, None, Ok, Err, Result, refl, sym, ◌∙◌, subst}
use Rattle.rw_base.specs.declared.place.Place.{Place}
use Rattle.rw_base.specs.declared.place.Span.{Span}
use Rattle.rw_base.specs.declared.rule.Rule.TheVariants.{E13, E14, E15, E16}
use Rattle.rw_base.specs.declared.fail.Refusal.{Refusal}
use Rattle.rw_tree.specs.declared.program.Program.{Program}
use Rattle.rw_tree.specs.Declarations.{Declaration, PlainProgram}
use Rattle.rw_scope_rules.specs.declared.binding.Bound.{Bound}
use Rattle.rw_scope_rules.specs.Names.{earliest, earlier}
use Rattle.rw_scope_rules.specs.Bindings.{bound_program}
use Rattle.rw_scope_rules.specs.Verdict.{broken_first, first_broken}
use Rattle.rw_types_rules.specs.Schemes.{World, world_of}
use Rattle.rw_types_rules.specs.TypedTrees.{TypedNode}
use Rattle.rw_types_rules.specs.Typings.{IsTypable, IsDefault}
use Rattle.rw_types.specs.Inferred.{AreDefault, AreTypable, FirstUntypable, declaration_place}
use Rattle.rw_cover.specs.Coverage.{Group, AreUncovered, groups_of}
use Rattle.rw_start.specs.Start.{improper_start}
use Rattle.rw_start.specs.Positions.{misplaced}
use Rattle.rw_front.specs.Stages.{◌then◌, IsExactAt}
use Rattle.rw_front.specs.Verdict.{IsRead, with_prelude, BeginsWithPrelude, Keeps, IsScopedAs, IsTypedAs, IsCoveredAs, StartsAs, Verdict}
use Rattle.rw_front_laws.specs.Total.{IsTotalAt}
use Rattle.rw_front_laws.proofs.Stages.{then_total, keeps_total}

-- == Rules that are functions ==

begins_total : (program : Program Span) → IsTotalAt BeginsWithPrelude program
begins_total program = (Ok (with_prelude program), refl)

pub scoped_total : (program : PlainProgram Span) → IsTotalAt (Keeps IsScopedAs) program
scoped_total program = keeps_total IsScopedAs program (first_broken program, refl)

pub start_total : (program : PlainProgram Span) → IsTotalAt (Keeps StartsAs) program
start_total program =
    keeps_total StartsAs program (broken_first E15 (earliest (improper_start (bound_program program))) (broken_first E16 (earliest (misplaced (bound_program program))) None), refl)

-- == Patterns ==

covered_by : (program : PlainProgram Span) (places : List Place) → AreUncovered (groups_of (bound_program program)) places → (broken : Option Refusal) × IsCoveredAs program broken
covered_by program [] p = (None, p)
covered_by program (at ∷ places) p = (Some (record { rule = E14; place = earlier at (earliest places) }), (refl, (at ∷ places, p, refl)))

pub covered_total : ((groups : List Group) → (places : List Place) × AreUncovered groups places) → (program : PlainProgram Span) → IsTotalAt (Keeps IsCoveredAs) program
covered_total decided program = let all = decided (groups_of (bound_program program)) in keeps_total IsCoveredAs program (covered_by program all.0 all.1)

-- == Types ==

module _ (decided : (world : World) (d : Declaration Bound) → IsTypable world d ⊎ (IsTypable world d → ⊥)) where
  first_untypable : (world : World) (ds : List (Declaration Bound)) → AreTypable world ds ⊎ ((place : Place) × FirstUntypable world ds place)
  first_untypable world [] = inl tt
  first_untypable world (d ∷ ds) = next (decided world d) (first_untypable world ds)
    where
      next : IsTypable world d ⊎ (IsTypable world d → ⊥) → AreTypable world ds ⊎ ((place : Place) × FirstUntypable world ds place)
          → AreTypable world (d ∷ ds) ⊎ ((place : Place) × FirstUntypable world (d ∷ ds) place)
      next (inl p) (inl ps) = inl (p, ps)
      next (inl p) (inr (place, f)) = inr (place, inr (p, f))
      next (inr f) _ = inr (declaration_place d, inl (f, refl))

  typed_by : (program : PlainProgram Span) → (broken : Option Refusal) × IsTypedAs program broken
  typed_by program = elim (first_untypable (world_of program.declarations) (bound_program program).declarations) [
    | inl ps ↦ (None, ps)
    | inr (place, f) ↦ (Some (record { rule = E13; place = place }), (refl, f))
  ]

  pub typed_total : (program : PlainProgram Span) → IsTotalAt (Keeps IsTypedAs) program
  typed_total program = keeps_total IsTypedAs program (typed_by program)

-- == The whole ==

module _ (read : (bytes : List ℕ) → IsTotalAt IsRead bytes) (typed : (program : PlainProgram Span) → IsTotalAt (Keeps IsTypedAs) program)
    (covered : (program : PlainProgram Span) → IsTotalAt (Keeps IsCoveredAs) program) where
  pub verdict_total : (bytes : List ℕ) → IsTotalAt Verdict bytes
  verdict_total bytes =
      then_total IsRead (BeginsWithPrelude then (Keeps IsScopedAs then (Keeps IsTypedAs then (Keeps IsCoveredAs then Keeps StartsAs)))) bytes (read bytes) (λ source _.
      then_total BeginsWithPrelude (Keeps IsScopedAs then (Keeps IsTypedAs then (Keeps IsCoveredAs then Keeps StartsAs))) source (begins_total source) (λ whole _.
      then_total (Keeps IsScopedAs) (Keeps IsTypedAs then (Keeps IsCoveredAs then Keeps StartsAs)) whole (scoped_total whole) (λ first _.
      then_total (Keeps IsTypedAs) (Keeps IsCoveredAs then Keeps StartsAs) first (typed first) (λ second _.
      then_total (Keeps IsCoveredAs) (Keeps StartsAs) second (covered second) (λ third _. start_total third)))))

  pub exactly_one : ((bytes : List ℕ) → IsExactAt Verdict bytes) → (bytes : List ℕ)
      → (made : Result (PlainProgram Span) Refusal) × Verdict bytes made × ((other : Result (PlainProgram Span) Refusal) → Verdict bytes other → other ≡ made)
  exactly_one one bytes = let v = verdict_total bytes in (v.0, v.1, λ other p. one bytes other v.0 p v.1)

-- == Default typings ==

module _ (decided : (world : World) (d : Declaration Bound) → ((typed : Declaration TypedNode) × IsDefault world d typed) ⊎ (IsTypable world d → ⊥)) where
  default_of : (world : World) (d : Declaration Bound) → IsTypable world d → (typed : Declaration TypedNode) × IsDefault world d typed
  default_of world d p = elim (decided world d) [
    | inl t ↦ t
    | inr f ↦ absurd (f p)
  ]

  defaults_of : (world : World) (ds : List (Declaration Bound)) → AreTypable world ds → (typed : List (Declaration TypedNode)) × AreDefault world ds typed
  defaults_of world [] p = ([], tt)
  defaults_of world (d ∷ ds) p = let t = default_of world d p.0 in let ts = defaults_of world ds p.1 in (t.0 ∷ ts.0, (t.1, ts.1))

  -- what the stages behind E13 make is the program that they are given
  pub accepted_typed : (bytes : List ℕ) (program : PlainProgram Span) → Verdict bytes (Ok program)
      → (typed : List (Declaration TypedNode)) × AreDefault (world_of program.declarations) (bound_program program).declarations typed
  accepted_typed bytes program (source, read, (whole, begins, (first, scoped, (second, (same, typable), (third, (covered, patterns), (started, start)))))) =
      let back : program ≡ first = started ∙ covered ∙ same in
      subst (λ (x : PlainProgram Span). (typed : List (Declaration TypedNode)) × AreDefault (world_of x.declarations) (bound_program x).declarations typed) (sym back)
      (defaults_of (world_of first.declarations) (bound_program first).declarations typable)
