-- Of each tree there is one verdict by the rules E06 to E16.
use Rattle.std.proofs.Common.{◌≡◌, ◌∙◌, inl, inr, List, [], ◌∷◌, Option, Some, None, Ok, Err, refl, sym, ap, subst}
use Rattle.std.specs.List.{AllByRecursion}
use Rattle.rw_base.specs.declared.place.Place.{Place}
use Rattle.rw_base.specs.declared.place.Span.{Span}
use Rattle.rw_base.specs.declared.fail.Refusal.{Refusal}
use Rattle.rw_tree.specs.declared.program.Program.{Program}
use Rattle.rw_tree.specs.Declarations.{Declaration, PlainProgram}
use Rattle.rw_scope_rules.specs.declared.binding.Bound.{Bound}
use Rattle.rw_scope_rules.specs.Names.{earliest}
use Rattle.rw_scope_rules.specs.Bindings.{bound_program}
use Rattle.rw_scope_rules.specs.Kinds.{recursive_or_empty}
use Rattle.rw_scope_rules.specs.Verdict.{IsScoped, first_broken}
use Rattle.rw_types_rules.specs.Schemes.{World, world_of}
use Rattle.rw_types_rules.specs.Typings.{IsTypable}
use Rattle.rw_cover.specs.Coverage.{AreUncovered, groups_of}
use Rattle.rw_cover_laws.specs.Typed.{IsTypableProgram}
use Rattle.rw_types.specs.Inferred.{AreTypable, FirstUntypable}
use Rattle.rw_front.specs.Stages.{◌then◌, IsExactAt}
use Rattle.rw_front.specs.Verdict.{reported, BeginsWithPrelude, Keeps, IsScopedAs, IsTypedAs, IsCoveredAs, StartsAs}
use Rattle.rw_front.proofs.Exact.{then_exact}
use Rattle.rw_front.proofs.Reading.{same_refusal}

-- a rule says one thing of a program
abbrev IsOneAt : (PlainProgram Span → Option Refusal → Type 0) → PlainProgram Span → Type 0
IsOneAt Is program = (a b : Option Refusal) → Is program a → Is program b → a ≡ b

abbrev is_none : Option Refusal → Type 0
is_none None = Unit {0}
is_none (Some r) = ⊥

abbrev broken_in : Refusal → Option Refusal → Refusal
broken_in other None = other
broken_in other (Some r) = r

keeps_exact : (Is : PlainProgram Span → Option Refusal → Type 0) (program : PlainProgram Span) → IsOneAt Is program → IsExactAt (Keeps Is) program
keeps_exact Is program one (Ok a) (Ok b) (p, h) (q, k) = ap Ok (p ∙ sym q)
keeps_exact Is program one (Ok a) (Err r) (p, h) (b, q, k) = absurd (subst is_none (one None (Some b) h k) tt)
keeps_exact Is program one (Err r) (Ok b) (a, p, h) (q, k) = absurd (subst is_none (one None (Some a) k h) tt)
keeps_exact Is program one (Err r) (Err s) (a, p, h) (b, q, k) =
    let same : a ≡ b = ap (broken_in a) (one (Some a) (Some b) h k) in
    ap Err (p ∙ ap (reported program) same ∙ sym q)

begins_exact : (program : Program Span) → IsExactAt BeginsWithPrelude program
begins_exact program (Ok a) (Ok b) p q = ap Ok (p ∙ sym q)
begins_exact program (Ok a) (Err r) p q = absurd q
begins_exact program (Err r) (Ok b) p q = absurd p
begins_exact program (Err r) (Err s) p q = absurd p

not_first : (world : World) (ds : List (Declaration Bound)) (at : Place) → AreTypable world ds → FirstUntypable world ds at → ⊥
not_first world [] at p q = q
not_first world (d ∷ ds) at (p, ps) (inl (q, place)) = q p
not_first world (d ∷ ds) at (p, ps) (inr (q, qs)) = not_first world ds at ps qs

one_first : (world : World) (ds : List (Declaration Bound)) (a b : Place) → FirstUntypable world ds a → FirstUntypable world ds b → a ≡ b
one_first world [] a b p q = absurd p
one_first world (d ∷ ds) a b (inl (p, is)) (inl (q, also)) = is ∙ sym also
one_first world (d ∷ ds) a b (inl (p, is)) (inr (q, qs)) = absurd (p q)
one_first world (d ∷ ds) a b (inr (p, ps)) (inl (q, also)) = absurd (q p)
one_first world (d ∷ ds) a b (inr (p, ps)) (inr (q, qs)) = one_first world ds a b ps qs

typed_one : (program : PlainProgram Span) → IsOneAt IsTypedAs program
typed_one program None None p q = refl
typed_one program None (Some r) p (rule, q) = absurd (not_first (world_of program.declarations) (bound_program program).declarations r.place p q)
typed_one program (Some r) None (rule, p) q = absurd (not_first (world_of program.declarations) (bound_program program).declarations r.place q p)
typed_one program (Some r) (Some s) (rule, p) (other, q) =
    ap Some (same_refusal r s (rule ∙ sym other) (one_first (world_of program.declarations) (bound_program program).declarations r.place s.place p q))

all_typable : (world : World) (ds : List (Declaration Bound)) → AreTypable world ds → AllByRecursion (IsTypable world) ds
all_typable world [] p = tt
all_typable world (d ∷ ds) (p, ps) = (p, all_typable world ds ps)

abbrev is_no_place : Option Place → Type 0
is_no_place None = Unit {0}
is_no_place (Some at) = ⊥

abbrev place_in : Place → Option Place → Place
place_in other None = other
place_in other (Some at) = at

module _ (one_list : (program : PlainProgram Span) → recursive_or_empty program ≡ [] → IsTypableProgram program → (places others : List Place)
    → AreUncovered (groups_of (bound_program program)) places → AreUncovered (groups_of (bound_program program)) others → places ≡ others) where
  covered_one : (program : PlainProgram Span) → recursive_or_empty program ≡ [] → IsTypableProgram program → IsOneAt IsCoveredAs program
  covered_one program founded typable None None p q = refl
  covered_one program founded typable None (Some r) p (rule, (places, q, first)) =
      absurd (subst is_no_place (ap earliest (one_list program founded typable [] places p q) ∙ sym first) tt)
  covered_one program founded typable (Some r) None (rule, (places, p, first)) q =
      absurd (subst is_no_place (ap earliest (one_list program founded typable [] places q p) ∙ sym first) tt)
  covered_one program founded typable (Some r) (Some s) (rule, (places, p, first)) (other, (others, q, also)) =
      ap Some (same_refusal r s (rule ∙ sym other) (ap (place_in r.place) (first ∙ ap earliest (one_list program founded typable places others p q) ∙ sym also)))

  module _ (holds : (program : PlainProgram Span) → first_broken program ≡ None → IsScoped program) where
    pub judged_exact : (program : Program Span) → IsExactAt (BeginsWithPrelude then (Keeps IsScopedAs then (Keeps IsTypedAs then (Keeps IsCoveredAs then Keeps StartsAs)))) program
    judged_exact program =
        then_exact BeginsWithPrelude (Keeps IsScopedAs then (Keeps IsTypedAs then (Keeps IsCoveredAs then Keeps StartsAs))) program (begins_exact program) (λ whole _.
        then_exact (Keeps IsScopedAs) (Keeps IsTypedAs then (Keeps IsCoveredAs then Keeps StartsAs)) whole (keeps_exact IsScopedAs whole (λ a b p q. sym p ∙ q)) (λ scoped s.
        then_exact (Keeps IsTypedAs) (Keeps IsCoveredAs then Keeps StartsAs) scoped (keeps_exact IsTypedAs scoped (typed_one scoped)) (λ typed t.
        then_exact (Keeps IsCoveredAs) (Keeps StartsAs) typed (keeps_exact IsCoveredAs typed (covered_one typed (founded whole scoped typed s t) (typable scoped typed t))) (λ covered _.
        keeps_exact StartsAs covered (λ a b p q. sym p ∙ q)))))
      where
        founded : (whole scoped typed : PlainProgram Span) → Keeps IsScopedAs whole (Ok scoped) → Keeps IsTypedAs scoped (Ok typed) → recursive_or_empty typed ≡ []
        founded whole scoped typed (p, broken) (q, t) = subst (λ (x : PlainProgram Span). recursive_or_empty x ≡ []) (sym (q ∙ p)) (holds whole broken).data_types_are_founded

        typable : (scoped typed : PlainProgram Span) → Keeps IsTypedAs scoped (Ok typed) → IsTypableProgram typed
        typable scoped typed (q, t) = subst IsTypableProgram (sym q) (all_typable (world_of scoped.declarations) (bound_program scoped).declarations t)
