-- A declaration has a default typing or none at all: its equations are solved, and sorts are sought for the solution.
use Rattle.std.proofs.Common.{◌≡◌, ◌⊎◌, inl, inr, ℕ, zero, ◌+◌, ◌≤◌, Bool, List, [], ◌∷◌, length, refl, sym, ◌∙◌, subst, arith}
use Rattle.rw_scope_rules.specs.declared.binding.Bound.{Bound}
use Rattle.rw_tree.specs.Declarations.{Declaration}
use Rattle.rw_types_solving.specs.declared.term.Sort.{Sort}
use Rattle.rw_types_solving.specs.Types.{Ty, var, apply, top, Agrees}
use Rattle.rw_types_solving.specs.Conditions.{any}
use Rattle.rw_types_solving.proofs.Steps.{uses_top}
use Rattle.rw_types_rules.specs.declared.kind.VariableKind.{VariableKind}
use Rattle.rw_types_rules.specs.Schemes.{World}
use Rattle.rw_types_rules.specs.TypedTrees.{TypedNode, substituted}
use Rattle.rw_types_rules.specs.WellTyped.{DeclarationAgrees}
use Rattle.rw_types_rules.specs.Typings.{heads_of, IsTyping, IsTypable, IsInstanceOf, leftover, IsDefault}
use Rattle.rw_types_unifiers.specs.Unifiers.{Unifies, AreWithin, IsMostGeneralUnifier}
use Rattle.rw_types_unifiers.proofs.Unifying.{solved}
use Rattle.rw_types_numbering.specs.Slots.{declaration_slots}
use Rattle.rw_types_numbering.specs.Fits.{Fits, typed_declaration}
use Rattle.rw_types_numbering.proofs.Filling.{from_assignment}
use Rattle.rw_types_numbering.proofs.Fitting.{typing_is}
use Rattle.rw_types_numbering.proofs.Instances.{instance_is}
use Rattle.rw_types_laws.proofs.Typings.{declared_kinds, fits_typing, typing_fits}
use Rattle.rw_types_decision.proofs.Equational.{IsEquational}
use Rattle.rw_types_decision.proofs.Trees.{declaration_agrees}
use Rattle.rw_types_decision.proofs.Sorts.{fits_decided, fits_alike, sorts_found, sort_at, fits_back}

-- a number above the variables of equations, and not below m
abbrev room : ℕ → List (Ty × Ty) → ℕ
room m [] = m
room m (e ∷ es) = top e.0 + top e.1 + room m es

room_enough : (m : ℕ) (es : List (Ty × Ty)) → m ≤ room m es
room_enough m [] = omega arith
room_enough m (e ∷ es) = let l = room_enough m es in omega arith

are_within : (m n : ℕ) (es : List (Ty × Ty)) → room m es ≤ n → AreWithin n es
are_within m n [] l = tt
are_within m n (e ∷ es) l = (uses_top n e.0 (omega arith), uses_top n e.1 (omega arith), are_within m n es (omega arith))

abbrev IsJudged : World → Declaration Bound → Type 0
IsJudged world d = ((typed : Declaration TypedNode) × IsDefault world d typed) ⊎ (IsTypable world d → ⊥)

module _ (world : World) (d : Declaration Bound) where
  -- each node has a variable of its own
  abbrev general : Declaration TypedNode
  general = typed_declaration var world d

  abbrev slots : List VariableKind
  slots = declaration_slots world d

  as_substituted : (t : ℕ → Ty) → typed_declaration t world d ≡ substituted t general
  as_substituted t = instance_is t var t world d (λ x. refl)

  -- the types of a typing agree
  module _ (equations : IsEquational (λ t. DeclarationAgrees world (substituted t general))) where
    assigned_unifies : (v : ℕ → Sort) (y : ℕ → Bool) (t : ℕ → Ty) → IsTyping v y world d (typed_declaration t world d) → Unifies t equations.equations
    assigned_unifies v y t h = (equations.exactly t).0 (subst (DeclarationAgrees world) (as_substituted t) ((typing_is v y world t d).0 h).0)

    none_unified : ((t : ℕ → Ty) → Unifies t equations.equations → ⊥) → IsTypable world d → ⊥
    none_unified f p =
        let a = from_assignment p.sorts p.states world d p.typed p.typing in
        f a.0 (assigned_unifies p.sorts p.states a.0 (subst (IsTyping p.sorts p.states world d) a.1 p.typing))

    module _ (n : ℕ) (enough : length slots ≤ n) (s : ℕ → Ty) (k : IsMostGeneralUnifier n equations.equations s) where
      -- each typing is an instance of the solution
      instance_of : (v : ℕ → Sort) (y : ℕ → Bool) (other : Declaration TypedNode) → IsTyping v y world d other → IsInstanceOf (typed_declaration s world d) other
      instance_of v y other is =
          let a = from_assignment v y world d other is in
          let same : Agrees a.0 s = (k.exactly a.0).0 (assigned_unifies v y a.0 (subst (IsTyping v y world d) a.1 is)) in
          record { by = a.0; same = a.1 ∙ instance_is a.0 s a.0 world d same }

      -- the solution is a typing, if its types are of some sorts
      solution_typing : (v : ℕ → Sort) → Fits v any (declared_kinds world d) world s 0 slots → IsTyping v any world d (typed_declaration s world d)
      solution_typing v f = typing_fits v any world d s (subst (DeclarationAgrees world) (sym (as_substituted s)) ((equations.exactly s).1 ((k.exactly s).1 k.itself))) f

      solution_default : (v : ℕ → Sort) → Fits v any (declared_kinds world d) world s 0 slots → (typed : Declaration TypedNode) × IsDefault world d typed
      solution_default v f = (
        substituted (leftover v) (typed_declaration s world d),
        record { general = typed_declaration s world d; sorts = v; states = any; typing = solution_typing v f; most_general = instance_of; closed = refl },
      )

      -- the sorts of a typing are sorts of the solution
      sorts_of : (v : ℕ → Sort) (y : ℕ → Bool) (typed : Declaration TypedNode) → IsTyping v y world d typed → (u : ℕ → Sort) × Fits u any (declared_kinds world d) world s 0 slots
      sorts_of v y typed is =
          let a = from_assignment v y world d typed is in
          let here : IsTyping v y world d (typed_declaration a.0 world d) = subst (IsTyping v y world d) a.1 is in
          let same : Agrees a.0 s = (k.exactly a.0).0 (assigned_unifies v y a.0 here) in
          ((λ x. sort_at v (heads_of world (declared_kinds world d)) (a.0 x)), fits_back v a.0 y (declared_kinds world d) world s same 0 slots (fits_typing v y world d a.0 here))

      by_sorts : ((v : ℕ → Sort) × Fits v any (declared_kinds world d) world s 0 slots) ⊎ ((v : ℕ → Sort) → Fits v any (declared_kinds world d) world s 0 slots → ⊥) → IsJudged world d
      by_sorts (inl (v, f)) = inl (solution_default v f)
      by_sorts (inr none) = inr (λ p. let u = sorts_of p.sorts p.states p.typed p.typing in none u.0 u.1)

      judged_solved : IsJudged world d
      judged_solved =
          by_sorts
          (sorts_found n (λ v. Fits v any (declared_kinds world d) world s 0 slots) (λ v u e f. fits_alike v u n e any (declared_kinds world d) world s k.within 0 slots (omega arith) f)
          (λ v. fits_decided v any (declared_kinds world d) world s 0 slots))

    by_solution : (n : ℕ) → length slots ≤ n → ((s : ℕ → Ty) × IsMostGeneralUnifier n equations.equations s) ⊎ ((t : ℕ → Ty) → Unifies t equations.equations → ⊥) → IsJudged world d
    by_solution n enough (inl (s, k)) = judged_solved n enough s k
    by_solution n enough (inr none) = inr (none_unified none)

    by_equations : IsJudged world d
    by_equations =
        let n : ℕ = room (length slots) equations.equations in
        by_solution n (room_enough (length slots) equations.equations)
        (solved n equations.equations (are_within (length slots) n equations.equations (omega arith)))

  pub default_decided : IsJudged world d
  default_decided = by_equations (declaration_agrees world general)

  pub typable_decided : IsTypable world d ⊎ (IsTypable world d → ⊥)
  typable_decided = elim default_decided [
    | inl (typed, k) ↦ inl (record { sorts = k.sorts; states = k.states; typed = k.general; typing = k.typing })
    | inr none ↦ inr none
  ]
