-- The type of a declaration: its own signature with unknown types.
use Rattle.std.proofs.Common.{◌≡◌, ◌↔◌, ℕ, List, [], ◌∷◌, Option, Some, None, refl, sym, ◌∙◌, ap, subst}
use Rattle.rw_tree.specs.Trees.{Alternative, alternative_parts}
use Rattle.rw_tree.specs.Declarations.{Declaration}
use Rattle.rw_types_solving.specs.Types.{Ty, apply}
use Rattle.rw_types_solving.proofs.Laws.{compose, alike_all}
use Rattle.rw_types_rules.specs.Words.{unknown, unit_type}
use Rattle.rw_types_rules.specs.Schemes.{Scheme, World, scheme_type}
use Rattle.rw_types_rules.specs.TypedTrees.{TypedNode}
use Rattle.rw_types_rules.specs.WellTyped.{IsOwnType, ClausesAgree, AllClausesAgree, DeclarationAgrees}

-- unknown types are of no variable
unknown_stays : (t : ℕ → Ty) (u : Ty) → apply t (apply unknown u) ≡ apply unknown u
unknown_stays t u = compose t unknown u ∙ alike_all _ _ u (λ x. refl)

pub is_own : (s : Scheme) (n : ℕ) (u : Ty) → u ≡ apply unknown (scheme_type s) → (t : ℕ → Ty) → (t n ≡ apply t u) ↔ IsOwnType (Some s) (t n)
is_own s n u e t = let c = ap (apply t) e ∙ unknown_stays t (scheme_type s) in ((λ h. h ∙ c), (λ h. h ∙ sym c))

pub own_as : (x y : Option Scheme) (type : Ty) → x ≡ y → IsOwnType x type ↔ IsOwnType y type
own_as x y type e = ((λ h. subst (λ z. IsOwnType z type) e h), (λ h. subst (λ z. IsOwnType z type) (sym e) h))

pub no_own_of : (x : Option Scheme) (type : Ty) → x ≡ None → ⊥ ↔ IsOwnType x type
no_own_of x type e = ((λ b. absurd b), (λ h. subst (λ z. IsOwnType z type) e h))

-- clauses as a list
pub all_clauses : (w : World) (type : Ty) (cs : List (Alternative TypedNode)) → ClausesAgree w [] type (alternative_parts cs) ↔ AllClausesAgree w type cs
all_clauses w type [] = ((λ h. tt), (λ h. tt))
all_clauses w type (c ∷ cs) = ((λ h. (h.0, h.1, (all_clauses w type cs).0 h.2)), (λ h. (h.0, h.1, (all_clauses w type cs).1 h.2)))

pub clauses_at_top : (w : World) (ls : List Ty) (u type : Ty) (cs : List (Alternative TypedNode)) → ls ≡ [] → u ≡ type → ClausesAgree w ls u (alternative_parts cs) ↔ AllClausesAgree w type cs
clauses_at_top w ls u type cs e f = (
  (λ h. (all_clauses w type cs).0 (subst (λ z. ClausesAgree w z type (alternative_parts cs)) e (subst (λ z. ClausesAgree w ls z (alternative_parts cs)) f h))),
  (λ h. subst (λ z. ClausesAgree w ls z (alternative_parts cs)) (sym f) (subst (λ z. ClausesAgree w z type (alternative_parts cs)) (sym e) ((all_clauses w type cs).1 h))),
)

pub unit_is : (n : ℕ) (u : Ty) → u ≡ unit_type → (t : ℕ → Ty) → (t n ≡ apply t u) ↔ (t n ≡ unit_type)
unit_is n u e t = let c = ap (apply t) e in ((λ h. h ∙ c), (λ h. h ∙ sym c))

pub declaration_as : (w : World) (x y : Declaration TypedNode) → x ≡ y → DeclarationAgrees w y ↔ DeclarationAgrees w x
declaration_as w x y e = ((λ h. subst (λ z. DeclarationAgrees w z) (sym e) h), (λ h. subst (λ z. DeclarationAgrees w z) e h))
