-- A substitution keeps that types agree.
use Rattle.std.proofs.Common.{◌≡◌, ℕ, zero, suc, Bool, true, List, [], ◌∷◌, map, Option, Some, None, refl, sym, ◌∙◌, ap}
use Rattle.rw_scope_rules.specs.declared.binding.Binding.{Binding}
use Rattle.rw_tree.specs.Declarations.{Declaration, import_declaration, data_declaration, fixity_declaration, signature_declaration, function_declaration}
use Rattle.rw_types_solving.specs.declared.term.Head.{Head}
use Rattle.rw_types_solving.specs.Types.{Ty, Tys, app, none, more, apply, apply_in}
use Rattle.rw_types_solving.proofs.Laws.{compose, alike_all}
use Rattle.rw_types_rules.specs.Words.{unknown}
use Rattle.rw_types_rules.specs.Schemes.{Scheme, scheme_type, World, scheme_at}
use Rattle.rw_types_rules.specs.TypedTrees.{TypedNode, substituted}
use Rattle.rw_types_rules.specs.WellTyped.{given, IsOwnType, DeclarationAgrees}
use Rattle.rw_types_equations.proofs.Closed.{written_stays, bool_stays}
use Rattle.rw_types_laws.proofs.Parts.{each, IsKeeping}
use Rattle.rw_types_laws.proofs.Agreeing.{all_clauses_agree}

module _ (s : ℕ → Ty) where
  each_applied : (ts : Tys) → apply_in s ts ≡ each (apply s) ts
  each_applied none = refl
  each_applied (more t ts) = ap (more (apply s t)) (each_applied ts)

  -- an instance
  given_applied : (arguments : List Ty) (x : ℕ) → apply s (given arguments x) ≡ given (map (apply s) arguments) x
  given_applied [] x = refl
  given_applied (a ∷ arguments) zero = refl
  given_applied (a ∷ arguments) (suc x) = given_applied arguments x

  pub instance_applied : (arguments : List Ty) (t : Ty) → apply s (apply (given arguments) t) ≡ apply (given (map (apply s) arguments)) t
  instance_applied arguments t = compose s (given arguments) t ∙ alike_all _ _ t (given_applied arguments)

  pub instances_applied : (arguments ts : List Ty) → map (apply s) (map (apply (given arguments)) ts) ≡ map (apply (given (map (apply s) arguments))) ts
  instances_applied arguments [] = refl
  instances_applied arguments (t ∷ ts) = λ i. instance_applied arguments t i ∷ instances_applied arguments ts i

  pub keeping : (world : World) → IsKeeping world (apply s)
  keeping world = record {
    heads = λ h ts e. ap (app h) (each_applied ts);
    takes = λ b scheme e arguments. instances_applied arguments scheme.takes;
    gives = λ b scheme e arguments. instance_applied arguments scheme.gives;
    written = λ tree. written_stays world.types tree s;
    truth = bool_stays world s;
  }

  -- the unknown types stay
  own_applied : (o : Option Scheme) (type : Ty) → IsOwnType o type → IsOwnType o (apply s type)
  own_applied None type h = absurd h
  own_applied (Some scheme) type h = ap (apply s) h ∙ compose s unknown (scheme_type scheme) ∙ alike_all _ _ (scheme_type scheme) (λ x. refl)

  pub declaration_agrees : (world : World) (d : Declaration TypedNode) → DeclarationAgrees world d → DeclarationAgrees world (substituted s d)
  declaration_agrees world (import_declaration a m) h = ap (apply s) h
  declaration_agrees world (data_declaration a x params constructors) h = ap (apply s) h
  declaration_agrees world (fixity_declaration a side strength names) h = ap (apply s) h
  declaration_agrees world (signature_declaration a names type) h = ap (apply s) h
  declaration_agrees world (function_declaration a x clauses) h =
      (own_applied (scheme_at world a.node.bound) a.type h.0, all_clauses_agree world (apply s) (keeping world) a.type clauses h.1)
