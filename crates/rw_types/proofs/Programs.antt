-- Declarations one after the other: default typings so far, and the first declaration that has none.
use Rattle.std.proofs.Common.{◌≡◌, ℕ, zero, suc, ◌+◌, ◌<◌, List, All, [], ◌∷◌, ◌++◌, map, take, length, get_or, Option, Some, None, Result, Ok, Err, refl, sym, ◌∙◌, ap, subst, arith, inl, inr}
use Rattle.std.proofs.lemmas.List.{map-append, take_more}
use Rattle.rw_base.specs.declared.place.Place.{Place}
use Rattle.rw_base.specs.declared.rule.Rule.{Rule}
use Rattle.rw_base.specs.declared.rule.Rule.TheVariants.{E13}
use Rattle.rw_base.specs.declared.fail.Refusal.{Refusal}
use Rattle.rw_base.specs.Answers.{Fail, IsJudged}
use Rattle.rw_base.specs.declared.fail.Failure.TheVariants.{Refused, OutOfMemory}
use Rattle.rw_scope_rules.specs.declared.binding.Bound.{Bound}
use Rattle.rw_tree.specs.Views.{itself}
use Rattle.rw_tree.specs.declared.decl.Decl.{Decl}
use Rattle.rw_tree.specs.Declarations.{Declaration, declaration}
use Rattle.rw_types_rules.specs.Schemes.{World}
use Rattle.rw_types_rules.specs.TypedTrees.{TypedNode}
use Rattle.rw_types_rules.specs.Typings.{IsTypable, IsDefault}
use Rattle.rw_types.specs.declared.typed.TypedDecl.{TypedDecl}
use Rattle.rw_types.specs.Inside.{IsInferredAlone}
use Rattle.rw_types.specs.Inferred.{seen, AreDefault, AreTypable, declaration_place, FirstUntypable, HasSharedTypes, IsInferred}

refused_so : (refusal : Refusal) (place : Place) → refusal.rule ≡ E13 → refusal.place ≡ place → Some (record { rule = E13; place = place }) ≡ Some refusal
refused_so refusal place p q =
    ap Some (subst (λ (rule : Rule). record { rule = rule; place = place } ≡ refusal) p (subst (λ (at : Place). record { rule = refusal.rule; place = at } ≡ refusal) q refl))

default_typable : (world : World) (d : Declaration Bound) (typed : Declaration TypedNode) → IsDefault world d typed → IsTypable world d
default_typable world d typed k = record { sorts = k.sorts; states = k.states; typed = k.general; typing = k.typing }

-- what the loop over declarations keeps
pub record InferredSoFar (world : World) (decls : List (Decl Bound)) (all : List TypedDecl) : Type 0 where
  pub default : AreDefault world (map (declaration itself) decls) (map seen all)
  pub shared : All HasSharedTypes all

module _ (world : World) where
  -- one declaration more
  default_more : (ds : List (Declaration Bound)) (ts : List (Declaration TypedNode)) (d : Declaration Bound) (t : Declaration TypedNode) → AreDefault world ds ts → IsDefault world d t
      → AreDefault world (ds ++ d ∷ []) (ts ++ t ∷ [])
  default_more [] [] d t h k = (k, tt)
  default_more [] (u ∷ ts) d t h k = absurd h
  default_more (e ∷ ds) [] d t h k = absurd h
  default_more (e ∷ ds) (u ∷ ts) d t h k = (h.0, default_more ds ts d t h.1 k)

  pub default_next : (decls : List (Decl Bound)) (i : ℕ) (decl : Decl Bound) (all new : List TypedDecl) (made : TypedDecl) → i < length decls → decl ≡ get_or decls i decl → new ≡ all ++ made ∷ []
      → AreDefault world (map (declaration itself) (take i decls)) (map seen all) → IsDefault world (declaration itself decl) (seen made)
      → AreDefault world (map (declaration itself) (take (i + 1) decls)) (map seen new)
  default_next decls i decl all new made l e n h k =
      let ds : map (declaration itself) (take (i + 1) decls) ≡ map (declaration itself) (take i decls) ++ declaration itself decl ∷ [] =
      ap (map (declaration itself)) (take_more decls i decl l ∙ ap (λ (z : Decl Bound). take i decls ++ z ∷ []) (sym e)) ∙ map-append (declaration itself) (take i decls) (decl ∷ []) in
      let ts : map seen new ≡ map seen all ++ seen made ∷ [] = ap (map seen) n ∙ map-append seen all (made ∷ []) in
      subst (λ (z : List (Declaration Bound)). AreDefault world z (map seen new)) (sym ds)
      (subst (AreDefault world (map (declaration itself) (take i decls) ++ declaration itself decl ∷ [])) (sym ts)
      (default_more (map (declaration itself) (take i decls)) (map seen all) (declaration itself decl) (seen made) h k))

  -- the first without a typing
  pub first_at : (decls : List (Decl Bound)) (i : ℕ) (decl : Decl Bound) (ts : List (Declaration TypedNode)) (place : Place) → i < length decls → decl ≡ get_or decls i decl
      → AreDefault world (map (declaration itself) (take i decls)) ts → (IsTypable world (declaration itself decl) → ⊥) → place ≡ declaration_place (declaration itself decl)
      → FirstUntypable world (map (declaration itself) decls) place
  first_at [] i decl ts place l e h u p = absurd (omega arith)
  first_at (d ∷ ds) zero decl ts place l e h u p =
      inl (subst (λ (z : Decl Bound). IsTypable world (declaration itself z) → ⊥) e u, p ∙ ap (λ (z : Decl Bound). declaration_place (declaration itself z)) e)
  first_at (d ∷ ds) (suc i) decl [] place l e h u p = absurd h
  first_at (d ∷ ds) (suc i) decl (t ∷ ts) place l e h u p = inr (default_typable world (declaration itself d) t h.0, first_at ds i decl ts place (omega arith) e h.1 u p)

  -- where each has a typing there is no first without one, and there is one at most
  none_first : (ds : List (Declaration Bound)) (place : Place) → AreTypable world ds → FirstUntypable world ds place → ⊥
  none_first [] place h f = f
  none_first (d ∷ ds) place h (inl f) = f.0 h.0
  none_first (d ∷ ds) place h (inr f) = none_first ds place h.1 f.1

  one_first : (ds : List (Declaration Bound)) (p q : Place) → FirstUntypable world ds p → FirstUntypable world ds q → p ≡ q
  one_first [] p q f g = absurd f
  one_first (d ∷ ds) p q (inl f) (inl g) = f.1 ∙ sym g.1
  one_first (d ∷ ds) p q (inl f) (inr g) = absurd (f.0 g.0)
  one_first (d ∷ ds) p q (inr f) (inl g) = absurd (g.0 f.0)
  one_first (d ∷ ds) p q (inr f) (inr g) = one_first ds p q f.1 g.1

  pub are_typable : (ds : List (Declaration Bound)) (ts : List (Declaration TypedNode)) → AreDefault world ds ts → AreTypable world ds
  are_typable [] [] h = tt
  are_typable [] (t ∷ ts) h = absurd h
  are_typable (d ∷ ds) [] h = absurd h
  are_typable (d ∷ ds) (t ∷ ts) h = (default_typable world d t h.0, are_typable ds ts h.1)

  pub ok_unless : (ds : List (Declaration Bound)) (r : Result (List TypedDecl) Fail) → IsInferred world ds r → AreTypable world ds → IsJudged None r
  ok_unless ds (Ok made) h k = refl
  ok_unless ds (Err (Refused refusal)) h k = absurd (none_first ds refusal.place k h.1)
  ok_unless ds (Err OutOfMemory) h k = tt

  pub refused_unless : (ds : List (Declaration Bound)) (r : Result (List TypedDecl) Fail) → IsInferred world ds r → (place : Place) → FirstUntypable world ds place → IsJudged (Some (record { rule = E13; place = place })) r
  refused_unless ds (Ok made) h place f = absurd (none_first ds place (are_typable ds (map seen made) h) f)
  refused_unless ds (Err (Refused refusal)) h place f = refused_so refusal place h.0 (one_first ds refusal.place place h.1 f)
  refused_unless ds (Err OutOfMemory) h place f = tt

  -- an answer on the declaration that is come to
  pub answered_at : (decls : List (Decl Bound)) (i : ℕ) (decl : Decl Bound) (all : List TypedDecl) (e : Fail) (r : Result (List TypedDecl) Fail) → i < length decls → decl ≡ get_or decls i decl
      → AreDefault world (map (declaration itself) (take i decls)) (map seen all) → IsInferredAlone world (declaration itself decl) (Err e) → r ≡ Err e → IsInferred world (map (declaration itself) decls) r
  answered_at decls i decl all (Refused refusal) r l here h k same =
      subst (IsInferred world (map (declaration itself) decls)) (sym same) (k.0, first_at decls i decl (map seen all) refusal.place l here h k.2 k.1)
  answered_at decls i decl all OutOfMemory r l here h k same = subst (IsInferred world (map (declaration itself) decls)) (sym same) tt

-- the same world and declarations
pub inferred_of : (w v : World) (ds es : List (Declaration Bound)) (r : Result (List TypedDecl) Fail) → w ≡ v → ds ≡ es → IsInferred w ds r → IsInferred v es r
inferred_of w v ds es r e f h = subst (λ (z : World). IsInferred z es r) e (subst (λ (zs : List (Declaration Bound)). IsInferred w zs r) f h)
