-- A substitution that keeps sorts keeps typings.
use Rattle.std.proofs.Common.{◌≡◌, ℕ, zero, suc, ◌≤◌, Bool, true, false, cond, ◌&&◌, nat_eq, List, [], ◌∷◌, refl, sym, ◌∙◌, ap, subst, arith}
use Rattle.rw_scope_rules.specs.declared.binding.Bound.{Bound}
use Rattle.rw_tree.specs.Declarations.{Declaration}
use Rattle.rw_types_solving.specs.declared.term.Head.{Head}
use Rattle.rw_types_solving.specs.declared.term.Head.TheVariants as h
use Rattle.rw_types_solving.specs.declared.term.Sort.{Sort}
use Rattle.rw_types_solving.specs.declared.term.Sort.TheVariants as s
use Rattle.rw_types_solving.specs.Types.{Ty, Tys, var, app, none, more, apply, apply_in, parts}
use Rattle.rw_types_solving.specs.Sorts.{HasSort, HasSorts, part_sort}
use Rattle.rw_types_solving.specs.Conditions.{is_state_layer, is_state_monad, are_stacked}
use Rattle.rw_types_solving.proofs.Laws.{parts_apply, is_same}
use Rattle.rw_types_solving.proofs.Steps.{sort_apply}
use Rattle.rw_types_solving.proofs.StateMonads.{both, and_true, layer_app}
use Rattle.rw_types_solving.proofs.Defaults.{is_first}
use Rattle.rw_types_rules.specs.declared.kind.VariableKind.{VariableKind}
use Rattle.rw_types_rules.specs.declared.kind.VariableKind.TheVariants.{Plain, Monad, StateMonad, Layer}
use Rattle.rw_types_rules.specs.Schemes.{World, scheme_at}
use Rattle.rw_types_rules.specs.TypedTrees.{TypedNode, substituted}
use Rattle.rw_types_rules.specs.WellTyped.{DeclarationAgrees}
use Rattle.rw_types_rules.specs.Typings.{kind_sort, heads_of, state_unknowns, IsType, MayBe, scheme_kinds, declaration_label, own_kinds, IsTyping}
use Rattle.rw_types_numbering.specs.Slots.{declaration_slots}
use Rattle.rw_types_numbering.specs.Fits.{Fits, typed_declaration}
use Rattle.rw_types_numbering.proofs.Filling.{from_assignment}
use Rattle.rw_types_numbering.proofs.Fitting.{typing_is}
use Rattle.rw_types_numbering.proofs.Instances.{instance_is}
use Rattle.rw_types_numbering.proofs.Own.{own_are}
use Rattle.rw_types_laws.specs.Substitutions.{Keeps}
use Rattle.rw_types_laws.proofs.Substituting.{declaration_agrees}

-- the kinds of the unknown types of a declaration
abbrev pub declared_kinds : World → Declaration Bound → List VariableKind
declared_kinds world d = scheme_kinds (scheme_at world (declaration_label d).bound)

module _ (own : List VariableKind) (world : World) (v : ℕ → Sort) (y : ℕ → Bool) (w : ℕ → Sort) (z : ℕ → Bool) (r : ℕ → Ty) (k : Keeps own world v y w z r) where
  -- state monads
  layer_kept : (t : Ty) → HasSort v (heads_of world own) s.Layer t → is_state_layer y t ≡ true → is_state_layer z (apply r t) ≡ true
  layer_kept (var x) g e = k.layered x e g
  layer_kept (app h ts) g e = layer_app z y h (apply_in r ts) ts ∙ e

  empty_kept : (ts : Tys) → nat_eq (parts ts) 0 ≡ true → are_stacked z (state_unknowns own) true (apply_in r ts) ≡ true
  empty_kept none e = refl
  empty_kept (more t ts) e = let no = is_same (suc (parts ts)) 0 e in absurd (omega arith)

  part_kept : (i : ℕ) (t : Ty) → (HasSort v (heads_of world own) s.Monad t → is_state_monad y (state_unknowns own) t ≡ true → is_state_monad z (state_unknowns own) (apply r t) ≡ true)
      → HasSort v (heads_of world own) (part_sort h.Layer i) t → cond (is_first i) (is_state_layer y t) (is_state_monad y (state_unknowns own) t) ≡ true
      → cond (is_first i) (is_state_layer z (apply r t)) (is_state_monad z (state_unknowns own) (apply r t)) ≡ true
  part_kept zero t f g e = layer_kept t g e
  part_kept (suc i) t f g e = f g e

  mutual
    state_kept : (t : Ty) → HasSort v (heads_of world own) s.Monad t → is_state_monad y (state_unknowns own) t ≡ true → is_state_monad z (state_unknowns own) (apply r t) ≡ true
    state_kept (var x) g e = k.stacked x e g
    state_kept (app h.I ts) g e =
        let b = both (nat_eq (parts ts) 0) (are_stacked y (state_unknowns own) true ts) e in
        and_true (nat_eq (parts (apply_in r ts)) 0) (are_stacked z (state_unknowns own) true (apply_in r ts)) (ap (λ n. nat_eq n 0) (parts_apply r ts) ∙ b.0) (empty_kept ts b.0)
    state_kept (app (h.Unknown m) ts) g e =
        let b = both (state_unknowns own m && nat_eq (parts ts) 0) (are_stacked y (state_unknowns own) true ts) e in
        let c = both (state_unknowns own m) (nat_eq (parts ts) 0) b.0 in
        and_true (state_unknowns own m && nat_eq (parts (apply_in r ts)) 0) (are_stacked z (state_unknowns own) true (apply_in r ts)) (ap (λ n. state_unknowns own m && nat_eq n 0) (parts_apply r ts) ∙ b.0)
        (empty_kept ts c.1)
    state_kept (app h.Layer ts) g e =
        let b = both (nat_eq (parts ts) 2) (are_stacked y (state_unknowns own) true ts) e in
        and_true (nat_eq (parts (apply_in r ts)) 2) (are_stacked z (state_unknowns own) true (apply_in r ts)) (ap (λ n. nat_eq n 2) (parts_apply r ts) ∙ b.0) (stacked_kept 0 ts g.1 b.1)
    state_kept (app _ ts) g e = absurd (cc)

    stacked_kept : (i : ℕ) (ts : Tys) → HasSorts v (heads_of world own) h.Layer i ts → are_stacked y (state_unknowns own) (is_first i) ts ≡ true → are_stacked z (state_unknowns own) (is_first i) (apply_in r ts) ≡ true
    stacked_kept i none g e = refl
    stacked_kept i (more t ts) g e =
        let b = both (cond (is_first i) (is_state_layer y t) (is_state_monad y (state_unknowns own) t)) (are_stacked y (state_unknowns own) false ts) e in
        and_true (cond (is_first i) (is_state_layer z (apply r t)) (is_state_monad z (state_unknowns own) (apply r t))) (are_stacked z (state_unknowns own) false (apply_in r ts))
        (part_kept i t (state_kept t) g.0 b.0) (stacked_kept (suc i) ts g.1 b.1)

  -- what a number may stand for
  type_kept : (sort : Sort) (t : Ty) → IsType v y own world sort t → IsType w z own world sort (apply r t)
  type_kept sort t h = (sort_apply r v w (heads_of world own) sort t k.sorted h.0, k.small sort t h)

  may_kept : (kind : VariableKind) (t : Ty) → MayBe v y own world kind t → MayBe w z own world kind (apply r t)
  may_kept Plain t h = type_kept s.Plain t h
  may_kept Monad t h = type_kept s.Monad t h
  may_kept StateMonad t h = (type_kept s.Monad t h.0, state_kept t h.0.0 h.1)
  may_kept Layer t h = type_kept s.Layer t h

  fits_kept : (t : ℕ → Ty) (n : ℕ) (kinds : List VariableKind) → Fits v y own world t n kinds → Fits w z own world (λ x. apply r (t x)) n kinds
  fits_kept t n [] h = tt
  fits_kept t n (kind ∷ kinds) h = (may_kept kind (t n) h.0, fits_kept t (suc n) kinds h.1)

-- what a typing by an assignment is
pub fits_typing : (v : ℕ → Sort) (y : ℕ → Bool) (world : World) (d : Declaration Bound) (t : ℕ → Ty) → IsTyping v y world d (typed_declaration t world d)
    → Fits v y (declared_kinds world d) world t 0 (declaration_slots world d)
fits_typing v y world d t h = subst (λ os. Fits v y os world t 0 (declaration_slots world d)) (own_are t world d) ((typing_is v y world t d).0 h).1

pub typing_fits : (v : ℕ → Sort) (y : ℕ → Bool) (world : World) (d : Declaration Bound) (t : ℕ → Ty) → DeclarationAgrees world (typed_declaration t world d)
    → Fits v y (declared_kinds world d) world t 0 (declaration_slots world d) → IsTyping v y world d (typed_declaration t world d)
typing_fits v y world d t a f = (typing_is v y world t d).1 (a, subst (λ os. Fits v y os world t 0 (declaration_slots world d)) (sym (own_are t world d)) f)

pub typing_kept : (v : ℕ → Sort) (y : ℕ → Bool) (w : ℕ → Sort) (z : ℕ → Bool) (r : ℕ → Ty) (world : World) (d : Declaration Bound) (typed : Declaration TypedNode)
    → Keeps (declared_kinds world d) world v y w z r → IsTyping v y world d typed → IsTyping w z world d (substituted r typed)
typing_kept v y w z r world d typed k is =
    let a = from_assignment v y world d typed is in
    let here : IsTyping v y world d (typed_declaration a.0 world d) = subst (IsTyping v y world d) a.1 is in
    let new : ℕ → Ty = λ x. apply r (a.0 x) in
    let same : typed_declaration new world d ≡ substituted r (typed_declaration a.0 world d) = instance_is new a.0 r world d (λ x. refl) in
    let agrees : DeclarationAgrees world (typed_declaration new world d) =
    subst (DeclarationAgrees world) (sym same) (declaration_agrees r world (typed_declaration a.0 world d) ((typing_is v y world a.0 d).0 here).0) in
    let typing = typing_fits w z world d new agrees (fits_kept (declared_kinds world d) world v y w z r k a.0 0 (declaration_slots world d) (fits_typing v y world d a.0 here)) in
    subst (IsTyping w z world d) (same ∙ ap (substituted r) (sym a.1)) typing
