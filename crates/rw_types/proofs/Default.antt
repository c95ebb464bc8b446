-- What solves the equations of a numbered declaration is its default typing.
use Rattle.std.proofs.Common.{◌≡◌, ◌↔◌, ℕ, zero, suc, ◌+◌, ◌<◌, Bool, List, [], ◌∷◌, length, refl, sym, ◌∙◌, ap, subst, arith}
use Rattle.rw_scope_rules.specs.declared.binding.Bound.{Bound}
use Rattle.rw_tree.specs.declared.decl.Decl.{Decl}
use Rattle.rw_tree.specs.Declarations.{Declaration, import_declaration, data_declaration, fixity_declaration, signature_declaration, function_declaration, declaration}
use Rattle.rw_types_solving.specs.declared.term.Sort.{Sort}
use Rattle.rw_types_solving.specs.Types.{Ty, apply}
use Rattle.rw_types_solving.specs.Sorts.{HasSort}
use Rattle.rw_types_solving.specs.Conditions.{any}
use Rattle.rw_types_rules.specs.declared.kind.VariableKind.{VariableKind}
use Rattle.rw_types_rules.specs.Schemes.{World, scheme_at}
use Rattle.rw_types_rules.specs.Relabelled.{relabelled_declaration}
use Rattle.rw_types_rules.specs.TypedTrees.{TypedNode, substituted}
use Rattle.rw_types_rules.specs.WellTyped.{DeclarationAgrees}
use Rattle.rw_types_rules.specs.Typings.{heads_of, MayBe, scheme_kinds, declaration_label, own_kinds, IsTyping, IsTypable, IsInstanceOf, leftover, IsDefault}
use Rattle.rw_types_equations.specs.declared.numbered.Numbered.{Numbered}
use Rattle.rw_types_equations.specs.Numbered.{typed_by}
use Rattle.rw_types_numbering.specs.Slots.{declaration_slots}
use Rattle.rw_types_numbering.specs.Fits.{Fits}
use Rattle.rw_types.specs.Inside.{kind_at, slot_sorts, declared_kinds, MayStand, IsSolved, HasNoSolution}
use Rattle.rw_types.proofs.ByKind.{slot_sort, may_be}

label_at : {X Y : Type 0} (f : X → Y) (d : Declaration X) → declaration_label (relabelled_declaration f d) ≡ f (declaration_label d)
label_at f (import_declaration a m) = refl
label_at f (data_declaration a x params constructors) = refl
label_at f (fixity_declaration a side strength names) = refl
label_at f (signature_declaration a names type) = refl
label_at f (function_declaration a x clauses) = refl

-- the typed tree of an assignment to the numbers of a tree
abbrev typed_tree : (ℕ → Ty) → Declaration Numbered → Declaration TypedNode
typed_tree t e = relabelled_declaration (typed_by t) e

-- what numbers fit, one by one
module _ (v : ℕ → Sort) (y : ℕ → Bool) (own : List VariableKind) (world : World) (t : ℕ → Ty) where
  pub fits_at : (n : ℕ) (kinds : List VariableKind) → Fits v y own world t n kinds → (x m : ℕ) → m ≡ n + x → x < length kinds → MayBe v y own world (kind_at kinds x) (t m)
  fits_at n [] h x m e l = absurd (omega arith)
  fits_at n (k ∷ ks) h zero m e l = let same : n ≡ m = omega arith in subst (λ (z : ℕ). MayBe v y own world k (t z)) same h.0
  fits_at n (k ∷ ks) h (suc x) m e l = fits_at (suc n) ks h.1 x m (omega arith) (omega arith)

  pub all_fit : (n : ℕ) (kinds : List VariableKind) → ((x m : ℕ) → m ≡ n + x → x < length kinds → MayBe v y own world (kind_at kinds x) (t m)) → Fits v y own world t n kinds
  all_fit n [] h = tt
  all_fit n (k ∷ ks) h = (h zero n (omega arith) (omega arith), all_fit (suc n) ks (λ x m e l. h (suc x) m (omega arith) (omega arith)))

-- over the laws of numbered trees
module _ (world : World) (d : Declaration Bound) (tree : Decl Numbered) (e : Declaration Numbered) (slots own : List VariableKind)
    (erases : relabelled_declaration (λ a. a.node) e ≡ d)
    (assigned : (v : ℕ → Sort) (y : ℕ → Bool) (typed : Declaration TypedNode) → IsTyping v y world d typed → (t : ℕ → Ty) × (typed ≡ relabelled_declaration (typed_by t) e))
    (exactly : (v : ℕ → Sort) (y : ℕ → Bool) (t : ℕ → Ty) → IsTyping v y world d (relabelled_declaration (typed_by t) e)
    ↔ (DeclarationAgrees world (relabelled_declaration (typed_by t) e) × Fits v y (own_kinds world (relabelled_declaration (typed_by t) e)) world t 0 (declaration_slots world d)))
    (instanced : (t s r : ℕ → Ty) → ((x : ℕ) → t x ≡ apply r (s x)) → relabelled_declaration (typed_by t) e ≡ substituted r (relabelled_declaration (typed_by s) e))
    (link : (t : ℕ → Ty) → declaration (typed_by t) tree ≡ relabelled_declaration (typed_by t) e)
    (all : slots ≡ declaration_slots world d) (mine : own ≡ declared_kinds world d) where
  agrees_then : (t : ℕ → Ty) → DeclarationAgrees world (declaration (typed_by t) tree) → DeclarationAgrees world (typed_tree t e)
  agrees_then t h = subst (DeclarationAgrees world) (link t) h

  agrees_back : (t : ℕ → Ty) → DeclarationAgrees world (typed_tree t e) → DeclarationAgrees world (declaration (typed_by t) tree)
  agrees_back t h = subst (DeclarationAgrees world) (sym (link t)) h

  -- the own kinds of a typed declaration are those of its label
  own_is : (t : ℕ → Ty) → own ≡ own_kinds world (typed_tree t e)
  own_is t =
      let here : declaration_label d ≡ (declaration_label e).node = sym (ap (λ (z : Declaration Bound). declaration_label z) erases) ∙ label_at (λ (a : Numbered). a.node) e in
      let there : (declaration_label e).node ≡ (declaration_label (typed_tree t e)).node = sym (ap (λ (a : TypedNode). a.node) (label_at (typed_by t) e)) in
      mine ∙ ap (λ (b : Bound). scheme_kinds (scheme_at world b.bound)) (here ∙ there)

  -- a typing is an assignment under which the types agree, of these kinds
  typing_then : (v : ℕ → Sort) (y : ℕ → Bool) (t : ℕ → Ty) → IsTyping v y world d (typed_tree t e) → MayStand v y own world slots t
  typing_then v y t h x l =
      let f = subst (λ (ks : List VariableKind). Fits v y own world t 0 ks) (sym all) (subst (λ (os : List VariableKind). Fits v y os world t 0 (declaration_slots world d)) (sym (own_is t)) ((exactly v y t).0 h).1) in
      fits_at v y own world t 0 slots f x x (omega arith) l

  typing_back : (v : ℕ → Sort) (y : ℕ → Bool) (t : ℕ → Ty) → DeclarationAgrees world (declaration (typed_by t) tree) → MayStand v y own world slots t → IsTyping v y world d (typed_tree t e)
  typing_back v y t h may =
      let f : Fits v y own world t 0 slots = all_fit v y own world t 0 slots (λ x m e l. let same : x ≡ m = omega arith in subst (λ (z : ℕ). MayBe v y own world (kind_at slots x) (t z)) same (may x l)) in
      (exactly v y t).1 (agrees_then t h, subst (λ (os : List VariableKind). Fits v y os world t 0 (declaration_slots world d)) (own_is t) (subst (λ (ks : List VariableKind). Fits v y own world t 0 ks) all f))

  general_stands : (c : ℕ → Ty) (k : IsSolved world tree slots own c) → MayStand (slot_sorts slots) any own world slots k.general
  general_stands c k x l =
      may_be (slot_sorts slots) any own world (kind_at slots x) (k.general x) (subst (λ (z : Sort). HasSort (slot_sorts slots) (heads_of world own) z (k.general x)) (slot_sort slots x) (k.carried.sorted x l))
      (k.small x l) (k.carried.stacked x l)

  -- another typing is an instance of the general one
  other_instance : (c : ℕ → Ty) (k : IsSolved world tree slots own c) (v : ℕ → Sort) (y : ℕ → Bool) (other : Declaration TypedNode) → IsTyping v y world d other → IsInstanceOf (typed_tree k.general e) other
  other_instance c k v y other is =
      let a = assigned v y other is in
      let agrees = ((exactly v y a.0).0 (subst (IsTyping v y world d) a.1 is)).0 in
      record { by = a.0; same = a.1 ∙ instanced a.0 k.general a.0 (k.most_general a.0 (agrees_back a.0 agrees)) }

  pub default_is : (c : ℕ → Ty) → IsSolved world tree slots own c → IsDefault world d (declaration (typed_by c) tree)
  default_is c k = record {
    general = typed_tree k.general e;
    sorts = slot_sorts slots;
    states = any;
    typing = typing_back (slot_sorts slots) any k.general k.agrees (general_stands c k);
    most_general = other_instance c k;
    closed = link c ∙ instanced c k.general (leftover (slot_sorts slots)) k.closed;
  }

  pub untypable : HasNoSolution world tree slots own → IsTypable world d → ⊥
  untypable h p =
      let a = assigned p.sorts p.states p.typed p.typing in
      let typing = subst (IsTyping p.sorts p.states world d) a.1 p.typing in
      h p.sorts p.states a.0 (agrees_back a.0 ((exactly p.sorts p.states a.0).0 typing).0) (typing_then p.sorts p.states a.0 typing)
