-- The instances of a typed program have one flat program at most.
use Rattle.std.proofs.Common.{◌≡◌, ℕ, List, [], ◌∷◌, length, Option, Some, None, refl, ap, sym, ◌∙◌, subst}
use mathlib.Core.Path.{subst₂}
use Rattle.rw_base.specs.declared.place.Place.{Place}
use Rattle.rw_scope_rules.specs.declared.binding.Bound.{Bound}
use Rattle.rw_tree.specs.Trees.{Expression, Alternatives, alternative_parts}
use Rattle.rw_tree.specs.Declarations.{Declaration, import_declaration, data_declaration, fixity_declaration, signature_declaration, function_declaration}
use Rattle.rw_core.specs.Systems.{System}
use Rattle.rw_meaning.specs.Systems.{Body, system_of}
use Rattle.rw_types_solving.specs.Types.{Ty}
use Rattle.rw_types_rules.specs.Schemes.{World}
use Rattle.rw_types_rules.specs.TypedTrees.{TypedNode}
use Rattle.rw_core_flat.specs.Terms.{let_term}
use Rattle.rw_core_flat.specs.Programs.{FlatFunction}
use Rattle.specialise_rules.specs.Instances.{Instance, declared_in}
use Rattle.specialise_laws.proofs.Seeing.{sees_once}
use Rattle.inline_ho_rules.specs.Meants.{no_meants, flats, first_meants, later_meants}
use Rattle.inline_ho_rules.specs.TypedFlattening.{typed_binding, patterns_before, IsBody, IsTypedFlat}
use Rattle.inline_ho_rules.specs.TypedPrograms.{Origin, whole, part, numbered_system, IsOfType, declared_place, origins, function_of, clauses_of, number_of, program, IsOf, IsOfDeclaration, IsOfPart, AreOf, first_declared, start_body, IsFlatOf}
use Rattle.inline_ho_laws.proofs.Once.{flat_once, body_once, placed_once}

-- == Functions ==

some_once : {A : Type 0} (x : Option A) (a b : A) → x ≡ Some a → x ≡ Some b → a ≡ b
some_once x a b e h = cc

same_function : (f g : FlatFunction) → f.name ≡ g.name → f.place ≡ g.place → f.kind ≡ g.kind → f.params ≡ g.params → f.result ≡ g.result → f.body ≡ g.body → f ≡ g
same_function f g n p k ps r b = λ i. record { name = n i; place = p i; kind = k i; params = ps i; result = r i; body = b i }

first_same : {A B : Type 0} (a c : A) (b d : B) → ◌≡◌ {A = A × B} (a, b) (c, d) → a ≡ c
first_same a c b d e = ap (λ z. z.0) e

second_same : {A B : Type 0} (a c : A) (b d : B) → ◌≡◌ {A = A × B} (a, b) (c, d) → b ≡ d
second_same a c b d e = ap (λ z. z.1) e

module _ (world : World) (typed : List (Declaration TypedNode)) (instances : List Instance) (table : List Ty) (start : Body TypedNode) (place : Place) where
  abbrev fo : ℕ → List Ty → Option ℕ
  fo = function_of world typed instances table start place

  abbrev co : ℕ → List Ty → Option (Alternatives TypedNode)
  co = clauses_of world typed instances table start place

  abbrev no : Ty → Option ℕ
  no = number_of world typed instances table

  abbrev bare : List (Declaration Bound)
  bare = program world typed instances table start place

  typed_once : (t : Ty) (f g : FlatFunction) → IsOfType no t f → IsOfType no t g → (f.params ≡ g.params) × (f.kind ≡ g.kind) × (f.result ≡ g.result)
  typed_once t f g (p, k) (q, l) =
      let s = some_once _ (f.kind, f.result) (g.kind, g.result) k l in (some_once _ f.params g.params p q, first_same f.kind g.kind f.result g.result s, second_same f.kind g.kind f.result g.result s)

  declared_once : (x : Option (Declaration TypedNode)) (f g : FlatFunction) → IsOfDeclaration world typed instances table start place x f → IsOfDeclaration world typed instances table start place x g → f ≡ g
  declared_once None f g h k = absurd h
  declared_once (Some (import_declaration a m)) f g h k = absurd h
  declared_once (Some (data_declaration a x params constructors)) f g h k = absurd h
  declared_once (Some (fixity_declaration a side strength names)) f g h k = absurd h
  declared_once (Some (signature_declaration a names type)) f g h k = absurd h
  declared_once (Some (function_declaration a x clauses)) f g h k =
      let cs = alternative_parts clauses in
      let t = typed_once a.type f g h.2 k.2 in
      same_function f g (h.0 ∙ sym k.0) (h.1 ∙ sym k.1) t.1 t.0 t.2
      (body_once bare fo co no h.3
      (subst (λ z. IsBody bare fo co no (length z) no_meants cs (first_meants (patterns_before cs) (flats 0 (length z))) (later_meants (patterns_before cs) (flats 0 (length z))) g.body) (sym t.0) k.3))

  part_once : (n : ℕ) (e : Expression TypedNode) (f g : FlatFunction) → IsOfPart world typed instances table start place n e f → IsOfPart world typed instances table start place n e g → f.body ≡ g.body
  part_once n e f g h k =
      let p = placed_once bare fo co no h.placed k.placed in
      let t = flat_once bare fo co no h.flattened (subst₂ (λ x y. IsTypedFlat bare fo co no x y e (flats 0 n) k.term) (sym p.1) (sym p.2) k.flattened) in
      h.body ∙ (λ i. let_term (p.0 i) (t i)) ∙ sym k.body

  of_once : (o : Origin) (f g : FlatFunction) → IsOf world typed instances table start place o f → IsOf world typed instances table start place o g → f ≡ g
  of_once (whole j) f g h k = declared_once (declared_in typed j) f g h k
  of_once (part n e) f g h k =
      let t = typed_once _ f g h.2 k.2 in same_function f g (h.0 ∙ sym k.0) (h.1 ∙ sym k.1) t.1 t.0 t.2 (part_once n e f g h.3 k.3)

  all_once : (os : List Origin) (fs gs : List FlatFunction) → AreOf world typed instances table start place os fs → AreOf world typed instances table start place os gs → fs ≡ gs
  all_once [] [] [] h k = refl
  all_once [] [] (g ∷ gs) h k = absurd k
  all_once [] (f ∷ fs) gs h k = absurd h
  all_once (o ∷ os) [] gs h k = absurd h
  all_once (o ∷ os) (f ∷ fs) [] h k = absurd k
  all_once (o ∷ os) (f ∷ fs) (g ∷ gs) h k = λ i. of_once o f g h.0 k.0 i ∷ all_once os fs gs h.1 k.1 i

-- == Programs ==

pub one_program : (world : World) (typed : List (Declaration TypedNode)) (instances : List Instance) (table others : List Ty) (functions more : List FlatFunction) (system another : System ℕ ℕ)
    → IsFlatOf world typed instances table functions system → IsFlatOf world typed instances others more another → (table ≡ others) × (functions ≡ more) × (system ≡ another)
one_program world typed instances table others functions more system another h k =
    let t = sees_once h.tabled k.tabled in
    let d = some_once (first_declared typed instances) h.declared k.declared h.first k.first in
    let s = some_once (start_body h.declared) h.start k.start h.found (ap start_body d ∙ k.found) in
    let made = subst (λ z. AreOf world typed instances z k.start (declared_place k.declared) (origins world typed instances z k.start (declared_place k.declared)) more) (sym t) k.made in
    let moved = subst₂ (λ z w. AreOf world typed instances table z (declared_place w) (origins world typed instances table z (declared_place w)) more) (sym s) (sym d) made in (
      t,
      all_once world typed instances table h.start (declared_place h.declared) (origins world typed instances table h.start (declared_place h.declared)) functions more h.made moved,
      h.numbered ∙ ap (λ z. numbered_system 0 (system_of typed_binding z.expression)) s ∙ sym k.numbered,
    )
