-- Types in an instance are closed where its arguments are, and agree as before.
use Rattle.std.proofs.Common.{◌≡◌, ℕ, zero, suc, Bool, true, false, ◌||◌, codes, List, [], ◌∷◌, map, length, Option, Some, None, refl, sym, ◌∙◌, ap}
use Rattle.rw_scope_rules.specs.declared.binding.Binding.{Binding}
use Rattle.rw_tree.specs.Declarations.{Declaration, import_declaration, data_declaration, fixity_declaration, signature_declaration, function_declaration}
use Rattle.rw_types_solving.specs.declared.term.Head.{Head}
use Rattle.rw_types_solving.specs.declared.term.Head.TheVariants as h
use Rattle.rw_types_solving.specs.Types.{Ty, Tys, var, app, none, more, apply, apply_in, occurs, occurs_in}
use Rattle.rw_types_solving.proofs.Laws.{itself, stays}
use Rattle.rw_types_rules.specs.Words.{functions, unknown}
use Rattle.rw_types_rules.specs.Written.{type_of}
use Rattle.rw_types_rules.specs.Schemes.{Scheme, scheme_type, World, bool_type, scheme_at}
use Rattle.rw_types_rules.specs.TypedTrees.{TypedNode}
use Rattle.rw_types_rules.specs.WellTyped.{given, IsInstance, IsOwnType, DeclarationAgrees}
use Rattle.rw_types_rules.specs.Typings.{scheme_kinds, own_kinds}
use Rattle.rw_types_instances.specs.Instances.{is_known, IsKnown, AreKnown, IsClosed, AreClosed, EachIs, known_as, closed_by, closed_parts, in_instance, HasKnownSchemes, InstanceAgrees}
use Rattle.rw_types_laws.proofs.Parts.{each, IsKeeping}
use Rattle.rw_types_laws.proofs.Agreeing.{all_clauses_agree}
use Rattle.rw_types_laws.proofs.Known.{constructor_known, written_known}

pub neither : (a b : Bool) → (a || b) ≡ false → (a ≡ false) × (b ≡ false)
neither true b e = absurd (cc)
neither false b e = (refl, e)

-- a closed type stays
mutual
  pub closed_stays : (s : ℕ → Ty) (t : Ty) → IsClosed t → apply s t ≡ t
  closed_stays s (var x) c = absurd c
  closed_stays s (app h ts) c = ap (app h) (closed_parts_stay s ts c.1)

  closed_parts_stay : (s : ℕ → Ty) (ts : Tys) → AreClosed ts → apply_in s ts ≡ ts
  closed_parts_stay s none c = refl
  closed_parts_stay s (more t ts) c = λ i. more (closed_stays s t c.0 i) (closed_parts_stay s ts c.1 i)

mutual
  pub closed_is_known : (t : Ty) → IsClosed t → IsKnown t
  closed_is_known (var x) c = absurd c
  closed_is_known (app h ts) c = (c.0, closed_are_known ts c.1)

  closed_are_known : (ts : Tys) → AreClosed ts → AreKnown ts
  closed_are_known none c = tt
  closed_are_known (more t ts) c = (closed_is_known t c.0, closed_are_known ts c.1)

module _ (arguments : List Ty) where
  known_is : (h : Head) (ts : Tys) → is_known h ≡ true → known_as arguments h ts ≡ app h ts
  known_is (h.Unknown n) ts e = absurd (cc)
  known_is _ ts e = refl

  parts_are : (ts : Tys) → closed_parts arguments ts ≡ each (closed_by arguments) ts
  parts_are none = refl
  parts_are (more t ts) = ap (more (closed_by arguments t)) (parts_are ts)

  -- a known type, whose variables stand for others
  module _ (g r : ℕ → Ty) (e : (x : ℕ) → closed_by arguments (g x) ≡ r x) where
    mutual
      known_closed : (t : Ty) → IsKnown t → closed_by arguments (apply g t) ≡ apply r t
      known_closed (var x) k = e x
      known_closed (app h ts) k = known_is h (closed_parts arguments (apply_in g ts)) k.0 ∙ ap (app h) (known_parts_closed ts k.1)

      known_parts_closed : (ts : Tys) → AreKnown ts → closed_parts arguments (apply_in g ts) ≡ apply_in r ts
      known_parts_closed none k = refl
      known_parts_closed (more t ts) k = λ i. more (known_closed t k.0 i) (known_parts_closed ts k.1 i)

    all_known_closed : (ts : List Ty) → EachIs IsKnown ts → map (closed_by arguments) (map (apply g) ts) ≡ map (apply r) ts
    all_known_closed [] k = refl
    all_known_closed (t ∷ ts) k = λ i. known_closed t k.0 i ∷ all_known_closed ts k.1 i

  pub known_stays : (t : Ty) → IsKnown t → closed_by arguments t ≡ t
  known_stays t k = sym (ap (closed_by arguments) (stays t)) ∙ known_closed var var (λ x. refl) t k ∙ stays t

  -- an instance of a scheme
  given_closed : (types : List Ty) (x : ℕ) → closed_by arguments (given types x) ≡ given (map (closed_by arguments) types) x
  given_closed [] x = refl
  given_closed (t ∷ types) zero = refl
  given_closed (t ∷ types) (suc x) = given_closed types x

  keeping : (world : World) → HasKnownSchemes world → IsKeeping world (closed_by arguments)
  keeping world known = record {
    heads = λ h ts e. known_is h (closed_parts arguments ts) e ∙ ap (app h) (parts_are ts);
    takes = λ b s e types. all_known_closed (given types) (given (map (closed_by arguments) types)) (given_closed types) s.takes (known b s e).0;
    gives = λ b s e types. known_closed (given types) (given (map (closed_by arguments) types)) (given_closed types) s.gives (known b s e).1;
    written = λ tree. known_stays (type_of world.types [] tree) (written_known world.types [] tree);
    truth = known_stays (bool_type world) (constructor_known world.types (codes "Bool") [] tt);
  }

  -- the own type of a declaration becomes the instance's
  functions_known : (from : List Ty) (to : Ty) → EachIs IsKnown from → IsKnown to → IsKnown (functions from to)
  functions_known [] to k l = l
  functions_known (a ∷ from) to k l = (refl, (k.0, (functions_known from to k.1 l, tt)))

  own_closed : (world : World) → HasKnownSchemes world → (b : Option Binding) (o : Option Scheme) → scheme_at world b ≡ o → (type : Ty) → length arguments ≡ length (scheme_kinds o) → IsOwnType o type
      → IsInstance o arguments (closed_by arguments type)
  own_closed world known b None e type many h = absurd h
  own_closed world known b (Some s) e type many h = (
    many,
    ap (closed_by arguments) h ∙ known_closed unknown (given arguments) (λ x. refl) (scheme_type s) (functions_known s.takes s.gives (known b s e).0 (known b s e).1),
  )

  pub instance_agrees : (world : World) → HasKnownSchemes world → (d : Declaration TypedNode) → length arguments ≡ length (own_kinds world d) → DeclarationAgrees world d
      → InstanceAgrees world arguments (in_instance arguments d)
  instance_agrees world known (import_declaration a m) many h = ap (closed_by arguments) h
  instance_agrees world known (data_declaration a x params constructors) many h = ap (closed_by arguments) h
  instance_agrees world known (fixity_declaration a side strength names) many h = ap (closed_by arguments) h
  instance_agrees world known (signature_declaration a names type) many h = ap (closed_by arguments) h
  instance_agrees world known (function_declaration a x clauses) many h = (
    own_closed world known a.node.bound (scheme_at world a.node.bound) refl a.type many h.0,
    all_clauses_agree world (closed_by arguments) (keeping world known) a.type clauses h.1,
  )

  -- closed arguments close a type without variables
  given_is_closed : (types : List Ty) (x : ℕ) → EachIs IsClosed types → IsClosed (given types x)
  given_is_closed [] x c = (refl, tt)
  given_is_closed (t ∷ types) zero c = c.0
  given_is_closed (t ∷ types) (suc x) c = given_is_closed types x c.1

  head_closed : (h : Head) (ts : Tys) → EachIs IsClosed arguments → AreClosed ts → IsClosed (known_as arguments h ts)
  head_closed (h.Unknown n) ts c p = given_is_closed arguments n c
  head_closed h.Tuple ts c p = (refl, p)
  head_closed h.Fun ts c p = (refl, p)
  head_closed (h.Data n) ts c p = (refl, p)
  head_closed h.Comp ts c p = (refl, p)
  head_closed h.I ts c p = (refl, p)
  head_closed h.Layer ts c p = (refl, p)
  head_closed h.StateT ts c p = (refl, p)
  head_closed h.ReT ts c p = (refl, p)

  mutual
    pub is_closed : EachIs IsClosed arguments → (t : Ty) → ((x : ℕ) → occurs x t ≡ false) → IsClosed (closed_by arguments t)
    is_closed c (var x) none_there = let no : true ≡ false = sym (itself x) ∙ none_there x in absurd (cc)
    is_closed c (app h ts) none_there = head_closed h (closed_parts arguments ts) c (are_closed c ts none_there)

    are_closed : EachIs IsClosed arguments → (ts : Tys) → ((x : ℕ) → occurs_in x ts ≡ false) → AreClosed (closed_parts arguments ts)
    are_closed c none none_there = tt
    are_closed c (more t ts) none_there =
        (is_closed c t (λ x. (neither (occurs x t) (occurs_in x ts) (none_there x)).0), are_closed c ts (λ x. (neither (occurs x t) (occurs_in x ts) (none_there x)).1))
