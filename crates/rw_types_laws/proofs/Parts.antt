-- What keeps heads, schemes and written types keeps what nodes say of one another.
use Rattle.std.proofs.Common.{◌≡◌, ℕ, zero, suc, Bool, true, List, [], ◌∷◌, map, length, slice_get, Option, Some, None, refl, sym, ◌∙◌, ap}
use Rattle.std.proofs.lemmas.List.{length-map}
use Rattle.rw_scope_rules.specs.declared.binding.Binding.{Binding}
use Rattle.rw_scope_rules.specs.declared.binding.Binding.TheVariants.{Declared, Operation as Operates, Constructor as Constructs, Local}
use Rattle.rw_tree.specs.Types.{WrittenType}
use Rattle.rw_types_solving.specs.declared.term.Head.{Head}
use Rattle.rw_types_solving.specs.declared.term.Head.TheVariants as h
use Rattle.rw_types_solving.specs.Types.{Ty, Tys, app, none, more, tys, apply, apply_in}
use Rattle.rw_types_rules.specs.Words.{function, functions, tuple_type, unit_type, computation}
use Rattle.rw_types_rules.specs.Written.{type_of}
use Rattle.rw_types_rules.specs.Schemes.{Scheme, scheme_type, World, bool_type, scheme_at}
use Rattle.rw_types_rules.specs.TypedTrees.{TypedNode}
use Rattle.rw_types_rules.specs.WellTyped.{given, IsInstance, IsMatched, IsBind, IsThen, IsSigned, NameAgrees}
use Rattle.rw_types_instances.specs.Instances.{is_known}

abbrev pub each : (Ty → Ty) → Tys → Tys
each f none = none
each f (more t ts) = more (f t) (each f ts)

-- f keeps the heads of types, what is an instance of a scheme, and the types as written
pub record IsKeeping (world : World) (f : Ty → Ty) : Type 0 where
  pub heads : (h : Head) (ts : Tys) → is_known h ≡ true → f (app h ts) ≡ app h (each f ts)
  pub takes : (b : Option Binding) (s : Scheme) → scheme_at world b ≡ Some s → (arguments : List Ty) → map f (map (apply (given arguments)) s.takes) ≡ map (apply (given (map f arguments))) s.takes
  pub gives : (b : Option Binding) (s : Scheme) → scheme_at world b ≡ Some s → (arguments : List Ty) → f (apply (given arguments) s.gives) ≡ apply (given (map f arguments)) s.gives
  pub written : (tree : WrittenType) → f (type_of world.types [] tree) ≡ type_of world.types [] tree
  pub truth : f (bool_type world) ≡ bool_type world

pub apply_functions : (s : ℕ → Ty) (from : List Ty) (to : Ty) → apply s (functions from to) ≡ functions (map (apply s) from) (apply s to)
apply_functions s [] to = refl
apply_functions s (a ∷ from) to = ap (function (apply s a)) (apply_functions s from to)

tys_each : (f : Ty → Ty) (ts : List Ty) → each f (tys ts) ≡ tys (map f ts)
tys_each f [] = refl
tys_each f (t ∷ ts) = ap (more (f t)) (tys_each f ts)

module _ (world : World) (f : Ty → Ty) (k : IsKeeping world f) where
  -- what a node carries
  abbrev pub kept_node : TypedNode → TypedNode
  kept_node a = record { node = a.node; type = f a.type; arguments = map f a.arguments }

  -- words for types
  pub function_kept : (a b : Ty) → f (function a b) ≡ function (f a) (f b)
  function_kept a b = k.heads h.Fun (more a (more b none)) refl

  pub computation_kept : (a b : Ty) → f (computation a b) ≡ computation (f a) (f b)
  computation_kept a b = k.heads h.Comp (more a (more b none)) refl

  pub tuple_kept : (ts : List Ty) → f (tuple_type ts) ≡ tuple_type (map f ts)
  tuple_kept ts = k.heads h.Tuple (tys ts) refl ∙ ap (app h.Tuple) (tys_each f ts)

  pub functions_kept : (from : List Ty) (to : Ty) → f (functions from to) ≡ functions (map f from) (f to)
  functions_kept [] to = refl
  functions_kept (a ∷ from) to = function_kept a (functions from to) ∙ ap (function (f a)) (functions_kept from to)

  scheme_kept : (b : Option Binding) (s : Scheme) → scheme_at world b ≡ Some s → (arguments : List Ty) → f (apply (given arguments) (scheme_type s)) ≡ apply (given (map f arguments)) (scheme_type s)
  scheme_kept b s e arguments =
      ap f (apply_functions (given arguments) s.takes s.gives)
      ∙ functions_kept (map (apply (given arguments)) s.takes) (apply (given arguments) s.gives)
      ∙ ap (λ z. functions z (f (apply (given arguments) s.gives))) (k.takes b s e arguments)
      ∙ ap (functions (map (apply (given (map f arguments))) s.takes)) (k.gives b s e arguments)
      ∙ sym (apply_functions (given (map f arguments)) s.takes s.gives)

  -- instances
  as_many : (arguments : List Ty) (n : ℕ) → length arguments ≡ n → length (map f arguments) ≡ n
  as_many arguments n e = length-map arguments f ∙ e

  pub instance_kept : (b : Option Binding) (o : Option Scheme) → scheme_at world b ≡ o → (arguments : List Ty) (type : Ty) → IsInstance o arguments type → IsInstance o (map f arguments) (f type)
  instance_kept b None e arguments type h = absurd h
  instance_kept b (Some s) e arguments type h = (as_many arguments (length s.kinds) h.0, ap f h.1 ∙ scheme_kept b s e arguments)

  pub matched_kept : (b : Option Binding) (o : Option Scheme) → scheme_at world b ≡ o → (arguments parts : List Ty) (type : Ty) → IsMatched o arguments parts type
      → IsMatched o (map f arguments) (map f parts) (f type)
  matched_kept b None e arguments parts type h = absurd h
  matched_kept b (Some s) e arguments parts type h =
      (as_many arguments (length s.kinds) h.0, ap (map f) h.1 ∙ k.takes b s e arguments, ap f h.2 ∙ k.gives b s e arguments)

  pub bind_kept : (arguments : List Ty) (e p block : Ty) → IsBind arguments e p block → IsBind (map f arguments) (f e) (f p) (f block)
  bind_kept [] e p block h = absurd h
  bind_kept (n ∷ []) e p block h = absurd h
  bind_kept (n ∷ a ∷ []) e p block h = absurd h
  bind_kept (n ∷ a ∷ b ∷ []) e p block h = (ap f h.0 ∙ computation_kept n a, ap f h.1, ap f h.2 ∙ computation_kept n b)
  bind_kept (n ∷ a ∷ b ∷ c ∷ rest) e p block h = absurd h

  pub then_kept : (arguments : List Ty) (e block : Ty) → IsThen arguments e block → IsThen (map f arguments) (f e) (f block)
  then_kept [] e block h = absurd h
  then_kept (n ∷ []) e block h = absurd h
  then_kept (n ∷ a ∷ []) e block h = absurd h
  then_kept (n ∷ a ∷ b ∷ []) e block h = (ap f h.0 ∙ computation_kept n a, ap f h.1 ∙ computation_kept n b)
  then_kept (n ∷ a ∷ b ∷ c ∷ rest) e block h = absurd h

  -- names
  local_kept : (locals : List Ty) (i : ℕ) (type : Ty) → slice_get locals i ≡ Some type → slice_get (map f locals) i ≡ Some (f type)
  local_kept [] i type e = absurd (cc)
  local_kept (l ∷ locals) zero type e = let p : l ≡ type = cc in ap (λ z. Some (f z)) p
  local_kept (l ∷ locals) (suc i) type e = local_kept locals i type e

  pub name_kept : (locals : List Ty) (b : Option Binding) (a : TypedNode) → NameAgrees world locals b a → NameAgrees world (map f locals) b (kept_node a)
  name_kept locals None a h = absurd h
  name_kept locals (Some (Local i)) a h = local_kept locals i a.type h
  name_kept locals (Some (Declared n)) a h = instance_kept (Some (Declared n)) (scheme_at world (Some (Declared n))) refl a.arguments a.type h
  name_kept locals (Some (Operates o)) a h = instance_kept (Some (Operates o)) (scheme_at world (Some (Operates o))) refl a.arguments a.type h
  name_kept locals (Some (Constructs n place)) a h = instance_kept (Some (Constructs n place)) (scheme_at world (Some (Constructs n place))) refl a.arguments a.type h

  pub signed_kept : (locals : List Ty) (b : Option Binding) (type : Ty) → IsSigned locals b type → IsSigned (map f locals) b (f type)
  signed_kept locals None type h = tt
  signed_kept locals (Some (Local i)) type h = local_kept locals i type h
  signed_kept locals (Some (Declared n)) type h = tt
  signed_kept locals (Some (Operates o)) type h = tt
  signed_kept locals (Some (Constructs n place)) type h = tt
