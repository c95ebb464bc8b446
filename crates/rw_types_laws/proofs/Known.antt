-- No unknown type stands in types as written, so none in the types of names.
use Rattle.std.proofs.Common.{◌≡◌, ℕ, zero, suc, Bool, true, false, List, [], ◌∷◌, ◌++◌, map, flat_map, get_or, slice_get, codes, Option, Some, None, refl, subst}
use Rattle.std.specs.Bool.{if◌then◌else◌}
use Rattle.rw_base.specs.declared.place.Span.{Span}
use Rattle.rw_tree.specs.Types.{WrittenType, variable_type, constructor_type, applied_type, function_type, tuple_type as written_tuple, WrittenTypes, no_types, more_types}
use Rattle.rw_tree.specs.Declarations.{PlainConstructor, Declaration, import_declaration, data_declaration, fixity_declaration, signature_declaration, function_declaration}
use Rattle.rw_scope_rules.specs.declared.binding.Operation.{Operation}
use Rattle.rw_scope_rules.specs.declared.binding.Operation.TheVariants.{Return, Bind, Then, Get, Put, Lift, Signal, Extrude, Par, Refold}
use Rattle.rw_scope_rules.specs.declared.binding.Binding.{Binding}
use Rattle.rw_scope_rules.specs.declared.binding.Binding.TheVariants.{Declared, Operation as Operates, Constructor as Constructs, Local}
use Rattle.rw_scope_rules.specs.Names.{Bytes, same_name, first_named}
use Rattle.rw_types_solving.specs.Types.{Ty, var, tys}
use Rattle.rw_types_rules.specs.Words.{variables_from}
use Rattle.rw_types_rules.specs.Written.{variable_from, variable_applied, identity_applied, state_applied, device_applied, data_applied, constructor_applied, type_applied, types_of, type_of, data_types_from}
use Rattle.rw_types_rules.specs.Schemes.{Scheme, operation_scheme, signatures_in, scheme_if, declared_scheme, constructor_scheme, constructor_schemes, constructed_from, world_of, scheme_at}
use Rattle.rw_types_instances.specs.Instances.{IsKnown, AreKnown, EachIs, HasKnownSchemes}

parts_known : (ts : List Ty) → EachIs IsKnown ts → AreKnown (tys ts)
parts_known [] k = tt
parts_known (t ∷ ts) k = (k.0, parts_known ts k.1)

joined_known : (us vs : List Ty) → EachIs IsKnown us → EachIs IsKnown vs → EachIs IsKnown (us ++ vs)
joined_known [] vs k l = l
joined_known (u ∷ us) vs k l = (k.0, joined_known us vs k.1 l)

if_known : (b : Bool) (x y : Ty) → IsKnown x → IsKnown y → IsKnown (if b then x else y)
if_known true x y k l = k
if_known false x y k l = l

-- variables
variable_from_known : (n : ℕ) (x : Bytes) (ys : List Bytes) → IsKnown (variable_from n x ys)
variable_from_known n x [] = (refl, tt)
variable_from_known n x (y ∷ ys) = if_known (same_name x y) (var n) (variable_from (suc n) x ys) tt (variable_from_known (suc n) x ys)

variables_known : {A : Type 0} (n : ℕ) (xs : List A) → EachIs IsKnown (variables_from n xs)
variables_known n [] = tt
variables_known n (x ∷ xs) = (tt, variables_known (suc n) xs)

-- constructors of types
variable_known : (x : Ty) (us : List Ty) → IsKnown x → EachIs IsKnown us → IsKnown (variable_applied x us)
variable_known x [] k l = k
variable_known x (a ∷ []) k l = (refl, (k, (l.0, tt)))
variable_known x (a ∷ b ∷ us) k l = (refl, tt)

identity_known : (us : List Ty) → EachIs IsKnown us → IsKnown (identity_applied us)
identity_known [] k = (refl, tt)
identity_known (a ∷ []) k = (refl, ((refl, tt), (k.0, tt)))
identity_known (a ∷ b ∷ us) k = (refl, tt)

state_known : (us : List Ty) → EachIs IsKnown us → IsKnown (state_applied us)
state_known [] k = (refl, tt)
state_known (a ∷ []) k = (refl, tt)
state_known (a ∷ b ∷ []) k = (refl, ((refl, (k.0, tt)), (k.1.0, tt)))
state_known (a ∷ b ∷ c ∷ []) k = (refl, ((refl, ((refl, (k.0, tt)), (k.1.0, tt))), (k.1.1.0, tt)))
state_known (a ∷ b ∷ c ∷ d ∷ us) k = (refl, tt)

device_known : (us : List Ty) → EachIs IsKnown us → IsKnown (device_applied us)
device_known [] k = (refl, tt)
device_known (a ∷ []) k = (refl, tt)
device_known (a ∷ b ∷ []) k = (refl, tt)
device_known (a ∷ b ∷ c ∷ []) k = (refl, ((refl, (k.0, (k.1.0, tt))), (k.1.1.0, tt)))
device_known (a ∷ b ∷ c ∷ d ∷ []) k = (refl, ((refl, ((refl, (k.0, (k.1.0, tt))), (k.1.1.0, tt))), (k.1.1.1.0, tt)))
device_known (a ∷ b ∷ c ∷ d ∷ e ∷ us) k = (refl, tt)

data_known : (o : Option ℕ) (us : List Ty) → EachIs IsKnown us → IsKnown (data_applied o us)
data_known None us k = (refl, tt)
data_known (Some n) us k = (refl, parts_known us k)

pub constructor_known : (types : List (Bytes × ℕ)) (c : Bytes) (us : List Ty) → EachIs IsKnown us → IsKnown (constructor_applied types c us)
constructor_known types c us k =
    if_known (same_name c (codes "I")) (identity_applied us) _ (identity_known us k)
    (if_known (same_name c (codes "StateT")) (state_applied us) _ (state_known us k)
    (if_known (same_name c (codes "ReT")) (device_applied us) (data_applied (first_named c types) us) (device_known us k) (data_known (first_named c types) us k)))

module _ (types : List (Bytes × ℕ)) (variables : List Bytes) where
  mutual
    applied_known : (tree : WrittenType) (us : List Ty) → EachIs IsKnown us → IsKnown (type_applied types variables tree us)
    applied_known (variable_type x) us k = variable_known (variable_from 0 x variables) us (variable_from_known 0 x variables) k
    applied_known (constructor_type c) us k = constructor_known types c us k
    applied_known (applied_type head parts) us k = applied_known head (types_of types variables parts ++ us) (joined_known (types_of types variables parts) us (all_known parts) k)
    applied_known (function_type from to) us k = (refl, (applied_known from [] tt, (applied_known to [] tt, tt)))
    applied_known (written_tuple parts) us k = (refl, parts_known (types_of types variables parts) (all_known parts))

    all_known : (trees : WrittenTypes) → EachIs IsKnown (types_of types variables trees)
    all_known no_types = tt
    all_known (more_types tree trees) = (applied_known tree [] tt, all_known trees)

  pub written_known : (tree : WrittenType) → IsKnown (type_of types variables tree)
  written_known tree = applied_known tree [] tt

  fields_known : (trees : List WrittenType) → EachIs IsKnown (map (type_of types variables) trees)
  fields_known [] = tt
  fields_known (tree ∷ trees) = (written_known tree, fields_known trees)

-- schemes
abbrev IsKnownScheme : Option Scheme → Type 0
IsKnownScheme None = Unit {0}
IsKnownScheme (Some s) = EachIs IsKnown s.takes × IsKnown s.gives

operation_known : (o : Operation) → IsKnownScheme (Some (operation_scheme o))
operation_known Return = ((tt, tt), (refl, (tt, (tt, tt))))
operation_known Bind = (((refl, (tt, (tt, tt))), ((refl, (tt, ((refl, (tt, (tt, tt))), tt))), tt)), (refl, (tt, (tt, tt))))
operation_known Then = (((refl, (tt, (tt, tt))), ((refl, (tt, (tt, tt))), tt)), (refl, (tt, (tt, tt))))
operation_known Get = (tt, (refl, ((refl, ((refl, (tt, tt)), (tt, tt))), (tt, tt))))
operation_known Put = ((tt, tt), (refl, ((refl, ((refl, (tt, tt)), (tt, tt))), ((refl, tt), tt))))
operation_known Lift = (((refl, (tt, (tt, tt))), tt), (refl, ((refl, (tt, (tt, tt))), (tt, tt))))
operation_known Signal = ((tt, tt), (refl, ((refl, ((refl, (tt, (tt, tt))), (tt, tt))), (tt, tt))))
operation_known Extrude = (
  ((refl, ((refl, ((refl, (tt, (tt, tt))), ((refl, ((refl, (tt, tt)), (tt, tt))), tt))), (tt, tt))), (tt, tt)),
  (refl, ((refl, ((refl, (tt, (tt, tt))), (tt, tt))), (tt, tt))),
)
operation_known Par = (
  (
    (refl, ((refl, ((refl, (tt, (tt, tt))), ((refl, tt), tt))), ((refl, tt), tt))),
    ((refl, ((refl, ((refl, (tt, (tt, tt))), ((refl, tt), tt))), ((refl, tt), tt))), tt),
  ),
  (refl, ((refl, ((refl, ((refl, (tt, (tt, tt))), ((refl, (tt, (tt, tt))), tt))), ((refl, tt), tt))), ((refl, tt), tt))),
)
operation_known Refold = (
  (
    (refl, (tt, (tt, tt))),
    (
      (refl, (tt, ((refl, (tt, (tt, tt))), tt))),
      ((refl, ((refl, ((refl, (tt, (tt, tt))), ((refl, tt), tt))), ((refl, tt), tt))), tt),
    ),
  ),
  (refl, ((refl, ((refl, (tt, (tt, tt))), ((refl, tt), tt))), ((refl, tt), tt))),
)

module _ (decls : List (Declaration Span)) where
  signature_known : (o : Option WrittenType) → IsKnownScheme (scheme_if decls o)
  signature_known None = tt
  signature_known (Some type) = (tt, written_known (data_types_from 0 decls) _ type)

  declared_known : (d : Declaration Span) → IsKnownScheme (declared_scheme decls d)
  declared_known (import_declaration a m) = tt
  declared_known (data_declaration a x params constructors) = tt
  declared_known (fixity_declaration a side strength names) = tt
  declared_known (signature_declaration a names type) = tt
  declared_known (function_declaration a x clauses) = signature_known (first_named x (flat_map signatures_in decls))

  all_declared_known : (ds : List (Declaration Span)) (n : ℕ) → IsKnownScheme (get_or (map (declared_scheme decls) ds) n None)
  all_declared_known [] n = tt
  all_declared_known (d ∷ ds) zero = declared_known d
  all_declared_known (d ∷ ds) (suc n) = all_declared_known ds n

module _ (types : List (Bytes × ℕ)) where
  made_known : (n : ℕ) (params : List Bytes) (made : PlainConstructor) → IsKnownScheme (Some (constructor_scheme types n params made))
  made_known n params made = (fields_known types params made.field_types, (refl, parts_known (variables_from 0 params) (variables_known 0 params)))

  all_made_known : (n : ℕ) (params : List Bytes) (all : List PlainConstructor) (place : ℕ) → IsKnownScheme (slice_get (map (constructor_scheme types n params) all) place)
  all_made_known n params [] place = tt
  all_made_known n params (made ∷ all) zero = made_known n params made
  all_made_known n params (made ∷ all) (suc place) = all_made_known n params all place

  constructors_known : (n : ℕ) (d : Declaration Span) (place : ℕ) → IsKnownScheme (slice_get (constructor_schemes types n d) place)
  constructors_known n (import_declaration a m) place = tt
  constructors_known n (data_declaration a x params constructors) place = all_made_known n params constructors place
  constructors_known n (fixity_declaration a side strength names) place = tt
  constructors_known n (signature_declaration a names type) place = tt
  constructors_known n (function_declaration a x clauses) place = tt

  all_constructors_known : (ds : List (Declaration Span)) (n i place : ℕ) → IsKnownScheme (slice_get (get_or (constructed_from types n ds) i []) place)
  all_constructors_known [] n i place = tt
  all_constructors_known (d ∷ ds) n zero place = constructors_known n d place
  all_constructors_known (d ∷ ds) n (suc i) place = all_constructors_known ds (suc n) i place

name_known : (decls : List (Declaration Span)) (b : Option Binding) → IsKnownScheme (scheme_at (world_of decls) b)
name_known decls None = tt
name_known decls (Some (Declared n)) = all_declared_known decls decls n
name_known decls (Some (Operates o)) = operation_known o
name_known decls (Some (Constructs n place)) = all_constructors_known (data_types_from 0 decls) decls 0 n place
name_known decls (Some (Local k)) = tt

pub schemes_known : (decls : List (Declaration Span)) → HasKnownSchemes (world_of decls)
schemes_known decls b s e = subst IsKnownScheme e (name_known decls b)
