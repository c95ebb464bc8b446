-- What a type as written stands for, and the variables of a signature with their kinds (Haskell 2010 Report, sections 4.1.2 and 4.1.3).
use Rattle.std.specs.Prelude.{ℕ, suc, true, List, [], ◌∷◌, ◌++◌, map, Option, Some, None, codes, if◌then◌else◌}
use Rattle.rw_base.specs.declared.place.Span.{Span}
use Rattle.rw_tree.specs.declared.types.Kind.{Kind}
use Rattle.rw_tree.specs.declared.types.Kind.TheVariants as k
use Rattle.rw_tree.specs.Types.{WrittenType, variable_type, constructor_type, applied_type, function_type, tuple_type as written_tuple, WrittenTypes, no_types, more_types}
use Rattle.rw_tree.specs.Declarations.{Declaration, data_declaration}
use Rattle.rw_scope_rules.specs.Names.{Bytes, same_name, is_among, first_named}
use Rattle.rw_scope_rules.specs.Scope.{type_variables}
use Rattle.rw_scope_rules.specs.Kinds.{Uses, uses_of, takes_in_signature}
use Rattle.rw_types_solving.specs.Types.{Ty, var}
use Rattle.rw_types_rules.specs.declared.kind.VariableKind.{VariableKind}
use Rattle.rw_types_rules.specs.declared.kind.VariableKind.TheVariants as v
use Rattle.rw_types_rules.specs.Words.{function, tuple_type, unit_type, data_type, computation, identity, state, device}

-- == Names ==

-- the numbers of the data types that these declarations declare, which are numbered from n on
abbrev pub data_types_from : ℕ → List (Declaration Span) → List (Bytes × ℕ)
data_types_from n [] = []
data_types_from n (data_declaration a x params constructors ∷ ds) = (x, n) ∷ data_types_from (suc n) ds
data_types_from n (_ ∷ ds) = data_types_from (suc n) ds

-- the variable of this name, where the variables are these, numbered from n on. One that is none of them breaks E08 or E10 before it is typed
abbrev pub variable_from : ℕ → Bytes → List Bytes → Ty
variable_from n x [] = unit_type
variable_from n x (y ∷ ys) = if same_name x y then var n else variable_from (suc n) x ys

-- each name of a list once, in the order in which it is first seen; those that were seen before are left out
abbrev pub first_sights : List Bytes → List Bytes → List Bytes
first_sights seen [] = []
first_sights seen (x ∷ xs) = if is_among x seen then first_sights seen xs else x ∷ first_sights (x ∷ seen) xs

-- == Types as written ==

-- A type of a wrong kind breaks E10 before it is typed: what it is here is of no account.

-- a variable is a type or a state monad; applied to a type it is a monad
abbrev pub variable_applied : Ty → List Ty → Ty
variable_applied x [] = x
variable_applied x (a ∷ []) = computation x a
variable_applied x _ = unit_type

-- `I`, `StateT` and `ReT` as monads, and with one argument more as computations
abbrev pub identity_applied : List Ty → Ty
identity_applied (a ∷ []) = computation identity a
identity_applied _ = identity

abbrev pub state_applied : List Ty → Ty
state_applied (s ∷ m ∷ []) = state s m
state_applied (s ∷ m ∷ a ∷ []) = computation (state s m) a
state_applied _ = unit_type

abbrev pub device_applied : List Ty → Ty
device_applied (i ∷ o ∷ m ∷ []) = device i o m
device_applied (i ∷ o ∷ m ∷ a ∷ []) = computation (device i o m) a
device_applied _ = unit_type

abbrev pub data_applied : Option ℕ → List Ty → Ty
data_applied None arguments = unit_type
data_applied (Some n) arguments = data_type n arguments

-- the constructor of types with this name, where the data types are these
abbrev pub constructor_applied : List (Bytes × ℕ) → Bytes → List Ty → Ty
constructor_applied types c arguments =
    if same_name c (codes "I") then identity_applied arguments
    else (if same_name c (codes "StateT") then state_applied arguments
    else (if same_name c (codes "ReT") then device_applied arguments
    else data_applied (first_named c types) arguments))

module _ (types : List (Bytes × ℕ)) (variables : List Bytes) where
  -- a type as written, applied to these arguments; its variables are numbered as they stand in the list
  abbrev mutual
    pub type_applied : WrittenType → List Ty → Ty
    type_applied (variable_type x) arguments = variable_applied (variable_from 0 x variables) arguments
    type_applied (constructor_type c) arguments = constructor_applied types c arguments
    type_applied (applied_type head parts) arguments = type_applied head (types_of parts ++ arguments)
    type_applied (function_type from to) arguments = function (type_applied from []) (type_applied to [])
    type_applied (written_tuple parts) arguments = tuple_type (types_of parts)

    pub types_of : WrittenTypes → List Ty
    types_of no_types = []
    types_of (more_types t ts) = type_applied t [] ∷ types_of ts

  abbrev pub type_of : WrittenType → Ty
  type_of t = type_applied t []

-- == The variables of a signature ==

-- in order of first sight
abbrev pub signature_variables : WrittenType → List Bytes
signature_variables type = first_sights [] (type_variables type)

-- what a variable is that was taken for the one kind and stands at the other
abbrev pub joined_kind : VariableKind → Kind → VariableKind
joined_kind so_far k.Plain = so_far
joined_kind so_far k.StateMonad = v.StateMonad
joined_kind v.StateMonad k.Monad = v.StateMonad
joined_kind _ k.Monad = v.Monad

-- what a variable is that is used so: a type, a monad, or a state monad where it is used as one
abbrev pub kind_in : List (Bytes × Kind) → Bytes → VariableKind
kind_in [] x = v.Plain
kind_in (u ∷ us) x = if same_name x u.0 then joined_kind (kind_in us x) u.1 else kind_in us x

abbrev pub known_uses : Uses → List (Bytes × Kind)
known_uses None = []
known_uses (Some uses) = uses

-- the kinds of the variables of a signature, in the order of these names
abbrev pub signature_kinds : List (Declaration Span) → WrittenType → List VariableKind
signature_kinds decls type = map (kind_in (known_uses (uses_of (takes_in_signature decls) true type [] k.Plain))) (signature_variables type)
