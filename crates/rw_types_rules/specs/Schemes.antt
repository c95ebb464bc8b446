-- The types of names at top level, with variables: of operations, of constructors, and of declared functions by their signatures.
use Rattle.std.specs.Prelude.{ℕ, suc, List, [], ◌∷◌, map, flat_map, get_or, slice_get, Option, Some, None, codes}
use Rattle.rw_base.specs.declared.place.Span.{Span}
use Rattle.rw_scope_rules.specs.declared.binding.Operation.{Operation}
use Rattle.rw_scope_rules.specs.declared.binding.Operation.TheVariants.{Return, Bind, Then, Get, Put, Lift, Signal, Extrude, Par, Refold}
use Rattle.rw_scope_rules.specs.declared.binding.Binding.{Binding}
use Rattle.rw_scope_rules.specs.declared.binding.Binding.TheVariants.{Declared, Operation as Operates, Constructor as Constructs}
use Rattle.rw_tree.specs.Types.{WrittenType}
use Rattle.rw_tree.specs.Declarations.{PlainConstructor, Declaration, data_declaration, signature_declaration, function_declaration}
use Rattle.rw_scope_rules.specs.Names.{Bytes, first_named}
use Rattle.rw_types_solving.specs.Types.{Ty, var}
use Rattle.rw_types_rules.specs.declared.kind.VariableKind.{VariableKind}
use Rattle.rw_types_rules.specs.declared.kind.VariableKind.TheVariants.{Plain, Monad, StateMonad, Layer}
use Rattle.rw_types_rules.specs.Words.{function, functions, tuple_type, unit_type, data_type, computation, identity, state, device, over, variables_from}
use Rattle.rw_types_rules.specs.Written.{data_types_from, constructor_applied, type_of, signature_variables, signature_kinds}

-- the type of a name: its variables by their kinds, what it takes, and what it gives. For a constructor it takes its fields
pub record Scheme : Type 0 where
  pub kinds : List VariableKind
  pub takes : List Ty
  pub gives : Ty

abbrev pub scheme_type : Scheme → Ty
scheme_type s = functions s.takes s.gives

-- == Operations ==

-- in each, the variables are numbered in order of first sight
abbrev pub operation_scheme : Operation → Scheme
-- return :: a -> n a
operation_scheme Return = record { kinds = Plain ∷ Monad ∷ []; takes = var 0 ∷ []; gives = computation (var 1) (var 0) }
-- (>>=) :: n a -> (a -> n b) -> n b
operation_scheme Bind = record {
  kinds = Monad ∷ Plain ∷ Plain ∷ [];
  takes = computation (var 0) (var 1) ∷ function (var 1) (computation (var 0) (var 2)) ∷ [];
  gives = computation (var 0) (var 2);
}
-- (>>) :: n a -> n b -> n b
operation_scheme Then = record {
  kinds = Monad ∷ Plain ∷ Plain ∷ [];
  takes = computation (var 0) (var 1) ∷ computation (var 0) (var 2) ∷ [];
  gives = computation (var 0) (var 2);
}
-- get :: StateT s m s
operation_scheme Get = record { kinds = Plain ∷ StateMonad ∷ []; takes = []; gives = computation (state (var 0) (var 1)) (var 0) }
-- put :: s -> StateT s m ()
operation_scheme Put = record { kinds = Plain ∷ StateMonad ∷ []; takes = var 0 ∷ []; gives = computation (state (var 0) (var 1)) unit_type }
-- lift :: m a -> t m a
operation_scheme Lift = record {
  kinds = StateMonad ∷ Plain ∷ Layer ∷ [];
  takes = computation (var 0) (var 1) ∷ [];
  gives = computation (over (var 2) (var 0)) (var 1);
}
-- signal :: o -> ReT i o m i
operation_scheme Signal = record {
  kinds = Plain ∷ Plain ∷ StateMonad ∷ [];
  takes = var 0 ∷ [];
  gives = computation (device (var 1) (var 0) (var 2)) (var 1);
}
-- extrude :: ReT i o (StateT s m) a -> s -> ReT i o m a
operation_scheme Extrude = record {
  kinds = Plain ∷ Plain ∷ Plain ∷ StateMonad ∷ Plain ∷ [];
  takes = computation (device (var 0) (var 1) (state (var 2) (var 3))) (var 4) ∷ var 2 ∷ [];
  gives = computation (device (var 0) (var 1) (var 3)) (var 4);
}
-- par :: ReT i o I () -> ReT j p I () -> ReT (i, j) (o, p) I ()
operation_scheme Par = record {
  kinds = Plain ∷ Plain ∷ Plain ∷ Plain ∷ [];
  takes = computation (device (var 0) (var 1) identity) unit_type ∷ computation (device (var 2) (var 3) identity) unit_type ∷ [];
  gives = computation (device (tuple_type (var 0 ∷ var 2 ∷ [])) (tuple_type (var 1 ∷ var 3 ∷ [])) identity) unit_type;
}
-- refold :: (o -> p) -> (o -> j -> i) -> ReT i o I () -> ReT j p I ()
operation_scheme Refold = record {
  kinds = Plain ∷ Plain ∷ Plain ∷ Plain ∷ [];
  takes = function (var 0) (var 1) ∷ function (var 0) (function (var 2) (var 3)) ∷ computation (device (var 3) (var 0) identity) unit_type ∷ [];
  gives = computation (device (var 2) (var 1) identity) unit_type;
}

-- == Declarations ==

-- what the names of a program's types, functions and constructors are, by the numbers of their declarations
pub record World : Type 0 where
  pub types : List (Bytes × ℕ)
  pub declared : List (Option Scheme)
  pub constructed : List (List Scheme)

-- a signature's type is that of the name, whatever it takes
abbrev pub signature_scheme : List (Declaration Span) → WrittenType → Scheme
signature_scheme decls type =
    record { kinds = signature_kinds decls type; takes = []; gives = type_of (data_types_from 0 decls) (signature_variables type) type }

abbrev pub signatures_in : Declaration Span → List (Bytes × WrittenType)
signatures_in (signature_declaration a names type) = map (λ x. (x, type)) names
signatures_in _ = []

abbrev pub scheme_if : List (Declaration Span) → Option WrittenType → Option Scheme
scheme_if decls None = None
scheme_if decls (Some type) = Some (signature_scheme decls type)

-- a declared function is of the type of its signature
abbrev pub declared_scheme : List (Declaration Span) → Declaration Span → Option Scheme
declared_scheme decls (function_declaration a x clauses) = scheme_if decls (first_named x (flat_map signatures_in decls))
declared_scheme decls _ = None

-- a constructor takes its fields and gives its data type, at the variables of the data type's head
abbrev pub constructor_scheme : List (Bytes × ℕ) → ℕ → List Bytes → PlainConstructor → Scheme
constructor_scheme types n params made =
    record { kinds = map (λ p. Plain) params; takes = map (type_of types params) made.field_types; gives = data_type n (variables_from 0 params) }

abbrev pub constructor_schemes : List (Bytes × ℕ) → ℕ → Declaration Span → List Scheme
constructor_schemes types n (data_declaration a x params constructors) = map (constructor_scheme types n params) constructors
constructor_schemes types n _ = []

abbrev pub constructed_from : List (Bytes × ℕ) → ℕ → List (Declaration Span) → List (List Scheme)
constructed_from types n [] = []
constructed_from types n (d ∷ ds) = constructor_schemes types n d ∷ constructed_from types (suc n) ds

abbrev pub world_of : List (Declaration Span) → World
world_of decls = record {
  types = data_types_from 0 decls;
  declared = map (declared_scheme decls) decls;
  constructed = constructed_from (data_types_from 0 decls) 0 decls;
}

-- the data type of that name which the prelude declares
abbrev pub bool_type : World → Ty
bool_type world = constructor_applied world.types (codes "Bool") []

-- what a name that is bound to this has for a type; a local name has one type, and none with variables
abbrev pub scheme_at : World → Option Binding → Option Scheme
scheme_at world (Some (Declared n)) = get_or world.declared n None
scheme_at world (Some (Operates o)) = Some (operation_scheme o)
scheme_at world (Some (Constructs n place)) = slice_get (get_or world.constructed n []) place
scheme_at world _ = None
