-- The rules on types as they are written, E10 and E11: kinds, and data types that are recursive or empty
-- (Haskell 2010 Report, sections 4.1, 4.2.1 and 4.6).
use Rattle.std.specs.Prelude.{ℕ, zero, suc, List, [], ◌∷◌, ◌++◌, map, flat_map, length, Bool, true, false, not, ◌&&◌, ◌||◌, Option, Some, None, codes, if◌then◌else◌}
use Rattle.std.specs.List.{list_all}
use Rattle.rw_base.specs.declared.place.Place.{Place}
use Rattle.rw_base.specs.declared.place.Span.{Span}
use Rattle.rw_tree.specs.declared.types.Kind.{Kind}
use Rattle.rw_tree.specs.declared.types.Kind.TheVariants.{Plain, StateMonad, Monad}
use Rattle.rw_tree.specs.Types.{WrittenType, variable_type, constructor_type, applied_type, function_type, tuple_type, WrittenTypes, no_types, more_types}
use Rattle.rw_tree.specs.Trees.{local_signature}
use Rattle.rw_tree.specs.Declarations.{PlainConstructor, Declaration, data_declaration, signature_declaration, PlainProgram}
use Rattle.rw_scope_rules.specs.Names.{Bytes, same_name, is_among, first_named, at_if}
use Rattle.rw_scope_rules.specs.Nodes.{Node, binding_node, program_nodes}
use Rattle.rw_scope_rules.specs.Scope.{type_constructors, type_variables, fields_of}

-- == E10: kinds ==

-- the kinds that a type's variables are used at; None where the type is of a wrong kind
abbrev pub Uses : Type 0
Uses = Option (List (Bytes × Kind))

abbrev pub both : Uses → Uses → Uses
both None vs = None
both (Some us) None = None
both (Some us) (Some vs) = Some (us ++ vs)

-- arguments, each by what it is at a kind, at these kinds: there are as many of these
abbrev pub at_kinds : List (Kind → Uses) → List Kind → Uses
at_kinds [] [] = Some []
at_kinds (t ∷ ts) (k ∷ ks) = both (t k) (at_kinds ts ks)
at_kinds _ _ = None

-- the parts of a tuple are types
abbrev pub all_plain : List (Kind → Uses) → Uses
all_plain [] = Some []
all_plain (t ∷ ts) = both (t Plain) (all_plain ts)

-- a variable alone is a type or a state monad; applied to one type it is a monad
abbrev pub variable_uses : Bytes → List (Kind → Uses) → Kind → Uses
variable_uses x [] Plain = Some ((x, Plain) ∷ [])
variable_uses x [] StateMonad = Some ((x, StateMonad) ∷ [])
variable_uses x (t ∷ []) Plain = both (Some ((x, Monad) ∷ [])) (t Plain)
variable_uses x _ _ = None

-- a constructor of types takes arguments of these kinds, or is none of the asked kind
abbrev pub constructor_uses : Option (List Kind) → List (Kind → Uses) → Uses
constructor_uses None arguments = None
constructor_uses (Some kinds) arguments = at_kinds arguments kinds

-- what is applied to nothing and is asked to be a type
abbrev pub whole_type : List (Kind → Uses) → Kind → Uses → Uses
whole_type [] Plain uses = uses
whole_type _ _ uses = None

-- over the kinds of the arguments that a constructor takes to be of a kind, and over whether an arrow may stand here
module _ (takes : Bytes → Kind → Option (List Kind)) (arrows : Bool) where
  -- a type, applied to these arguments, at a kind
  abbrev mutual
    pub uses_of : WrittenType → List (Kind → Uses) → Kind → Uses
    uses_of (variable_type x) arguments kind = variable_uses x arguments kind
    uses_of (constructor_type c) arguments kind = constructor_uses (takes c kind) arguments
    uses_of (applied_type head parts) arguments kind = uses_of head (parts_uses parts ++ arguments) kind
    uses_of (function_type from to) arguments kind =
        if arrows then whole_type arguments kind (both (uses_of from [] Plain) (uses_of to [] Plain)) else None
    uses_of (tuple_type parts) arguments kind = whole_type arguments kind (all_plain (parts_uses parts))

    pub parts_uses : WrittenTypes → List (Kind → Uses)
    parts_uses no_types = []
    parts_uses (more_types t ts) = (λ kind. uses_of t [] kind) ∷ parts_uses ts

-- a data type and the kinds of its arguments, which are types
abbrev pub data_kinds : Declaration Span → List (Bytes × List Kind)
data_kinds (data_declaration a x params constructors) = (x, map (λ p. Plain) params) ∷ []
data_kinds _ = []

-- what the monads take to be a computation, which is a type, and to be a state monad
abbrev pub computations : List (Bytes × List Kind)
computations = (codes "I", Plain ∷ []) ∷ (codes "StateT", Plain ∷ StateMonad ∷ Plain ∷ []) ∷ (codes "ReT", Plain ∷ Plain ∷ StateMonad ∷ Plain ∷ []) ∷ []

abbrev pub state_monads : List (Bytes × List Kind)
state_monads = (codes "I", []) ∷ (codes "StateT", Plain ∷ StateMonad ∷ []) ∷ []

-- what the constructor of a type takes in a signature
abbrev pub takes_in_signature : List (Declaration Span) → Bytes → Kind → Option (List Kind)
takes_in_signature decls c Plain = first_named c (computations ++ flat_map data_kinds decls)
takes_in_signature decls c StateMonad = first_named c state_monads
takes_in_signature decls c Monad = None

-- in a field: data types alone
abbrev pub takes_in_field : List (Declaration Span) → Bytes → Kind → Option (List Kind)
takes_in_field decls c Plain = first_named c (flat_map data_kinds decls)
takes_in_field decls c _ = None

-- a monad and a state monad agree: the variable is a state monad
abbrev pub kinds_agree : Kind → Kind → Bool
kinds_agree Plain Plain = true
kinds_agree Plain _ = false
kinds_agree _ Plain = false
kinds_agree _ _ = true

abbrev pub uses_agree : (Bytes × Kind) → (Bytes × Kind) → Bool
uses_agree u v = not (same_name u.0 v.0) || kinds_agree u.1 v.1

-- each variable of a signature is used at kinds that agree
abbrev pub well_used : Uses → Bool
well_used None = false
well_used (Some us) = list_all (λ u. list_all (uses_agree u) us) us

-- each variable of a field is a type
abbrev pub plainly_used : Uses → Bool
plainly_used None = false
plainly_used (Some us) = list_all (λ u. kinds_agree u.1 Plain) us

abbrev pub signature_is_kinded : List (Declaration Span) → WrittenType → Bool
signature_is_kinded decls type = well_used (uses_of (takes_in_signature decls) true type [] Plain)

abbrev pub field_is_kinded : List (Declaration Span) → WrittenType → Bool
field_is_kinded decls type = plainly_used (uses_of (takes_in_field decls) false type [] Plain)

abbrev pub misused_in_declaration : List (Declaration Span) → Declaration Span → List Place
misused_in_declaration decls (data_declaration a x params constructors) = at_if (not (list_all (field_is_kinded decls) (fields_of constructors))) a.first
misused_in_declaration decls (signature_declaration a names type) = at_if (not (signature_is_kinded decls type)) a.first
misused_in_declaration decls _ = []

abbrev pub has_none : List Bytes → Bool
has_none [] = true
has_none (x ∷ xs) = false

-- a local signature has no variable
abbrev pub misused_in_node : List (Declaration Span) → Node Span → List Place
misused_in_node decls (binding_node (local_signature a x type)) = at_if (not (has_none (type_variables type) && signature_is_kinded decls type)) a.first
misused_in_node decls _ = []

-- E10 is broken at these places: a type has a wrong kind
abbrev pub misused : PlainProgram Span → List Place
misused program =
    flat_map (misused_in_declaration program.declarations) program.declarations ++ flat_map (misused_in_node program.declarations) (program_nodes program)

-- == E11: data types have constructors, and are not recursive ==

-- a data type and the types that its fields mention, in an argument too
abbrev pub data_mentions : Declaration Span → List (Bytes × List Bytes)
data_mentions (data_declaration a x params constructors) = (x, flat_map type_constructors (fields_of constructors)) ∷ []
data_mentions _ = []

abbrev pub mentioned_by : List (Bytes × List Bytes) → Bytes → List Bytes
mentioned_by data_types x = or_none (first_named x data_types)
  where
    or_none : Option (List Bytes) → List Bytes
    or_none None = []
    or_none (Some names) = names

-- these, and what they mention, and what that mentions, so many times
abbrev pub reached : List (Bytes × List Bytes) → ℕ → List Bytes → List Bytes
reached data_types zero names = names
reached data_types (suc n) names = names ++ reached data_types n (flat_map (mentioned_by data_types) names)

-- a data type mentions itself, or what it mentions leads to it: a way without a repetition is no longer than there are data types
abbrev pub is_recursive : List (Bytes × List Bytes) → Bytes → Bool
is_recursive data_types x = is_among x (reached data_types (length data_types) (mentioned_by data_types x))

abbrev pub is_empty : List PlainConstructor → Bool
is_empty [] = true
is_empty (c ∷ cs) = false

abbrev pub ill_founded : List (Bytes × List Bytes) → Declaration Span → List Place
ill_founded data_types (data_declaration a x params constructors) = at_if (is_empty constructors || is_recursive data_types x) a.first
ill_founded data_types _ = []

-- E11 is broken at these places
abbrev pub recursive_or_empty : PlainProgram Span → List Place
recursive_or_empty program = flat_map (ill_founded (flat_map data_mentions program.declarations)) program.declarations
