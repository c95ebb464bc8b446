-- The rules on names, E06 to E09: where each is broken in a program (Haskell 2010 Report, sections 4.4, 4.5 and 5).
use Rattle.std.specs.Prelude.{ℕ, List, [], ◌∷◌, ◌++◌, map, flat_map, length, Bool, not, ◌&&◌, nat_eq, Option, Some, None, codes}
use Rattle.std.specs.List.{list_all}
use Rattle.rw_base.specs.declared.place.Place.{Place}
use Rattle.rw_base.specs.declared.place.Span.{Span}
use Rattle.rw_scope_rules.specs.declared.binding.Bound.{Bound}
use Rattle.rw_scope_rules.specs.declared.binding.Binding.{Binding}
use Rattle.rw_tree.specs.Types.{WrittenType, variable_type, constructor_type, applied_type, function_type, tuple_type, WrittenTypes, no_types, more_types}
use Rattle.rw_tree.specs.Patterns.{constructor_pattern}
use Rattle.rw_tree.specs.Trees.{variable, constructor, lambda, Alternative, alternative}
use Rattle.rw_tree.specs.Trees.{local_signature, local_function, LocalBindings, no_bindings, more_bindings, bind_statement}
use Rattle.rw_tree.specs.Declarations.{PlainConstructor, Declaration, import_declaration, data_declaration, fixity_declaration, signature_declaration, function_declaration, PlainProgram}
use Rattle.rw_scope_rules.specs.Names.{Bytes, is_among, at_if, repeated}
use Rattle.rw_scope_rules.specs.Nodes.{Node, expression_node, pattern_node, clause_node, group_node, binding_node, statement_node, program_nodes, clauses_of}
use Rattle.rw_scope_rules.specs.Bindings.{operations, pattern_variables, row_variables, group_variables, names_of, bound_program}

-- == What all rules speak of ==

-- the name of each, with the span of its declaration
abbrev pub spread : Span → List Bytes → List (Bytes × Span)
spread a names = map (λ x. (x, a)) names

-- the functions and variables that a declaration binds: the span begins at its first clause
abbrev pub functions_at : Declaration Span → List (Bytes × Span)
functions_at (function_declaration a x clauses) = (x, a) ∷ []
functions_at _ = []

abbrev pub types_at : Declaration Span → List (Bytes × Span)
types_at (data_declaration a x params constructors) = (x, a) ∷ []
types_at _ = []

abbrev pub constructors_at : Declaration Span → List (Bytes × Span)
constructors_at (data_declaration a x params constructors) = spread a (map (λ c. c.constructor_name) constructors)
constructors_at _ = []

abbrev pub signatures_at : Declaration Span → List (Bytes × Span)
signatures_at (signature_declaration a names type) = spread a names
signatures_at _ = []

abbrev pub fixities_at : Declaration Span → List (Bytes × Span)
fixities_at (fixity_declaration a side strength names) = spread a names
fixities_at _ = []

-- the names that the language has without a declaration
abbrev pub operation_names : List Bytes
operation_names = map (λ o. o.0) operations

abbrev pub monad_names : List Bytes
monad_names = codes "I" ∷ codes "ReT" ∷ codes "StateT" ∷ []

-- == E06: imports ==

abbrev pub known_modules : List Bytes
known_modules = codes "ReWire" ∷ codes "Prelude" ∷ []

abbrev pub unknown_module : Declaration Span → List Place
unknown_module (import_declaration a m) = at_if (not (is_among m known_modules)) a.first
unknown_module _ = []

-- E06 is broken at these places: another module is imported
abbrev pub unknown_modules : PlainProgram Span → List Place
unknown_modules program = flat_map unknown_module program.declarations

-- == E07: one declaration for a name ==

-- one variable twice in the head of a data type
abbrev pub repeated_in_head : Declaration Span → List Place
repeated_in_head (data_declaration a x params constructors) = repeated [] (spread a params)
repeated_in_head _ = []

-- at top level: variables, types, constructors, signatures and fixities, each apart from the others
abbrev pub repeated_at_top : List (Declaration Span) → List Place
repeated_at_top decls =
    repeated operation_names (flat_map functions_at decls)
    ++ (repeated monad_names (flat_map types_at decls)
    ++ (repeated [] (flat_map constructors_at decls)
    ++ (repeated [] (flat_map signatures_at decls)
    ++ (repeated [] (flat_map fixities_at decls)
    ++ flat_map repeated_in_head decls))))

-- the signatures of a group
abbrev pub group_signatures : LocalBindings Span → List (Bytes × Span)
group_signatures no_bindings = []
group_signatures (more_bindings (local_signature a x type) bs) = (x, a) ∷ group_signatures bs
group_signatures (more_bindings _ bs) = group_signatures bs

-- one variable twice in the patterns of one clause, alternative, lambda or statement; one name, or two signatures for one name, in one group
abbrev pub repeated_in_node : Node Span → List Place
repeated_in_node (clause_node (alternative a pats side wheres)) = repeated [] (row_variables pats)
repeated_in_node (expression_node (lambda a pats body)) = repeated [] (row_variables pats)
repeated_in_node (statement_node (bind_statement a p e)) = repeated [] (pattern_variables p)
repeated_in_node (group_node group) = repeated [] (group_variables group) ++ repeated [] (group_signatures group)
repeated_in_node _ = []

-- E07 is broken at these places: a name is declared that was declared before
abbrev pub declared_twice : PlainProgram Span → List Place
declared_twice program = repeated_at_top program.declarations ++ flat_map repeated_in_node (program_nodes program)

-- == E08: every name is bound ==

-- the type constructors and the type variables of a type, from left to right
abbrev mutual
  pub type_constructors : WrittenType → List Bytes
  type_constructors (variable_type x) = []
  type_constructors (constructor_type c) = c ∷ []
  type_constructors (applied_type head parts) = type_constructors head ++ types_constructors parts
  type_constructors (function_type from to) = type_constructors from ++ type_constructors to
  type_constructors (tuple_type parts) = types_constructors parts

  pub types_constructors : WrittenTypes → List Bytes
  types_constructors no_types = []
  types_constructors (more_types t ts) = type_constructors t ++ types_constructors ts

abbrev mutual
  pub type_variables : WrittenType → List Bytes
  type_variables (variable_type x) = x ∷ []
  type_variables (constructor_type c) = []
  type_variables (applied_type head parts) = type_variables head ++ types_variables parts
  type_variables (function_type from to) = type_variables from ++ type_variables to
  type_variables (tuple_type parts) = types_variables parts

  pub types_variables : WrittenTypes → List Bytes
  types_variables no_types = []
  types_variables (more_types t ts) = type_variables t ++ types_variables ts

-- the types of all fields
abbrev pub fields_of : List PlainConstructor → List WrittenType
fields_of constructors = flat_map (λ c. c.field_types) constructors

-- each of these names is one of those
abbrev pub are_among : List Bytes → List Bytes → Bool
are_among names known = list_all (λ x. is_among x known) names

abbrev pub type_names : List (Declaration Span) → List Bytes
type_names decls = monad_names ++ names_of (flat_map types_at decls)

-- the names that an operator of a fixity declaration may be
abbrev pub operator_names : List (Declaration Span) → List Bytes
operator_names decls = operation_names ++ (names_of (flat_map functions_at decls) ++ names_of (flat_map constructors_at decls))

-- in a data type: the types of its fields, and their variables, which the head binds; in a signature: its types; in a fixity declaration: its operators
abbrev pub unbound_in_declaration : List Bytes → List Bytes → Declaration Span → List Place
unbound_in_declaration types operators (data_declaration a x params constructors) =
    at_if (not (are_among (flat_map type_constructors (fields_of constructors)) types && are_among (flat_map type_variables (fields_of constructors)) params)) a.first
unbound_in_declaration types operators (signature_declaration a names type) = at_if (not (are_among (type_constructors type) types)) a.first
unbound_in_declaration types operators (fixity_declaration a side strength names) = at_if (not (are_among names operators)) a.first
unbound_in_declaration types operators _ = []

-- the place of a node that names something, where that is bound to nothing
abbrev pub bound_to_nothing : Bound → Option Binding → List Place
bound_to_nothing a None = a.span.first ∷ []
bound_to_nothing a (Some binding) = []

-- in a bound tree: a variable, an operator or a constructor, in a pattern too; and the types of a local signature
abbrev pub unbound_in_node : List Bytes → Node Bound → List Place
unbound_in_node types (expression_node (variable a x)) = bound_to_nothing a a.bound
unbound_in_node types (expression_node (constructor a c)) = bound_to_nothing a a.bound
unbound_in_node types (pattern_node (constructor_pattern a c parts)) = bound_to_nothing a a.bound
unbound_in_node types (binding_node (local_signature a x type)) = at_if (not (are_among (type_constructors type) types)) a.span.first
unbound_in_node types _ = []

-- E08 is broken at these places: a name is bound to nothing
abbrev pub unbound : PlainProgram Span → List Place
unbound program =
    flat_map (unbound_in_declaration (type_names program.declarations) (operator_names program.declarations)) program.declarations
    ++ flat_map (unbound_in_node (type_names program.declarations)) (program_nodes (bound_program program))

-- == E09: signatures and bindings pair ==

-- a signature without a binding, or a binding without a signature
abbrev pub alone : List Bytes → List Bytes → Declaration Span → List Place
alone functions signatures (signature_declaration a names type) = at_if (not (are_among names functions)) a.first
alone functions signatures (function_declaration a x clauses) = at_if (not (is_among x signatures)) a.first
alone functions signatures _ = []

abbrev pub arity : Alternative Span → ℕ
arity (alternative a pats side wheres) = length pats

abbrev pub clause_place : Alternative Span → Place
clause_place (alternative a pats side wheres) = a.first

-- the clauses of one name that have another number of patterns than the first one
abbrev pub uneven : List (Alternative Span) → List Place
uneven [] = []
uneven (c ∷ cs) = flat_map (λ d. at_if (not (nat_eq (arity d) (arity c))) (clause_place d)) cs

abbrev pub uneven_at_top : Declaration Span → List Place
uneven_at_top (function_declaration a x clauses) = uneven clauses
uneven_at_top _ = []

abbrev pub uneven_in_node : Node Span → List Place
uneven_in_node (binding_node (local_function a x clauses)) = uneven (clauses_of clauses)
uneven_in_node _ = []

-- E09 is broken at these places
abbrev pub unpaired : PlainProgram Span → List Place
unpaired program =
    flat_map (alone (names_of (flat_map functions_at program.declarations)) (names_of (flat_map signatures_at program.declarations))) program.declarations
    ++ (flat_map uneven_at_top program.declarations ++ flat_map uneven_in_node (program_nodes program))
