-- The rules as a whole, from what was found part by part, with sets that have the same names.
use Rattle.std.proofs.Common.{◌≡◌, ◌∙◌, refl, ap, List, [], ◌∷◌, ◌++◌, append_assoc, flat_map, ◌&&◌, not, Result, Ok, Err, OnOk}
use Rattle.rw_base.specs.declared.fail.OutOfMemory.{OutOfMemory}
use Rattle.rw_base.specs.declared.place.Span.{Span}
use Rattle.rw_base.specs.declared.place.Place.{Place}
use Rattle.rw_tree.specs.Declarations.{Declaration, import_declaration, data_declaration, fixity_declaration, signature_declaration, function_declaration, PlainProgram}
use Rattle.rw_tree.specs.Patterns.{wildcard, variable_pattern, constructor_pattern, tuple_pattern}
use Rattle.rw_tree.specs.Trees.{variable, constructor, application, tuple, chain, lambda, let_in, if_then_else, case_of, do_block, local_signature, local_function, local_pattern}
use Rattle.rw_scope_rules.specs.declared.binding.Bound.{Bound}
use Rattle.rw_scope_rules.specs.Names.{Bytes, is_among, at_if}
use Rattle.rw_scope_rules.specs.Bindings.{names_of, bound_program}
use Rattle.rw_scope_rules.specs.Nodes.{Node, expression_node, pattern_node, clause_node, group_node, binding_node, statement_node, program_nodes}
use Rattle.rw_scope_rules.specs.Scope.{alone, are_among, fields_of, functions_at, signatures_at, operator_names, type_names, type_constructors, type_variables, unbound, unbound_in_declaration, unbound_in_node, uneven_at_top, uneven_in_node, unpaired}
use Rattle.rw_scope_names.proofs.Sets.{are_among-alike}

each : {X Y : Type 0} (f g : X → List Y) → ((x : X) → f x ≡ g x) → (xs : List X) → flat_map f xs ≡ flat_map g xs
each f g same [] = refl
each f g same (x ∷ xs) = ap (λ ys. ys ++ flat_map f xs) (same x) ∙ ap (λ ys. g x ++ ys) (each f g same xs)

module _ (a b c d : List Bytes) (left : (x : Bytes) → is_among x a ≡ is_among x b) (right : (x : Bytes) → is_among x c ≡ is_among x d) where
  alone-alike : (decl : Declaration Span) → alone a c decl ≡ alone b d decl
  alone-alike (import_declaration at m) = refl
  alone-alike (data_declaration at x params constructors) = refl
  alone-alike (fixity_declaration at side strength names) = refl
  alone-alike (signature_declaration at names type) = ap (λ v. at_if (not v) at.first) (are_among-alike a b left names)
  alone-alike (function_declaration at x clauses) = ap (λ v. at_if (not v) at.first) (right x)

  unbound_in_declaration-alike : (decl : Declaration Span) → unbound_in_declaration a c decl ≡ unbound_in_declaration b d decl
  unbound_in_declaration-alike (import_declaration at m) = refl
  unbound_in_declaration-alike (data_declaration at x params constructors) =
      ap (λ v. at_if (not (v && are_among (flat_map type_variables (fields_of constructors)) params)) at.first) (are_among-alike a b left (flat_map type_constructors (fields_of constructors)))
  unbound_in_declaration-alike (fixity_declaration at side strength names) = ap (λ v. at_if (not v) at.first) (are_among-alike c d right names)
  unbound_in_declaration-alike (signature_declaration at names type) = ap (λ v. at_if (not v) at.first) (are_among-alike a b left (type_constructors type))
  unbound_in_declaration-alike (function_declaration at x clauses) = refl

module _ (a b : List Bytes) (left : (x : Bytes) → is_among x a ≡ is_among x b) where
  unbound_in_node-alike : (node : Node Bound) → unbound_in_node a node ≡ unbound_in_node b node
  unbound_in_node-alike (expression_node (variable at x)) = refl
  unbound_in_node-alike (expression_node (constructor at x)) = refl
  unbound_in_node-alike (expression_node (application at head parts)) = refl
  unbound_in_node-alike (expression_node (tuple at parts)) = refl
  unbound_in_node-alike (expression_node (chain at operands operators)) = refl
  unbound_in_node-alike (expression_node (lambda at pats body)) = refl
  unbound_in_node-alike (expression_node (let_in at group body)) = refl
  unbound_in_node-alike (expression_node (if_then_else at test first second)) = refl
  unbound_in_node-alike (expression_node (case_of at scrutinee rows)) = refl
  unbound_in_node-alike (expression_node (do_block at block)) = refl
  unbound_in_node-alike (pattern_node (wildcard at)) = refl
  unbound_in_node-alike (pattern_node (variable_pattern at x)) = refl
  unbound_in_node-alike (pattern_node (constructor_pattern at x parts)) = refl
  unbound_in_node-alike (pattern_node (tuple_pattern at parts)) = refl
  unbound_in_node-alike (clause_node row) = refl
  unbound_in_node-alike (group_node group) = refl
  unbound_in_node-alike (binding_node (local_signature at x type)) = ap (λ v. at_if (not v) at.span.first) (are_among-alike a b left (type_constructors type))
  unbound_in_node-alike (binding_node (local_function at x rows)) = refl
  unbound_in_node-alike (binding_node (local_pattern at row)) = refl
  unbound_in_node-alike (statement_node s) = refl

-- what holds for all types holds for these
pub at_types : {R : Type 0} (result : Result R OutOfMemory) (old new : List Place) (node : Node Bound) (types : List Bytes)
    → OnOk result ((known : List Bytes) → new ≡ old ++ unbound_in_node known node) → OnOk result (new ≡ old ++ unbound_in_node types node)
at_types (Ok r) old new node types h = h types
at_types (Err e) old new node types h = h

-- E09 in its three parts
pub unpaired_is : (program : PlainProgram Span) (decls : List (Declaration Span)) (functions signatures : List Bytes) (start first second third : List Place) → decls ≡ program.declarations → start ≡ []
    → ((x : Bytes) → is_among x functions ≡ is_among x (names_of (flat_map functions_at decls))) → ((x : Bytes) → is_among x signatures ≡ is_among x (names_of (flat_map signatures_at decls)))
    → first ≡ start ++ flat_map (alone functions signatures) decls → second ≡ first ++ flat_map uneven_at_top decls → third ≡ second ++ flat_map uneven_in_node (program_nodes program) → third ≡ unpaired program
unpaired_is program decls functions signatures start first second third same none left right e f g =
    let inside = flat_map uneven_in_node (program_nodes program) in
    let tops = flat_map uneven_at_top decls in
    let single = alone (names_of (flat_map functions_at decls)) (names_of (flat_map signatures_at decls)) in
    let known : flat_map (alone functions signatures) decls ≡ flat_map single decls
    = each (alone functions signatures) single (alone-alike functions (names_of (flat_map functions_at decls)) signatures (names_of (flat_map signatures_at decls)) left right) decls in
    g ∙ ap (λ ps. ps ++ inside) (f ∙ ap (λ ps. ps ++ tops) (e ∙ ap (λ ps. ps ++ flat_map (alone functions signatures) decls) none ∙ known))
    ∙ append_assoc (flat_map single decls) tops inside
    ∙ ap (λ ds. flat_map (alone (names_of (flat_map functions_at ds)) (names_of (flat_map signatures_at ds))) ds ++ (flat_map uneven_at_top ds ++ inside)) same

-- E08 in its two parts
pub unbound_is : (program : PlainProgram Span) (bound : PlainProgram Bound) (decls : List (Declaration Span)) (types operators : List Bytes) (start first second : List Place)
    → decls ≡ program.declarations → start ≡ []
    → ((x : Bytes) → is_among x types ≡ is_among x (type_names decls)) → ((x : Bytes) → is_among x operators ≡ is_among x (operator_names decls))
    → first ≡ start ++ flat_map (unbound_in_declaration types operators) decls → second ≡ first ++ flat_map (unbound_in_node types) (program_nodes bound)
    → bound ≡ bound_program program → second ≡ unbound program
unbound_is program bound decls types operators start first second same none left right e f is =
    let own = unbound_in_declaration (type_names decls) (operator_names decls) in
    let known : flat_map (unbound_in_declaration types operators) decls ≡ flat_map own decls
    = each (unbound_in_declaration types operators) own (unbound_in_declaration-alike types (type_names decls) operators (operator_names decls) left right) decls in
    let inside : flat_map (unbound_in_node types) (program_nodes bound) ≡ flat_map (unbound_in_node (type_names decls)) (program_nodes (bound_program program))
    = each (unbound_in_node types) (unbound_in_node (type_names decls)) (unbound_in_node-alike types (type_names decls) left) (program_nodes bound)
    ∙ ap (λ p. flat_map (unbound_in_node (type_names decls)) (program_nodes p)) is in
    f ∙ ap (λ ps. ps ++ flat_map (unbound_in_node types) (program_nodes bound)) (e ∙ ap (λ ps. ps ++ flat_map (unbound_in_declaration types operators) decls) none ∙ known)
    ∙ ap (λ ps. flat_map own decls ++ ps) inside
    ∙ ap (λ ds. flat_map (unbound_in_declaration (type_names ds) (operator_names ds)) ds ++ flat_map (unbound_in_node (type_names ds)) (program_nodes (bound_program program))) same
