-- The types of a relabelled tree, and of its local names.
use Rattle.std.proofs.Common.{◌≡◌, Bool, List, [], ◌∷◌, ◌++◌, map, refl, sym, ◌∙◌, ap}
use Rattle.std.proofs.lemmas.List.{map-append}
use Rattle.rw_scope_rules.specs.Names.{Bytes}
use Rattle.rw_scope_rules.specs.Bindings.{pattern_variables, parts_variables, row_variables, binding_variables, group_variables}
use Rattle.rw_tree.specs.Patterns.{Pattern, wildcard, variable_pattern, constructor_pattern, tuple_pattern, Patterns, no_patterns, more_patterns}
use Rattle.rw_tree.specs.Trees.{Expression, variable, constructor, application, tuple, chain, lambda, let_in, if_then_else, case_of, do_block, Expressions, no_expressions, more_expressions}
use Rattle.rw_tree.specs.Trees.{Alternative, alternative, LocalBinding, local_signature, local_function, local_pattern, LocalBindings, no_bindings, more_bindings, Statement, bind_statement, let_statement, run_statement, Statements, no_statements, more_statements}
use Rattle.rw_types_solving.specs.Types.{Ty}
use Rattle.rw_types_rules.specs.Schemes.{World}
use Rattle.rw_types_rules.specs.Relabelled.{relabelled_pattern, relabelled_parts, relabelled_row, relabelled_expression, relabelled_expressions, relabelled_alternative, relabelled_binding, relabelled_group, relabelled_statement, relabelled_statements}
use Rattle.rw_types_rules.specs.TypedTrees.{TypedNode, alternative_label, pattern_type, row_types, parts_types, expression_type, expressions_types, row_locals, pattern_locals, group_locals, statement_locals, are_none}
use Rattle.rw_types_numbering.proofs.Relabelling.{same2}

-- the variables of a relabelled tree
abbrev with_label : {X Y : Type 0} → (X → Y) → Bytes × X → Bytes × Y
with_label g v = (v.0, g v.1)

module _ {X Y : Type 0} (g : X → Y) where
  -- two lists of variables, one after the other
  both_relabelled : (xs ys : List (Bytes × X)) (us vs : List (Bytes × Y)) → us ≡ map (with_label g) xs → vs ≡ map (with_label g) ys → us ++ vs ≡ map (with_label g) (xs ++ ys)
  both_relabelled xs ys us vs p q = same2 ◌++◌ p q ∙ sym (map-append (with_label g) xs ys)

  mutual
    pattern_relabelled : (p : Pattern X) → pattern_variables (relabelled_pattern g p) ≡ map (with_label g) (pattern_variables p)
    pattern_relabelled (wildcard a) = refl
    pattern_relabelled (variable_pattern a x) = refl
    pattern_relabelled (constructor_pattern a c parts) = parts_relabelled parts
    pattern_relabelled (tuple_pattern a parts) = parts_relabelled parts

    parts_relabelled : (ps : Patterns X) → parts_variables (relabelled_parts g ps) ≡ map (with_label g) (parts_variables ps)
    parts_relabelled no_patterns = refl
    parts_relabelled (more_patterns p ps) = both_relabelled (pattern_variables p) (parts_variables ps) _ _ (pattern_relabelled p) (parts_relabelled ps)

  row_relabelled : (ps : List (Pattern X)) → row_variables (relabelled_row g ps) ≡ map (with_label g) (row_variables ps)
  row_relabelled [] = refl
  row_relabelled (p ∷ ps) = both_relabelled (pattern_variables p) (row_variables ps) _ _ (pattern_relabelled p) (row_relabelled ps)

  binding_relabelled : (b : LocalBinding X) → binding_variables (relabelled_binding g b) ≡ map (with_label g) (binding_variables b)
  binding_relabelled (local_signature a x type) = refl
  binding_relabelled (local_function a x clauses) = refl
  binding_relabelled (local_pattern a (alternative b pats side wheres)) = row_relabelled pats

  group_relabelled : (bs : LocalBindings X) → group_variables (relabelled_group g bs) ≡ map (with_label g) (group_variables bs)
  group_relabelled no_bindings = refl
  group_relabelled (more_bindings b bs) = both_relabelled (binding_variables b) (group_variables bs) _ _ (binding_relabelled b) (group_relabelled bs)

  pub last_relabelled : (ss : Statements X) → are_none (relabelled_statements g ss) ≡ are_none ss
  last_relabelled no_statements = refl
  last_relabelled (more_statements s ss) = refl

module _ (f : Ty → Ty) where
  abbrev kept : TypedNode → TypedNode
  kept a = record { node = a.node; type = f a.type; arguments = map f a.arguments }

  -- types
  pub pattern_type_kept : (p : Pattern TypedNode) → pattern_type (relabelled_pattern kept p) ≡ f (pattern_type p)
  pattern_type_kept (wildcard a) = refl
  pattern_type_kept (variable_pattern a x) = refl
  pattern_type_kept (constructor_pattern a c parts) = refl
  pattern_type_kept (tuple_pattern a parts) = refl

  pub parts_types_kept : (ps : Patterns TypedNode) → parts_types (relabelled_parts kept ps) ≡ map f (parts_types ps)
  parts_types_kept no_patterns = refl
  parts_types_kept (more_patterns p ps) = same2 ◌∷◌ (pattern_type_kept p) (parts_types_kept ps)

  pub row_types_kept : (ps : List (Pattern TypedNode)) → row_types (relabelled_row kept ps) ≡ map f (row_types ps)
  row_types_kept [] = refl
  row_types_kept (p ∷ ps) = same2 ◌∷◌ (pattern_type_kept p) (row_types_kept ps)

  pub expression_type_kept : (e : Expression TypedNode) → expression_type (relabelled_expression kept e) ≡ f (expression_type e)
  expression_type_kept (variable a x) = refl
  expression_type_kept (constructor a c) = refl
  expression_type_kept (application a head parts) = refl
  expression_type_kept (tuple a parts) = refl
  expression_type_kept (chain a operands operators) = refl
  expression_type_kept (lambda a pats body) = refl
  expression_type_kept (let_in a group body) = refl
  expression_type_kept (if_then_else a test first second) = refl
  expression_type_kept (case_of a scrutinee rows) = refl
  expression_type_kept (do_block a steps) = refl

  pub expressions_types_kept : (es : Expressions TypedNode) → expressions_types (relabelled_expressions kept es) ≡ map f (expressions_types es)
  expressions_types_kept no_expressions = refl
  expressions_types_kept (more_expressions e es) = same2 ◌∷◌ (expression_type_kept e) (expressions_types_kept es)

  pub clause_type_kept : (c : Alternative TypedNode) → (alternative_label (relabelled_alternative kept c)).type ≡ f (alternative_label c).type
  clause_type_kept (alternative a pats side wheres) = refl

  -- local names
  types_of_kept : (vs : List (Bytes × TypedNode)) → map (λ v. v.1.type) (map (with_label kept) vs) ≡ map f (map (λ v. v.1.type) vs)
  types_of_kept [] = refl
  types_of_kept (v ∷ vs) = ap (λ z. f v.1.type ∷ z) (types_of_kept vs)

  locals_kept : (us : List (Bytes × TypedNode)) (vs : List (Bytes × TypedNode)) → us ≡ map (with_label kept) vs → map (λ v. v.1.type) us ≡ map f (map (λ v. v.1.type) vs)
  locals_kept us vs e = ap (map (λ v. v.1.type)) e ∙ types_of_kept vs

  pub pattern_locals_kept : (p : Pattern TypedNode) → pattern_locals (relabelled_pattern kept p) ≡ map f (pattern_locals p)
  pattern_locals_kept p = locals_kept _ (pattern_variables p) (pattern_relabelled kept p)

  pub row_locals_kept : (ps : List (Pattern TypedNode)) → row_locals (relabelled_row kept ps) ≡ map f (row_locals ps)
  row_locals_kept ps = locals_kept _ (row_variables ps) (row_relabelled kept ps)

  pub group_locals_kept : (bs : LocalBindings TypedNode) → group_locals (relabelled_group kept bs) ≡ map f (group_locals bs)
  group_locals_kept bs = locals_kept _ (group_variables bs) (group_relabelled kept bs)

  pub statement_locals_kept : (s : Statement TypedNode) → statement_locals (relabelled_statement kept s) ≡ map f (statement_locals s)
  statement_locals_kept (bind_statement a p e) = pattern_locals_kept p
  statement_locals_kept (let_statement a group) = group_locals_kept group
  statement_locals_kept (run_statement a e) = refl

  -- more names are bound
  pub bound_more : (locals more there : List Ty) → there ≡ map f more → map f (locals ++ more) ≡ map f locals ++ there
  bound_more locals more there e = map-append f locals more ∙ ap (λ z. map f locals ++ z) (sym e)
