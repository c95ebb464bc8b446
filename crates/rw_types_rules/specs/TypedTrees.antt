-- Typed trees: trees whose nodes carry types.
use Rattle.std.specs.Prelude.{ℕ, List, [], ◌∷◌, map, Bool, true, false}
use Rattle.rw_scope_rules.specs.declared.binding.Bound.{Bound}
use Rattle.rw_scope_rules.specs.Bindings.{pattern_variables, row_variables, binding_variables, group_variables}
use Rattle.rw_tree.specs.Patterns.{Pattern, wildcard, variable_pattern, constructor_pattern, tuple_pattern, Patterns, no_patterns, more_patterns}
use Rattle.rw_tree.specs.Trees.{Expression, variable, constructor, application, tuple, chain, lambda, let_in, if_then_else, case_of, do_block, Expressions, no_expressions, more_expressions}
use Rattle.rw_tree.specs.Trees.{Alternative, alternative, LocalBinding, LocalBindings, Statement, bind_statement, let_statement, run_statement, Statements, no_statements, more_statements}
use Rattle.rw_tree.specs.Declarations.{Declaration}
use Rattle.rw_types_solving.specs.Types.{Ty, apply}
use Rattle.rw_types_rules.specs.Relabelled.{relabelled_declaration}

-- what a node of a typed tree carries: what it carried before, its type, and, where it is of an instance of a type with variables, what these stand for
pub record TypedNode : Type 0 where
  pub node : Bound
  pub type : Ty
  pub arguments : List Ty

-- the tree before it was typed
abbrev pub erased : Declaration TypedNode → Declaration Bound
erased d = relabelled_declaration (λ a. a.node) d

-- a typed tree under a substitution
abbrev pub substituted_node : (ℕ → Ty) → TypedNode → TypedNode
substituted_node s a = record { node = a.node; type = apply s a.type; arguments = map (apply s) a.arguments }

abbrev pub substituted : (ℕ → Ty) → Declaration TypedNode → Declaration TypedNode
substituted s d = relabelled_declaration (substituted_node s) d

-- what stands at a node
abbrev pub pattern_label : {X : Type 0} → Pattern X → X
pattern_label (wildcard a) = a
pattern_label (variable_pattern a x) = a
pattern_label (constructor_pattern a c parts) = a
pattern_label (tuple_pattern a parts) = a

abbrev pub expression_label : {X : Type 0} → Expression X → X
expression_label (variable a x) = a
expression_label (constructor a c) = a
expression_label (application a head parts) = a
expression_label (tuple a parts) = a
expression_label (chain a operands operators) = a
expression_label (lambda a pats body) = a
expression_label (let_in a group body) = a
expression_label (if_then_else a test first second) = a
expression_label (case_of a scrutinee rows) = a
expression_label (do_block a steps) = a

abbrev pub alternative_label : {X : Type 0} → Alternative X → X
alternative_label (alternative a pats side wheres) = a

-- the types of patterns and expressions
abbrev pub pattern_type : Pattern TypedNode → Ty
pattern_type p = (pattern_label p).type

abbrev pub row_types : List (Pattern TypedNode) → List Ty
row_types pats = map pattern_type pats

abbrev pub parts_types : Patterns TypedNode → List Ty
parts_types no_patterns = []
parts_types (more_patterns p ps) = pattern_type p ∷ parts_types ps

abbrev pub expression_type : Expression TypedNode → Ty
expression_type e = (expression_label e).type

abbrev pub expressions_types : Expressions TypedNode → List Ty
expressions_types no_expressions = []
expressions_types (more_expressions e es) = expression_type e ∷ expressions_types es

-- the types of local names, as they are bound one after the other
abbrev pub pattern_locals : Pattern TypedNode → List Ty
pattern_locals p = map (λ v. v.1.type) (pattern_variables p)

abbrev pub row_locals : List (Pattern TypedNode) → List Ty
row_locals pats = map (λ v. v.1.type) (row_variables pats)

abbrev pub binding_locals : LocalBinding TypedNode → List Ty
binding_locals b = map (λ v. v.1.type) (binding_variables b)

abbrev pub group_locals : LocalBindings TypedNode → List Ty
group_locals group = map (λ v. v.1.type) (group_variables group)

abbrev pub statement_locals : Statement TypedNode → List Ty
statement_locals (bind_statement a p e) = pattern_locals p
statement_locals (let_statement a group) = group_locals group
statement_locals (run_statement a e) = []

-- whether there is no statement more
abbrev pub are_none : {X : Type 0} → Statements X → Bool
are_none no_statements = true
are_none (more_statements s ss) = false
