-- The numbers of a numbered declaration and of its nodes that have a type.
use Rattle.std.specs.Prelude.{ℕ, List, [], ◌∷◌}
use Rattle.std.specs.List.{flat_map}
use Rattle.rw_scope_rules.specs.Nodes.{Node, expression_node, pattern_node, clause_node, group_node, binding_node, statement_node, declaration_nodes}
use Rattle.rw_tree.specs.Trees.{alternative, local_signature, local_function, local_pattern}
use Rattle.rw_tree.specs.Declarations.{Declaration, function_declaration}
use Rattle.rw_types_rules.specs.TypedTrees.{expression_label, pattern_label}
use Rattle.rw_types_equations.specs.declared.numbered.Numbered.{Numbered}

abbrev pub numbers_at : Node Numbered → List ℕ
numbers_at (expression_node e) = (expression_label e).number ∷ []
numbers_at (pattern_node p) = (pattern_label p).number ∷ []
numbers_at (clause_node (alternative a pats side wheres)) = a.number ∷ []
numbers_at (group_node group) = []
numbers_at (binding_node (local_signature a x type)) = []
numbers_at (binding_node (local_function a x clauses)) = a.number ∷ []
numbers_at (binding_node (local_pattern a bound)) = a.number ∷ []
numbers_at (statement_node s) = []

abbrev pub numbers_in : Declaration Numbered → List ℕ
numbers_in (function_declaration a x clauses) = a.number ∷ flat_map numbers_at (declaration_nodes (function_declaration a x clauses))
numbers_in _ = []
