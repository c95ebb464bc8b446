-- The numbers of patterns, node by node.
use Rattle.std.proofs.Common.{◌≡◌, ℕ, List, [], ◌∷◌, ◌++◌, flat_map, append_assoc, refl, sym, ap, ◌∙◌}
use Rattle.rw_scope_rules.specs.declared.binding.Bound.{Bound}
use Rattle.rw_tree.specs.declared.clause.Local.{Local}
use Rattle.rw_tree.specs.declared.clause.Local.TheVariants as local
use Rattle.rw_tree.specs.declared.clause.Alt.{Alt}
use Rattle.rw_tree.specs.Patterns.{Pattern, wildcard, variable_pattern, constructor_pattern, tuple_pattern, Patterns, no_patterns, more_patterns, patterns}
use Rattle.rw_tree.specs.Trees.{LocalBinding, local_pattern, local_binding, binding_parts}
use Rattle.rw_tree.proofs.Plains as plain
use Rattle.rw_scope_rules.specs.Nodes.{pattern_nodes, parts_nodes, row_nodes, bindings_of}
use Rattle.rw_scope_rules.specs.Bindings.{pattern_variables, parts_variables, row_variables}
use Rattle.rw_scope_rules.specs.Groups.{number_of, own_numbers}
use Rattle.rw_scope_groups.specs.Rows.{bound_in_node}

flat_append : {X Y : Type 0} (f : X → List Y) (xs ys : List X) → flat_map f (xs ++ ys) ≡ flat_map f xs ++ flat_map f ys
flat_append f [] ys = refl
flat_append f (x ∷ xs) ys = ap (λ zs. f x ++ zs) (flat_append f xs ys) ∙ sym (append_assoc (f x) (flat_map f xs) (flat_map f ys))

abbrev num : List ℕ × Bound → List ℕ
num v = number_of v.1.bound

two : (f g : List ℕ) (h k : List ℕ) → f ≡ g → h ≡ k → f ++ h ≡ g ++ k
two f g h k e d = ap (λ z. z ++ h) e ∙ ap (λ z. g ++ z) d

mutual
  of_pattern : (p : Pattern Bound) → flat_map num (pattern_variables p) ≡ flat_map bound_in_node (pattern_nodes p)
  of_pattern (wildcard a) = refl
  of_pattern (variable_pattern a x) = refl
  of_pattern (constructor_pattern a c parts) = of_parts parts
  of_pattern (tuple_pattern a parts) = of_parts parts

  of_parts : (ps : Patterns Bound) → flat_map num (parts_variables ps) ≡ flat_map bound_in_node (parts_nodes ps)
  of_parts no_patterns = refl
  of_parts (more_patterns p ps) =
      flat_append num (pattern_variables p) (parts_variables ps)
      ∙ two (flat_map num (pattern_variables p)) (flat_map bound_in_node (pattern_nodes p)) (flat_map num (parts_variables ps)) (flat_map bound_in_node (parts_nodes ps)) (of_pattern p) (of_parts ps)
      ∙ sym (flat_append bound_in_node (pattern_nodes p) (parts_nodes ps))

of_row : (ps : List (Pattern Bound)) → flat_map num (row_variables ps) ≡ flat_map bound_in_node (row_nodes ps)
of_row [] = refl
of_row (p ∷ ps) =
    flat_append num (pattern_variables p) (row_variables ps)
    ∙ two (flat_map num (pattern_variables p)) (flat_map bound_in_node (pattern_nodes p)) (flat_map num (row_variables ps)) (flat_map bound_in_node (row_nodes ps)) (of_pattern p) (of_row ps)
    ∙ sym (flat_append bound_in_node (pattern_nodes p) (row_nodes ps))

-- the numbers that a pattern binding binds
pub own_pattern : (b : Local Bound) (a : Bound) (row : Alt Bound) → b ≡ local.Pattern a row → own_numbers (local_binding (λ x. x) b) ≡ flat_map bound_in_node (row_nodes (patterns (λ x. x) row.pats))
own_pattern b a row is =
    ap own_numbers (ap (local_binding (λ x. x)) is ∙ plain.local_binding-Pattern (λ x. x) a row)
    ∙ ap (λ c. own_numbers (local_pattern a c)) (plain.alternative-parts (λ x. x) row)
    ∙ of_row (patterns (λ x. x) row.pats)

-- the bindings of a group
pub bindings_listed : (bs : List (LocalBinding Bound)) → bindings_of (binding_parts bs) ≡ bs
bindings_listed [] = refl
bindings_listed (b ∷ bs) = ap (λ cs. b ∷ cs) (bindings_listed bs)
