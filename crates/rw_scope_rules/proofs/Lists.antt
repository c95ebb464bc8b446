-- The nodes of the parts of a tree are those of a list of trees, one after the other.
use Rattle.std.proofs.Common.{◌≡◌, refl, ap, List, [], ◌∷◌, ◌++◌, flat_map}
use Rattle.rw_tree.specs.Patterns.{Pattern, pattern_parts}
use Rattle.rw_tree.specs.Trees.{Expression, Alternative, GuardedBody, LocalBinding, Statement, expression_parts, alternative_parts, body_parts, binding_parts, statement_parts}
use Rattle.rw_scope_rules.specs.Nodes.{pattern_nodes, parts_nodes, expression_nodes, expressions_nodes, clause_nodes, clauses_nodes, body_nodes, bodies_nodes, binding_nodes, group_nodes, statement_nodes, statements_nodes}

module _ {X : Type 0} where
  pub patterns_as : (ps : List (Pattern X)) → parts_nodes (pattern_parts ps) ≡ flat_map pattern_nodes ps
  patterns_as [] = refl
  patterns_as (p ∷ ps) = ap (λ ns. pattern_nodes p ++ ns) (patterns_as ps)

  pub expressions_as : (es : List (Expression X)) → expressions_nodes (expression_parts es) ≡ flat_map expression_nodes es
  expressions_as [] = refl
  expressions_as (e ∷ es) = ap (λ ns. expression_nodes e ++ ns) (expressions_as es)

  pub clauses_as : (cs : List (Alternative X)) → clauses_nodes (alternative_parts cs) ≡ flat_map clause_nodes cs
  clauses_as [] = refl
  clauses_as (c ∷ cs) = ap (λ ns. clause_nodes c ++ ns) (clauses_as cs)

  pub bodies_as : (bs : List (GuardedBody X)) → bodies_nodes (body_parts bs) ≡ flat_map body_nodes bs
  bodies_as [] = refl
  bodies_as (b ∷ bs) = ap (λ ns. body_nodes b ++ ns) (bodies_as bs)

  pub group_as : (bs : List (LocalBinding X)) → group_nodes (binding_parts bs) ≡ flat_map binding_nodes bs
  group_as [] = refl
  group_as (b ∷ bs) = ap (λ ns. binding_nodes b ++ ns) (group_as bs)

  pub statements_as : (ss : List (Statement X)) → statements_nodes (statement_parts ss) ≡ flat_map statement_nodes ss
  statements_as [] = refl
  statements_as (s ∷ ss) = ap (λ ns. statement_nodes s ++ ns) (statements_as ss)
