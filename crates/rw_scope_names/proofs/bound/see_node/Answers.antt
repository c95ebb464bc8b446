-- What an expression or a pattern has doesn't depend on the types that are known.
use Rattle.std.proofs.Common.{◌≡◌, ◌++◌, OnOk, sym, subst}
use Rattle.rw_tree.specs.Views.{itself}
use Rattle.rw_tree.specs.Patterns.{pattern}
use Rattle.rw_tree.specs.Trees.{expression}
use Rattle.rw_scope_rules.specs.Nodes.{expression_node, pattern_node}
use Rattle.rw_scope_rules.specs.Scope.{unbound_in_node}
use Rattle.rw_scope_nodes.specs.Plain.{plain_node}
use Rattle.rw_scope_names.proofs.Rules.{at_types}
use Rattle.rw_scope_names.proofs.bound.see_node.Goals as goal

pub returns-in-Expression : goal.returns-in-Expression
returns-in-Expression c =
    subst (λ n. OnOk c.see_expression.result (c.see_expression.new.places.items ≡ c.args.places.now.items ++ unbound_in_node c.args.types.now (plain_node n))) (sym c.in-Expression.is)
    (at_types c.see_expression.result c.args.places.now.items c.see_expression.new.places.items (expression_node (expression itself c.in-Expression.tree.now)) c.args.types.now c.see_expression.ensures)

pub returns-in-Pattern : goal.returns-in-Pattern
returns-in-Pattern c =
    subst (λ n. OnOk c.see_pattern.result (c.see_pattern.new.places.items ≡ c.args.places.now.items ++ unbound_in_node c.args.types.now (plain_node n))) (sym c.in-Pattern.is)
    (at_types c.see_pattern.result c.args.places.now.items c.see_pattern.new.places.items (pattern_node (pattern itself c.in-Pattern.tree.now)) c.args.types.now c.see_pattern.ensures)
