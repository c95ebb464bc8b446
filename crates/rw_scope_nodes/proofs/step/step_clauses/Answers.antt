-- The first is found, and the others are left.
use Rattle.std.proofs.Common.{arith}
use Rattle.rw_tree.specs.Views.{itself}
use Rattle.rw_tree.specs.Trees.{alternative_of}
use Rattle.rw_scope_rules.specs.Nodes.{clause_nodes}
use Rattle.rw_scope_nodes.specs.Plain.{left_nodes, plain_nodes}
use Rattle.rw_scope_nodes.proofs.Steps.{on_ok, on_both, left_more, several}
use Rattle.rw_scope_nodes.proofs.step.step_clauses.Goals as goal

pub returns-in_ok-push-in-Some-clause-nodes : goal.returns-in_ok-push-in-Some-clause-nodes
returns-in_ok-push-in-Some-clause-nodes g c =
    on_ok c.find_clause.result (λ h. several clause_nodes (alternative_of itself) c.args.trees.now c.in-Some.rest.now c.in-Some.first.now (plain_nodes c.args.found.now.items) (left_nodes c.args.left.now.items) (left_nodes c.push.new.self.items) _
    c.in-Some.ensures.cases.0 (left_more _ _ _ c.in_ok-push-in-Some.ensures.items) h) c.find_clause.ensures.nodes

pub returns-in_ok-push-in-Some-clause-grows : goal.returns-in_ok-push-in-Some-clause-grows
returns-in_ok-push-in-Some-clause-grows g c = on_ok c.find_clause.result (λ h. omega (arith, h)) c.find_clause.ensures.found

pub returns-in_ok-push-in-Some-clause-count : goal.returns-in_ok-push-in-Some-clause-count
returns-in_ok-push-in-Some-clause-count g c =
    on_both c.find_clause.result (λ h k. let one = c.in_ok-push-in-Some.ensures.len in omega (arith, h, k, one)) c.find_clause.ensures.found c.find_clause.ensures.count
