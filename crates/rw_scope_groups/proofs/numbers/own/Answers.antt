-- The numbers of a pattern binding are those of its patterns.
use Rattle.std.proofs.Common.{◌∙◌, sym, ap, flat_map}
use Rattle.rw_tree.specs.Views.{itself}
use Rattle.rw_tree.specs.Patterns.{patterns}
use Rattle.rw_scope_rules.specs.Nodes.{row_nodes}
use Rattle.rw_scope_nodes.specs.Plain.{plain_nodes}
use Rattle.rw_scope_groups.specs.Rows.{bound_in_node}
use Rattle.rw_scope_groups.proofs.Basics.{on_ok}
use Rattle.rw_scope_groups.proofs.PatternNumbers.{own_pattern}
use Rattle.rw_scope_groups.proofs.numbers.own.Goals as goal

pub returns-in_ok-found-in-Pattern : goal.returns-in_ok-found-in-Pattern
returns-in_ok-found-in-Pattern c =
    on_ok c.all_bound.result
    (λ numbers h. h ∙ ap (λ ns. flat_map bound_in_node (plain_nodes ns)) c.as_slice-in-Pattern.ensures.value ∙ ap (flat_map bound_in_node) c.in_ok-found-in-Pattern.ensures
    ∙ ap (λ ps. flat_map bound_in_node (row_nodes (patterns itself ps))) c.as_slice.ensures ∙ sym (own_pattern c.args.binding.now c.in-Pattern.field-0 c.in-Pattern.bound c.in-Pattern.is))
    c.all_bound.ensures
