-- What the nodes of a numbered declaration name, where its numbers have these types.
use Rattle.std.specs.Prelude.{ℕ, List, [], map}
use Rattle.rw_scope_rules.specs.Nodes.{Node, expression_node}
use Rattle.rw_tree.specs.Trees.{variable}
use Rattle.rw_types_solving.specs.Types.{Ty}
use Rattle.rw_types_equations.specs.declared.numbered.Numbered.{Numbered}
use Rattle.rw_types_equations.specs.Numbered.{numbers_from, argument_numbers}
use Rattle.specialise_rules.specs.Instances.{Mention as PlainMention, named_by}
use Rattle.specialise_mentions.specs.declared.mention.Mention.{Mention}

abbrev pub named_in : (ℕ → Ty) → Node Numbered → List PlainMention
named_in t (expression_node (variable a x)) = named_by a.node.span.from a.node.bound (map t (argument_numbers a))
named_in t _ = []

abbrev pub seen_mention : (ℕ → Ty) → Mention → PlainMention
seen_mention t m = (m.token, record { declaration = m.declaration; arguments = map t (numbers_from m.first m.arguments) })
