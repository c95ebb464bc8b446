-- Types, the declaration of `start` and its body without where they lie in memory.
use denote.Ref.{Bor}
use Rattle.std.specs.Prelude.{List, map}
use Rattle.rw_scope_rules.specs.declared.binding.Bound.{Bound}
use Rattle.rw_tree.specs.Views.{itself}
use Rattle.rw_tree.specs.declared.types.Written.{Written}
use Rattle.rw_tree.specs.Types.{WrittenType, written}
use Rattle.rw_tree.specs.Trees.{alternative_of, expression, binding_parts, local_binding}
use Rattle.rw_meaning.specs.Systems.{Body as PlainBody}
use Rattle.rw_start.specs.declared.start.Body.{Body}
use Rattle.rw_start.specs.declared.start.Start.{Start}
use Rattle.rw_start.specs.Start.{Start as PlainStart}

abbrev pub seen_types : List (Bor Written) → List WrittenType
seen_types types = map (λ t. written t.now) types

abbrev pub plain_start : Start → PlainStart
plain_start start = record { number = start.number; place = start.place; clauses = map (alternative_of itself) start.clauses.now }

abbrev pub plain_body : Body → PlainBody Bound
plain_body b = record { expression = expression itself b.expression.now; wheres = binding_parts (map (local_binding itself) b.wheres.now) }
