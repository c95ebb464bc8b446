-- What the walk over a program keeps: the sooner of two places, and the groups of declarations apart from those of nodes.
use Rattle.std.specs.Prelude.{ℕ, List, [], Option, Some, None}
use Rattle.rw_base.specs.declared.place.Place.{Place}
use Rattle.rw_scope_rules.specs.declared.binding.Bound.{Bound}
use Rattle.rw_scope_rules.specs.Names.{earlier}
use Rattle.rw_tree.specs.Declarations.{Declaration, function_declaration}
use Rattle.rw_cover.specs.declared.known.Known.{Known}
use Rattle.rw_cover.specs.Coverage.{Group, clauses_group}

-- the sooner of two places, either of which may be missing
abbrev pub sooner : Option Place → Option Place → Option Place
sooner None other = other
sooner (Some p) other = Some (earlier p other)

-- the group of a declaration's own clauses, without those of its nodes
abbrev pub own_groups : List ℕ → Known → Declaration Bound → List Group
own_groups counts known (function_declaration a x clauses) = clauses_group counts known clauses
own_groups counts known _ = []
