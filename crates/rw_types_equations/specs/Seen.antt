-- What the schemes and the world of the code are, as `rw_types_rules` has them.
use Rattle.std.specs.Prelude.{ℕ, List, map, Option, Some, None}
use Rattle.rw_types_solving.specs.Types.{plain, plains}
use Rattle.rw_types_rules.specs.Schemes.{Scheme, World}
use Rattle.rw_types_equations.specs.declared.scheme.Scheme.{Scheme as Kept}
use Rattle.rw_types_equations.specs.declared.scheme.DataName.{DataName}
use Rattle.rw_types_equations.specs.declared.scheme.World.{World as Known}

abbrev pub seen_scheme : Kept → Scheme
seen_scheme s = record { kinds = s.kinds; takes = plains s.takes; gives = plain s.gives }

abbrev pub seen_option : Option Kept → Option Scheme
seen_option None = None
seen_option (Some s) = Some (seen_scheme s)

abbrev pub seen_types : List DataName → List (List ℕ × ℕ)
seen_types types = map (λ d. (d.name, d.number)) types

abbrev pub seen_world : Known → World
seen_world w = record {
  types = seen_types w.types;
  declared = map seen_option w.declared;
  constructed = map (map seen_scheme) w.constructed;
}
