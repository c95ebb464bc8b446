-- A kind for each variable so far.
use Rattle.std.proofs.Common.{◌≡◌, map, take}
use Rattle.rw_types_rules.specs.declared.kind.VariableKind.TheVariants.{Plain}
use Rattle.rw_types_world.proofs.made.head_kinds.Given as goal

abbrev pub invariant-loop-param : goal.invariant-loop-param
invariant-loop-param l = l.kinds ≡ map (λ p. Plain) (take l._param-index l.params)
