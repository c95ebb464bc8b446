-- What the loop keeps: a kind for each variable so far.
use Rattle.std.proofs.Common.{◌≡◌, map, take}
use Rattle.rw_tree.specs.declared.types.Kind.TheVariants.{Plain}
use Rattle.rw_scope_uses.proofs.context.plain_kinds.Given as goal

abbrev pub invariant-loop-param : goal.invariant-loop-param
invariant-loop-param l = l.kinds ≡ map (λ p. Plain) (take l._param-index l.params)
