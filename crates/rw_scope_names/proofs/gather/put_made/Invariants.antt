-- What the loop keeps: what is in the set, and what is still to be put in, is all.
use Rattle.std.proofs.Common.{◌≡◌, drop, map}
use Rattle.std.specs.Prelude.{◌||◌}
use Rattle.rw_tree.specs.Declarations.{plain_constructor}
use Rattle.rw_scope_rules.specs.Names.{Bytes, is_among}
use Rattle.rw_scope_names.proofs.gather.put_made.Given as goal

abbrev pub invariant-loop-constructor : goal.invariant-loop-constructor
invariant-loop-constructor l =
    (x : Bytes) → (is_among x (map (λ c. c.constructor_name) (map plain_constructor (drop l.constructor-index l.constructors))) || is_among x l.set)
    ≡ (is_among x (map (λ c. c.constructor_name) (map plain_constructor l.constructors)) || is_among x l.fn.set)
