-- The greatest so far and those to come make the greatest of all.
use Rattle.std.proofs.Common.{◌≡◌, min, max, drop}
use Rattle.rw_parser_chains.specs.Sizes.{constructors_size}
use Rattle.rw_parser_chains.proofs.levels.data_levels.Given as goal

abbrev pub invariant-loop-constructor : goal.invariant-loop-constructor
invariant-loop-constructor l = max l.levels (min 513 (constructors_size (drop l.constructor-index l.made.constructors))) ≡ min 513 (constructors_size l.made.constructors)
