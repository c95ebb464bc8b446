-- The greatest so far and those to come make the greatest of all.
use Rattle.std.proofs.Common.{◌≡◌, min, max, drop}
use Rattle.rw_parser_chains.specs.Sizes.{types_size}
use Rattle.rw_parser_chains.proofs.levels.+types.Given as goal

abbrev pub invariant-types_levels-loop-written : goal.invariant-types_levels-loop-written
invariant-types_levels-loop-written l = max l.levels (min 513 (types_size (drop l.written-index l.types))) ≡ min 513 (types_size l.types)
