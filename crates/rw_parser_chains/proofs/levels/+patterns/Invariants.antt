-- The greatest so far and those to come make the greatest of all.
use Rattle.std.proofs.Common.{◌≡◌, min, max, drop}
use Rattle.rw_parser_chains.specs.Sizes.{patterns_size}
use Rattle.rw_parser_chains.proofs.levels.+patterns.Given as goal

abbrev pub invariant-patterns_levels-loop-pat : goal.invariant-patterns_levels-loop-pat
invariant-patterns_levels-loop-pat l = max l.levels (min 513 (patterns_size (drop l.pat-index l.pats))) ≡ min 513 (patterns_size l.pats)
