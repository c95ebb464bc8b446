use Rattle.std.proofs.Common.{◌≡◌, length, reverse}
use Rattle.rw_parser_grammar.specs.Clauses.{local_groups, locals_of}
use Rattle.rw_parser_parts.proofs.Joins.{all_of}
use Rattle.rw_parser_parts.proofs.joined.join.Given as goal

-- what was joined and what is left give what all entries give
abbrev pub invariant-loop-entry : goal.invariant-loop-entry
invariant-loop-entry l = all_of (l.all, l.going) (reverse l.left) ≡ locals_of (local_groups l.fn.entries)

abbrev pub decreases-loop-entry : goal.decreases-loop-entry
decreases-loop-entry l = length l.left
