use Rattle.std.proofs.Common.{◌≡◌}
use Rattle.rw_parser_parts.specs.Within.{deep_type}
use Rattle.rw_parser_parts.proofs.signature.deep_type.Given as goal

abbrev pub invariant-loop-arrow : goal.invariant-loop-arrow
invariant-loop-arrow l = l.made ≡ deep_type l._arrow
