-- None of those so far has the name.
use Rattle.std.proofs.Common.{◌≡◌, drop}
use Rattle.rw_scope_rules.specs.Names.{first_named}
use Rattle.rw_types_equations.specs.Seen.{seen_types}
use Rattle.rw_types_equations.proofs.written.found.Given as goal

abbrev pub invariant-loop-data : goal.invariant-loop-data
invariant-loop-data l = first_named l.name (seen_types (drop l.data-index l.types)) ≡ first_named l.name (seen_types l.types)
