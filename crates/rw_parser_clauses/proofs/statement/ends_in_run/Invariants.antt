-- What the loop over statements keeps.
use Rattle.std.proofs.Common.{◌≡◌, drop}
use Rattle.rw_parser_grammar.specs.Clauses.{ends_in_run}
use Rattle.rw_parser_clauses.proofs.Runs.{ends_behind}
use Rattle.rw_parser_clauses.proofs.statement.ends_in_run.Given as goal

-- what is known of those so far, and those to come, say it of all
abbrev pub invariant-loop-statement : goal.invariant-loop-statement
invariant-loop-statement l = ends_behind l.ends (drop l.statement-index l.statements) ≡ ends_in_run l.statements
