-- How many frames each variant of a tree has, as sets of equations.
use Rattle.rw_parser_reading.proofs.FramesOf.{frames-type-Var, frames-type-Con, frames-type-Apply, frames-type-Fun, frames-type-Tuple}
use Rattle.rw_parser_reading.proofs.FramesOf.{frames-Var, frames-Con, frames-Apply, frames-Tuple, frames-Chain, frames-Lambda, frames-Let, frames-If, frames-Case, frames-Do}
use Rattle.rw_parser_reading.proofs.FramesOf.{frames-Plain, frames-Guarded, frames-guard, frames-row, frames-local-Sig, frames-local-Fun, frames-local-Pattern, frames-Bind, frames-statement-Let, frames-Run}

pub ruleset type_counts = (frames-type-Var, frames-type-Con, frames-type-Apply, frames-type-Fun, frames-type-Tuple)

pub ruleset expression_counts = (frames-Var, frames-Con, frames-Apply, frames-Tuple, frames-Chain, frames-Lambda, frames-Let, frames-If, frames-Case, frames-Do)

pub ruleset statement_counts = (frames-Bind, frames-statement-Let, frames-Run)

pub ruleset side_counts = (frames-Plain, frames-Guarded)

pub ruleset guard_counts = (frames-guard)

pub ruleset row_counts = (frames-row)

pub ruleset local_counts = (frames-local-Sig, frames-local-Fun, frames-local-Pattern)
