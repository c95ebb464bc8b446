-- The most so far and the most of those to come make the most of all.
use Rattle.std.proofs.Common.{◌≡◌, min, max, drop}
use Rattle.rw_parser_reading.specs.Frames.{most, frames_of_expression, frames_of_statement, frames_of_guard, frames_of_row, frames_of_local}
use Rattle.rw_parser_frames.proofs.+trees.Given as goal

abbrev pub invariant-clause::guards_frames-loop-guard : goal.invariant-clause::guards_frames-loop-guard
invariant-clause::guards_frames-loop-guard l = max l.frames (min l.bound (most frames_of_guard (drop l.guard-index l.guards))) ≡ min l.bound (most frames_of_guard l.guards)

abbrev pub invariant-clause::locals_frames-loop-local : goal.invariant-clause::locals_frames-loop-local
invariant-clause::locals_frames-loop-local l = max l.frames (min l.bound (most frames_of_local (drop l.local-index l.locals))) ≡ min l.bound (most frames_of_local l.locals)

abbrev pub invariant-clause::rows_frames-loop-row : goal.invariant-clause::rows_frames-loop-row
invariant-clause::rows_frames-loop-row l = max l.frames (min l.bound (most frames_of_row (drop l.row-index l.rows))) ≡ min l.bound (most frames_of_row l.rows)

abbrev pub invariant-expr::expressions_frames-loop-tree : goal.invariant-expr::expressions_frames-loop-tree
invariant-expr::expressions_frames-loop-tree l = max l.frames (min l.bound (most frames_of_expression (drop l.tree-index l.trees))) ≡ min l.bound (most frames_of_expression l.trees)

abbrev pub invariant-expr::statements_frames-loop-statement : goal.invariant-expr::statements_frames-loop-statement
invariant-expr::statements_frames-loop-statement l = max l.frames (min l.bound (most frames_of_statement (drop l.statement-index l.statements))) ≡ min l.bound (most frames_of_statement l.statements)
