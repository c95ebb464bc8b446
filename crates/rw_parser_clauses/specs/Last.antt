-- Last statements, and what a loop over the frames of an expression keeps.
use Rattle.std.specs.Prelude.{ℕ, zero, suc, Bool, true, false, List, [], ◌∷◌, ◌++◌}
use Rattle.rw_base.specs.declared.place.Span.{Span}
use Rattle.rw_tree.specs.declared.expr.Expr.{Expr}
use Rattle.rw_tree.specs.declared.clause.Stmt.{Stmt, out-Stmt}
use Rattle.rw_parser_grammar.specs.Clauses.{runs_step}
use Rattle.rw_parser_parts.specs.declared.frame.Frame.{Frame}
use Rattle.rw_parser_parts.specs.Steps.{cut_off}

-- the statement is an expression alone
abbrev pub runs : Stmt Span → Bool
runs statement = runs_step (out-Stmt Span statement)

-- what stands in place of a tree that was cut off, or the tree
abbrev pub last_part : Bool → Expr Span → Expr Span
last_part true tree = cut_off
last_part false tree = tree

-- frames with one more, where there is room for it, the room that is left, and whether one had none
abbrev pub with_frame : ℕ → Bool → List Frame → Frame → List Frame × ℕ × Bool
with_frame zero is_cut frames frame = (frames, 0, true)
with_frame (suc room) is_cut frames frame = (frames ++ frame ∷ [], room, is_cut)
