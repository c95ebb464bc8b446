-- With what is left, what is known is what all give.
use Rattle.std.proofs.Common.{◌≡◌, drop}
use Rattle.std.specs.List.{list_any}
use Rattle.vh_tree.specs.Bits.{Bytes}
use Rattle.vh_tree.specs.StaticRules.{assigns}
use Rattle.vh_tree_static.specs.Drivers.{and_process}
use Rattle.vh_tree_static.specs.Rules.{branch_assigns}
use Rattle.rw_base_tables.specs.Tables.{known_in}
use Rattle.vh_tree_static.proofs.drivers.+statements.Given as goal

abbrev pub invariant-note_stmts-loop-stmt : goal.invariant-note_stmts-loop-stmt
invariant-note_stmts-loop-stmt l = (x : Bytes) → and_process l.place (list_any (assigns x) (drop l.stmt-index l.stmts)) (known_in l.drivers x) ≡ and_process l.place (list_any (assigns x) l.stmts) (known_in l.fn.drivers x)

abbrev pub invariant-note_branches-loop-branch : goal.invariant-note_branches-loop-branch
invariant-note_branches-loop-branch l =
    (x : Bytes) → and_process l.place (list_any (branch_assigns x) (drop l.branch-index l.branches)) (known_in l.drivers x) ≡ and_process l.place (list_any (branch_assigns x) l.branches) (known_in l.fn.drivers x)
