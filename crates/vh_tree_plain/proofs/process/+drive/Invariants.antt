-- What a loop has done, before what it is to do, is the whole.
use Rattle.std.proofs.Common.{◌≡◌, drop, map}
use Rattle.vh_tree.specs.Functions.{calls_of, stmt_of, stmts_of, branch_of, first_taken, in_order}
use Rattle.vh_tree.specs.DeltaCycle.{Wires, process_world}
use Rattle.vh_tree_plain.proofs.process.+drive.Given as goal

abbrev pub invariant-drive-loop-branch : goal.invariant-drive-loop-branch
invariant-drive-loop-branch l =
    let w = process_world (calls_of l.items) l.moment in
    first_taken Wires (map (branch_of Wires) (drop l.branch-index l.branch-items)) (stmts_of Wires l.other) w l.wires.items ≡ stmt_of Wires l.stmt w l.fn.wires.items

abbrev pub invariant-drive_all-loop-stmt : goal.invariant-drive_all-loop-stmt
invariant-drive_all-loop-stmt l =
    let w = process_world (calls_of l.items) l.moment in
    in_order Wires (map (stmt_of Wires) (drop l.stmt-index l.body)) w l.wires.items ≡ stmts_of Wires l.body w l.fn.wires.items
