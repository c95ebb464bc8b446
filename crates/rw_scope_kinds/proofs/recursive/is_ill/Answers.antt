-- A data type that has a constructor is judged by its mark.
use Rattle.std.proofs.Common.{◌∙◌, ap}
use Rattle.rw_scope_kinds.specs.Mentions.{mark_at}
use Rattle.rw_scope_kinds.proofs.Circles.{judged_by}
use Rattle.rw_scope_kinds.proofs.recursive.is_ill.Goals as goal

pub returns-in-Some : goal.returns-in-Some
returns-in-Some c =
    judged_by c.args.one.now.made.now.constructors c.is_empty.result c.is_marked.result c.args.table.now c.args.marks.now c.args.one.now.made.now.name c.is_empty.ensures.1 c.if-is_empty.false
    (c.is_marked.ensures ∙ ap (mark_at c.args.marks.now) c.in-Some.ensures)

pub returns-in-None : goal.returns-in-None
returns-in-None c =
    judged_by c.args.one.now.made.now.constructors c.is_empty.result _ c.args.table.now c.args.marks.now c.args.one.now.made.now.name c.is_empty.ensures.1 c.if-is_empty.false (ap (mark_at c.args.marks.now) c.in-None.ensures)
