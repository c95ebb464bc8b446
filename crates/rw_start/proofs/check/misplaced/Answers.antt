-- The body of `start` is the one that was taken apart.
use Rattle.std.proofs.Common.{◌≡◌, ◌∙◌}
use Rattle.rw_systems.specs.Shown.{shown}
use Rattle.rw_start.specs.Seen.{plain_start, plain_body}
use Rattle.rw_start.proofs.Answering.{on_ok}
use Rattle.rw_start.proofs.Placed.{in_whole}
use Rattle.rw_start.proofs.check.misplaced.Goals as goal

pub returns : goal.returns
returns c =
    on_ok c.misplaced_in_system.result (λ places h. h ∙ in_whole c.args.program.now.decls c.as_slice-decls.result.now (plain_start c.in-Some.start) (plain_body c.in-Some-body_of.body)
    c.as_slice-decls.ensures c.in-Some.ensures.found c.in-Some-body_of.ensures (shown c.in_ok-parts.parts) c.in_ok-parts.ensures)
    c.misplaced_in_system.ensures
