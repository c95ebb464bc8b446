-- The blocks above the opener are closed, and it is popped.
use Rattle.std.proofs.Common.{◌≡◌, ◌∙◌, true, ap, drop}
use Rattle.std.specs.List.{slice_get}
use Rattle.rw_layout.specs.declared.entry.Entry.{Entry}
use Rattle.std.specs.Prelude.{List}
use Rattle.rw_layout.specs.Layout.{is_opener, reopened}
use Rattle.rw_layout.proofs.Turns.{close_found}
use Rattle.rw_layout.proofs.step.Layout.close_to.Goals as goal

pub returns-clause-step : goal.returns-clause-step
returns-clause-step c =
    let is : is_opener c.args.opener (slice_get c.args.self.now.stack c.run_len-blocks.result) ≡ true = cc in
    let left : c.leave.new.self ≡ reopened c.args.opener c.args.at (drop 1 (drop c.run_len-blocks.result c.args.self.now.stack)) = c.in_ok-leave.ensures ∙ ap (λ (es : List Entry). reopened c.args.opener c.args.at (drop 1 es)) c.in_ok-close.ensures.stack in
    close_found c.args.opener c.args.at c.args.self.now.stack c.leave.new.self c.args.self.now.out.items c.close.new.self.out.items c.run_len-blocks.result c.run_len-blocks.ensures.value is c.in_ok-close.ensures.out left
