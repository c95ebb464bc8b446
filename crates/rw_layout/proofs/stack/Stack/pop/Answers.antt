-- What is left of the entries.
use Rattle.std.proofs.Common.{◌≡◌, ◌-◌, ◌∙◌, ap, length, take, drop, arith}
use Rattle.std.specs.Prelude.{reverse}
use Rattle.std.proofs.lemmas.Grind.{common_steps}
use Rattle.rw_layout.proofs.Stacks.{reverse-take}
use Rattle.rw_layout.proofs.stack.Stack.pop.Goals as goal

pub returns : goal.returns
returns c =
    let long : c.saturating_sub-left.result ≡ length c.self.inside.entries.items - c.args.n = grind (arith, common_steps) in
    let left : c.truncate.new.self.items ≡ take (length c.self.inside.entries.items - c.args.n) c.self.inside.entries.items = c.truncate.ensures.items ∙ ap (λ k. take k c.self.inside.entries.items) long in
    ap reverse left ∙ (reverse-take c.self.inside.entries.items c.args.n ∙ ap (drop c.args.n) c.self.view_is)
