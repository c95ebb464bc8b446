-- One zero more at each step.
use Rattle.std.proofs.Common.{◌≡◌, ◌+◌, ◌-◌, ◌++◌, length, ap, sym, ◌∙◌, arith, refl, false}
use Rattle.std.specs.Prelude.{replicate}
use Rattle.std.proofs.lemmas.List.{append-nil}
use Rattle.bit_layout.proofs.Pieces.{zero_pushed}
use Rattle.bit_layout.proofs.encoding.fill.Goals as goal

pub loop-init : goal.loop-init
loop-init c = sym (append-nil c.args.bits.now.items)

pub loop-preserved : goal.loop-preserved
loop-preserved c =
    zero_pushed c.args.bits.now.items c.loop.bits.items c.push.new.self.items c.loop.counter (c.loop.counter + 1) refl c.loop.invariant c.in_ok-push.ensures.items

pub returns : goal.returns
returns c =
    let z : c.loop.counter ≡ c.args.end - length c.args.bits.now.items = omega arith in
    c.loop.invariant ∙ ap (λ n. c.args.bits.now.items ++ replicate n false) z
