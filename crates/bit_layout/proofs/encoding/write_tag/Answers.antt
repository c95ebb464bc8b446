-- Each bit that is pushed is the next lower one.
use Rattle.std.proofs.Common.{◌≡◌, ◌-◌, ◌/◌, ◌^◌, ◌++◌, ap, sym, ◌∙◌, arith}
use Rattle.std.proofs.lemmas.List.{append-nil}
use Rattle.std.proofs.Math.Nat.{div-one}
use Rattle.rw_core.specs.Bits.{binary}
use Rattle.bit_layout.proofs.Pieces.{tag_pushed}
use Rattle.bit_layout.proofs.encoding.write_tag.Goals as goal

pub loop-place-init : goal.loop-place-init
loop-place-init c =
    let z : c.args.width - c.args.width ≡ 0 = omega arith in rw z (sym (append-nil c.args.bits.now.items))

pub loop-place-preserved : goal.loop-place-preserved
loop-place-preserved c =
    tag_pushed c.args.bits.now.items c.loop-place.bits.items c.push.new.self.items c.args.width c.loop-place.place (c.loop-place.place - 1) c.args.tag c.from.result
    (omega arith) (omega arith) c.from.ensures c.loop-place.invariant c.in_ok-push.ensures.items

pub returns : goal.returns
returns c =
    let z : c.loop-place.place ≡ 0 = omega arith in
    let i : c.loop-place.bits.items ≡ c.args.bits.now.items ++ binary (c.args.width - 0) (c.args.tag / 2 ^ 0) = rw z at c.loop-place.invariant in
    let w : c.args.width - 0 ≡ c.args.width = omega arith in
    i ∙ ap (λ n. c.args.bits.now.items ++ binary n (c.args.tag / 1)) w ∙ ap (λ n. c.args.bits.now.items ++ binary c.args.width n) (div-one c.args.tag)
