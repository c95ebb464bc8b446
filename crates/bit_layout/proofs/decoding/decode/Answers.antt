-- A type out of the table has no value, and other bits than the width's number are those of none.
use Rattle.std.proofs.Common.{◌≡◌, ◌+◌, min, length, ap, sym, ◌∙◌, arith}
use Rattle.std.specs.Prelude.{slice_index}
use Rattle.std.proofs.lemmas.Grind.{get_or_default_zero}
use Rattle.rw_core.specs.Bits.{width_of}
use Rattle.bit_layout.proofs.Lengths.{length-encoding}
use Rattle.bit_layout.proofs.ReadSteps.{no_type}
use Rattle.bit_layout.proofs.decoding.decode.Goals as goal

pub returns-then-ty-types : goal.returns-then-ty-types
returns-then-ty-types c =
    let e = ap length c.as_slice-types.ensures in
    λ v h. no_type c.args.table.now.types c.args.ty (omega arith) v h.0

pub returns-then-index-bits : goal.returns-then-index-bits
returns-then-index-bits c =
    let e = c.as_slice-types.ensures in
    let each : slice_index c.in_ok-widths.widths.items c.args.ty ≡ min (length c.args.bits.now + 1) (width_of c.as_slice-types.result.now c.args.ty) = c.in_ok-widths.ensures.each c.args.ty (omega arith) in
    let same : width_of c.as_slice-types.result.now c.args.ty ≡ width_of c.args.table.now.types c.args.ty = ap (λ types. width_of types c.args.ty) e in
    let read : c.index.result.now ≡ slice_index c.in_ok-widths.widths.items c.args.ty = c.index.ensures ∙ get_or_default_zero c.in_ok-widths.widths.items c.args.ty c.index.result.now (let l = c.in_ok-widths.ensures.all in omega arith) in
    λ v h.
    let l : width_of c.args.table.now.types c.args.ty ≡ length c.args.bits.now = sym (length-encoding c.args.table.now.types c.requires c.args.ty v h.0) ∙ ap length h.1 in
    c.if-index-bits.true (omega arith)
