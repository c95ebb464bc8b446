-- The fields of the constructor at hand are those of the table, so their sum at the limit is that of the widths.
use Rattle.std.proofs.Common.{◌≡◌, ◌<◌, length, map, take, add-one, arith, ap, ◌∙◌}
use Rattle.std.specs.Prelude.{sum_by, slice_index, All}
use Rattle.std.proofs.Math.Seq.{take-length}
use Rattle.rw_core.specs.Bits.{constructors_of, tag_width, greatest, width_of}
use Rattle.bit_layout.proofs.Shapes.{width_of-step}
use Rattle.bit_layout.proofs.Capped.{fields_are, sum_by-capped, greatest_more}
use Rattle.bit_layout.proofs.widths.type_width.Goals as goal

pub fields_width-requires : goal.fields_width-requires
fields_width-requires c =
    let within : c.loop-fields.fields-index < length c.constructors-constructors.result.now = omega arith in
    let same = c.as_slice.ensures ∙ fields_are c.args.types.now c.args.ty c.loop-fields.fields-index c.constructors-constructors.result.now c.fields-item.result c.constructors-constructors.ensures within c.fields-item.is in
    let n = c.requires.earlier.all in
    rw (same, n) (c.requires.table.earlier c.args.ty c.loop-fields.fields-index)

pub loop-fields-preserved : goal.loop-fields-preserved
loop-fields-preserved c =
    let within : c.loop-fields.fields-index < length c.constructors-constructors.result.now = omega arith in
    let same = fields_are c.args.types.now c.args.ty c.loop-fields.fields-index c.constructors-constructors.result.now c.fields-item.result c.constructors-constructors.ensures within c.fields-item.is in
    let low : All (λ x. x < c.args.ty) c.fields-item.result = rw same (c.requires.table.earlier c.args.ty c.loop-fields.fields-index) in
    let sums = sum_by-capped c.args.cap c.args.ty c.args.types.now c.args.widths.now c.fields-item.result c.requires.earlier low in
    let item = ap (sum_by (width_of c.args.types.now)) c.fields-item.is in
    let given = ap (sum_by (slice_index c.args.widths.now)) c.as_slice.ensures in
    let more = greatest_more (sum_by (width_of c.args.types.now)) c.constructors-constructors.result.now c.loop-fields.fields-index c.fields-item.result within in
    rw add-one (omega arith)

pub returns : goal.returns
returns c =
    let step = width_of-step c.args.types.now c.requires.table c.args.ty in
    let all : take c.loop-fields.fields-index c.constructors-constructors.result.now ≡ constructors_of c.args.types.now c.args.ty =
    (let e : c.loop-fields.fields-index ≡ length c.constructors-constructors.result.now = omega arith in rw e (take-length c.constructors-constructors.result.now)) ∙ c.constructors-constructors.ensures in
    let g = ap (λ shape. greatest (map (sum_by (width_of c.args.types.now)) shape)) all in
    let t = ap (λ shape. tag_width (length shape)) c.constructors-constructors.ensures in
    omega arith
