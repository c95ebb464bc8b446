-- The tag is the number that the first bits spell.
use Rattle.std.proofs.Common.{◌≤◌, length, take, drop, ap, sym, ◌∙◌, arith}
use Rattle.std.specs.Prelude.{sum_by}
use Rattle.rw_core.specs.Bits.{tag_width, width_of}
use Rattle.bit_layout.specs.Parts.{number_of}
use Rattle.bit_layout.proofs.Shapes.{fields_fit}
use Rattle.bit_layout.proofs.Writes.{begun_short}
use Rattle.bit_layout.proofs.ReadSteps.{no_tag, begun_exact}
use Rattle.bit_layout.proofs.decoding.begin.Goals as goal

pub split_at-requires : goal.split_at-requires
split_at-requires c =
    let fit = fields_fit c.args.types.now c.requires.table c.args.ty 0 in
    let t = ap (λ shape. tag_width (length shape)) c.constructors-shape.ensures in omega arith

pub read_tag-tag-requires : goal.read_tag-tag-requires
read_tag-tag-requires c =
    let few = c.requires.table.few c.args.ty c.requires.within in
    let e = ap length c.constructors-shape.ensures in
    let h : c.tag_bits.result ≤ 32 = c.tag_bits.ensures.least 32 (omega arith) in omega arith

pub returns-then-tag-shape-clause-exact : goal.returns-then-tag-shape-clause-exact
returns-then-tag-shape-clause-exact c =
    let t = c.tag_bits.ensures.value ∙ ap (λ shape. tag_width (length shape)) c.constructors-shape.ensures in
    let e = ap length c.constructors-shape.ensures in
    let is = ap (λ n. number_of (take n c.args.bits.now)) (sym t) ∙ ap number_of (sym c.split_at.ensures.front) ∙ sym c.read_tag-tag.ensures in
    no_tag c.args.types.now c.requires.table c.args.ty c.read_tag-tag.result c.args.bits.now is (omega arith)

pub returns-clause-exact : goal.returns-clause-exact
returns-clause-exact c =
    let t = c.tag_bits.ensures.value ∙ ap (λ shape. tag_width (length shape)) c.constructors-shape.ensures in
    let e = ap length c.constructors-shape.ensures in
    let is = ap (λ n. number_of (take n c.args.bits.now)) (sym t) ∙ ap number_of (sym c.split_at.ensures.front) ∙ sym c.read_tag-tag.ensures in
    let rest = c.split_at.ensures.back ∙ ap (λ n. drop n c.args.bits.now) t in
    begun_exact c.args.types.now c.requires.table c.args.ty c.args.bits.now (record { tag = c.read_tag-tag.result; fields = c.fields.result; built = c.new.result; rest = c.split_at.result.1 }) c.requires.whole is (omega arith) c.fields.ensures rest c.new.ensures

pub returns-clause-short : goal.returns-clause-short
returns-clause-short c = begun_short c.args.types.now c.requires.table c.args.ty c.read_tag-tag.result c.fields.result.now c.fields.ensures

pub returns-clause-roomy : goal.returns-clause-roomy
returns-clause-roomy c =
    let fit = fields_fit c.args.types.now c.requires.table c.args.ty c.read_tag-tag.result in
    let t = c.tag_bits.ensures.value ∙ ap (λ shape. tag_width (length shape)) c.constructors-shape.ensures in
    let s = ap (sum_by (width_of c.args.types.now)) c.fields.ensures in
    record { room = omega arith; narrow = omega arith }
