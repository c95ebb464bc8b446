-- The tag is that of the value's type and constructor, and the fields are its fields.
use Rattle.std.proofs.Common.{◌≡◌, ◌+◌, ◌++◌, length, ap, sym, ◌∙◌, arith}
use Rattle.std.specs.Prelude.{slice_index}
use Rattle.rw_core.specs.declared.value.Value.{out-Value}
use Rattle.rw_core.specs.Values.{plains, vals}
use Rattle.rw_core.specs.Bits.{constructors_of, fields_of, tag_width, width_of, binary, encoding, encodings, padded}
use Rattle.bit_layout.proofs.Plains.{plain_value}
use Rattle.bit_layout.proofs.Writes.{value_closed, begun_typed, begun_short}
use Rattle.bit_layout.proofs.encoding.begin.Goals as goal

pub write_tag-requires : goal.write_tag-requires
write_tag-requires c =
    let few = c.requires.table.few c.args.ty (omega arith) in
    let e = ap length c.constructors.ensures in c.tag_bits.ensures.least 32 (omega arith)

pub returns-clause-writes : goal.returns-clause-writes
returns-clause-writes c =
    let v = c.args.value.now in
    let tag = (out-Value v).tag in
    let types = c.args.types.now in
    let ty = c.args.ty in
    let width : slice_index c.args.widths.now ty ≡ width_of types ty = (let e = c.requires.widths.each ty c.requires.within in let n = c.requires.narrow in omega arith) in
    let bits : c.write_tag.new.bits.items ≡ c.args.bits.now.items ++ binary (tag_width (length (constructors_of types ty))) tag =
    c.in_ok-write_tag.ensures ∙ ap (λ n. c.args.bits.now.items ++ binary n tag) (c.tag_bits.ensures.value ∙ ap (λ shape. tag_width (length shape)) c.constructors.ensures) in
    ap (λ fields. padded (c.len.result + slice_index c.args.widths.now ty) (c.write_tag.new.bits.items ++ encodings types fields (vals (plains c.as_slice.result.now)))) c.fields.ensures
    ∙ ap (λ values. padded (c.len.result + slice_index c.args.widths.now ty) (c.write_tag.new.bits.items ++ encodings types (fields_of types ty tag) (vals (plains values)))) c.as_slice.ensures
    ∙ value_closed types ty tag (vals (plains (out-Value v).fields)) c.args.bits.now.items c.write_tag.new.bits.items (c.len.result + slice_index c.args.widths.now ty) (omega arith) bits
    ∙ ap (λ w. c.args.bits.now.items ++ encoding types ty w) (sym (plain_value v))

pub returns-clause-typed : goal.returns-clause-typed
returns-clause-typed c =
    let typed = rw plain_value at c.requires.value in
    begun_typed c.args.types.now c.requires.table c.args.ty (out-Value c.args.value.now).tag (length c.args.widths.now) _ c.fields.ensures (ap (λ values. vals (plains values)) c.as_slice.ensures) (omega arith) c.requires.narrow typed.1

pub returns-clause-short : goal.returns-clause-short
returns-clause-short c = begun_short c.args.types.now c.requires.table c.args.ty (out-Value c.args.value.now).tag c.fields.result.now c.fields.ensures
