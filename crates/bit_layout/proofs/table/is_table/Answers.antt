-- A type that isn't well formed is the one that was found.
use Rattle.std.proofs.Common.{◌≡◌, ℕ, ◌<◌, [], length, get_or, ap, ◌∙◌, arith, IsTrue}
use Rattle.std.proofs.lemmas.List.{get_or_default}
use Rattle.rw_core.specs.Bits.{IsTable, constructors_of}
use Rattle.bit_layout.specs.Tables.{IsDataType}
use Rattle.bit_layout.proofs.table.is_table.Goals as goal

pub returns-then-not-is_data_type : goal.returns-then-not-is_data_type
returns-then-not-is_data_type c =
    let types = c.as_slice-ty-items.result.now in
    let i = c.loop-number.number in
    let l = ap length c.as_slice-ty-items.ensures in
    let e : c.ty-item.result.constructors ≡ constructors_of c.args.table.now.types i =
    ap (λ ty. ty.constructors) (c.ty-item.is ∙ get_or_default types i c.ty-item.result (record { constructors = [] }) (omega arith)) ∙ ap (λ s. constructors_of s i) c.as_slice-ty-items.ensures in (
      (λ p. cc),
      (λ h.
          let some = h.some i (omega arith) in
          let few = h.few i (omega arith) in
          let good : IsDataType i c.ty-item.result.constructors = rw e (some, few, h.earlier i) in
          let yes = c.is_data_type.ensures.1 good in grind arith),
    )
