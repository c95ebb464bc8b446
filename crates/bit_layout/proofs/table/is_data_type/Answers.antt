-- A constructor with a field that is no earlier type is the one that was found.
use Rattle.std.proofs.Common.{◌≡◌, ℕ, ◌<◌, [], length, get_or, ap, ◌∙◌, arith, IsTrue}
use Rattle.std.specs.Prelude.{All}
use Rattle.std.proofs.lemmas.List.{get_or_default}
use Rattle.bit_layout.proofs.table.is_data_type.Goals as goal

pub returns-then-not-are_below : goal.returns-then-not-are_below
returns-then-not-are_below c =
    let shape = c.as_slice-constructors.result.now in
    let i = c.loop-fields.fields-index in
    let e : c.as_slice.result.now ≡ get_or c.args.ty.now.constructors i [] =
    c.as_slice.ensures ∙ c.fields-item.is ∙ get_or_default shape i c.fields-item.result [] (omega arith) ∙ ap (λ s. get_or s i []) c.as_slice-constructors.ensures in (
      (λ p. cc),
      (λ h.
          let all : All (λ field. field < c.args.number) c.as_slice.result.now = rw e (h.2 i) in
          let yes = c.are_below.ensures.1 all in grind arith),
    )
