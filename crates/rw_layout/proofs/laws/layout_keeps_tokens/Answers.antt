-- The law.
use Rattle.rw_layout.specs.Layout.{last_place}
use Rattle.rw_layout.specs.declared.role.Before.TheVariants as b
use Rattle.std.proofs.Common.{[]}
use Rattle.rw_layout.proofs.Marks.{filled_from}
use Rattle.rw_layout.proofs.laws.layout_keeps_tokens.Goals as goal

pub returns : goal.returns
returns c tokens filled is = filled_from (last_place tokens) tokens b.Nothing [] filled is
