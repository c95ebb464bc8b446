-- The law.
use Rattle.std.proofs.Common.{[]}
use Rattle.rw_layout.specs.declared.role.Before.TheVariants as b
use Rattle.rw_layout.specs.Layout.{last_place}
use Rattle.rw_layout.proofs.Balance.{balanced_from}
use Rattle.rw_layout.proofs.laws.layout_is_balanced.Goals as goal

pub returns : goal.returns
returns c tokens filled is = balanced_from (last_place tokens) tokens b.Nothing [] filled is
