-- The law.
use Rattle.std.proofs.Common.{[]}
use Rattle.rw_layout.specs.declared.role.Before.TheVariants as b
use Rattle.rw_layout.specs.Layout.{last_place}
use Rattle.rw_layout.proofs.Turns.{refuses_from}
use Rattle.rw_layout.proofs.laws.refused_by_e04.Goals as goal

pub returns : goal.returns
returns c tokens refusal is = refuses_from (last_place tokens) tokens b.Nothing [] refusal is
