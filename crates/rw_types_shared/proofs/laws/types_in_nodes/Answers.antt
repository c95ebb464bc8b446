-- A type is its head over the types of its parts.
use Rattle.rw_types_shared.proofs.Levels.{in_nodes}
use Rattle.rw_types_shared.proofs.laws.types_in_nodes.Goals as goal

pub returns : goal.returns
returns c nodes p n = in_nodes nodes p.earlier n
