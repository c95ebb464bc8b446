-- The token of a name has the bytes of the name.
use Rattle.std.proofs.Common.{arith}
use Rattle.std.proofs.lemmas.Grind.{common_steps}
use Rattle.vhdl_print.proofs.Names.{name_shows}
use Rattle.vhdl_print.proofs.text.push_name.Goals as goal

pub returns : goal.returns
returns c = grind (arith, common_steps, name_shows c.args.name.now)
