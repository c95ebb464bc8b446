-- The law of expressions.
use Rattle.vhdl_cycle_laws.proofs.Expressions.{agrees}
use Rattle.vhdl_cycle_laws.proofs.agreeing.agreement_law.Goals as goal

pub returns : goal.returns
returns c = agrees
