-- Outputs last under greater budgets.
use Rattle.rw_meaning.proofs.Lasting.{outputs_lasting, outputs_denoted}
use Rattle.rw_meaning.proofs.laws.outputs_last.Goals as goal

pub returns-clause-lasting : goal.returns-clause-lasting
returns-clause-lasting c = outputs_lasting

pub returns-clause-denoted : goal.returns-clause-denoted
returns-clause-denoted c = outputs_denoted
