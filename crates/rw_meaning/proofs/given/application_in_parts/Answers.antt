-- Application in two parts.
use Rattle.rw_meaning.proofs.Applying.{applied_to_nothing, in_parts}
use Rattle.rw_meaning.proofs.given.application_in_parts.Goals as goal

pub returns-clause-to_nothing : goal.returns-clause-to_nothing
returns-clause-to_nothing c = applied_to_nothing

pub returns-clause-in_parts : goal.returns-clause-in_parts
returns-clause-in_parts c = in_parts
