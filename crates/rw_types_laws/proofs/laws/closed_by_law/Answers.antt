-- Part by part.
use Rattle.rw_types_laws.proofs.Closing.{is_closed, known_stays, closed_is_known, closed_stays}
use Rattle.rw_types_laws.proofs.laws.closed_by_law.Goals as goal

pub returns-clause-closed : goal.returns-clause-closed
returns-clause-closed c = is_closed

pub returns-clause-known_stays : goal.returns-clause-known_stays
returns-clause-known_stays c = known_stays

pub returns-clause-closed_is_known : goal.returns-clause-closed_is_known
returns-clause-closed_is_known c = closed_is_known

pub returns-clause-closed_stays : goal.returns-clause-closed_stays
returns-clause-closed_stays c = closed_stays
