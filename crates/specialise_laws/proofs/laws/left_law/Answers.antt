-- What is listed stays so.
use Rattle.specialise_laws.proofs.Listing.{next_left, nothing_listed, left_known, left_new}
use Rattle.specialise_laws.proofs.laws.left_law.Goals as goal

pub returns-clause-next : goal.returns-clause-next
returns-clause-next c typed list left l = next_left typed list left l

pub returns-clause-begins : goal.returns-clause-begins
returns-clause-begins c typed = nothing_listed typed

pub returns-clause-known : goal.returns-clause-known
returns-clause-known c typed list left i l e = left_known typed list left i l e

pub returns-clause-new : goal.returns-clause-new
returns-clause-new c typed list left i l = left_new typed list left i l
