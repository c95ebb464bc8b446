-- Where nothing is next, nothing is added.
use Rattle.specialise_laws.proofs.Listing.{first_more, first_all}
use Rattle.specialise_laws.proofs.laws.all_listed_law.Goals as goal

pub returns-clause-next : goal.returns-clause-next
returns-clause-next c typed list i a e = first_more typed list i a e

pub returns-clause-last : goal.returns-clause-last
returns-clause-last c typed list n a e l = first_all typed list n a e l
