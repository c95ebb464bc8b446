-- A step adds one instance at most.
use Rattle.std.proofs.Common.{sym}
use Rattle.specialise_laws.proofs.Listing.{front_is, grows}
use Rattle.specialise_laws.proofs.laws.fronts_law.Goals as goal

pub returns-clause-fronts : goal.returns-clause-fronts
returns-clause-fronts c typed list m a l = front_is typed list m a l

pub returns-clause-more : goal.returns-clause-more
returns-clause-more c typed m k = let g = grows typed m k in (g.0, sym g.1)
