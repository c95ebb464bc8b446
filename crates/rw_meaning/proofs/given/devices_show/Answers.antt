-- What a device shows.
use Rattle.rw_meaning.proofs.Acting.{shows}
use Rattle.rw_meaning.proofs.given.devices_show.Goals as goal

pub returns : goal.returns
returns c = shows
