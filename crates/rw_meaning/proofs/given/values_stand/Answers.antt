-- What stands for a value.
use Rattle.rw_meaning.proofs.Acting.{as_a_value, read_stands, held_stands}
use Rattle.rw_meaning.proofs.given.values_stand.Goals as goal

pub returns-clause-read : goal.returns-clause-read
returns-clause-read c = as_a_value

pub returns-clause-held : goal.returns-clause-held
returns-clause-held c = held_stands

pub returns-clause-stands : goal.returns-clause-stands
returns-clause-stands c = read_stands
