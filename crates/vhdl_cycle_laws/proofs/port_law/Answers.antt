-- The laws of ports.
use Rattle.std.proofs.Common.{refl}
use Rattle.vhdl_cycle_laws.proofs.Ports.{starts, given_stands, read_stands}
use Rattle.vhdl_cycle_laws.proofs.port_law.Goals as goal

pub returns-clause-starts : goal.returns-clause-starts
returns-clause-starts c = starts

pub returns-clause-places : goal.returns-clause-places
returns-clause-places c = λ d. record { clk = refl; rst = refl; inp = refl; outp = refl }

pub returns-clause-given : goal.returns-clause-given
returns-clause-given c = given_stands

pub returns-clause-read : goal.returns-clause-read
returns-clause-read c = read_stands
