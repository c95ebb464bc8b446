-- The bits in the place of `outp` are its value.
use Rattle.std.proofs.Common.{ap, ◌∙◌, codes}
use Rattle.vhdl_cycle_flat.specs.Flat.{part_of}
use Rattle.vhdl_cycle.specs.Simulating.{flat_of}
use Rattle.vhdl_cycle.proofs.sim.Sim.outp.Goals as goal

pub returns : goal.returns
returns c = λ d r.
    let sim = c.args.self.now in
    c.read.ensures ∙ (ap (part_of sim.outp.from sim.outp.len) c.as_slice.ensures.value ∙ c.port_law.ensures.read d (flat_of sim) r.fits (codes "outp") sim.outp r.outp.place)
