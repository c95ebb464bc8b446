-- One change, by what settling answers.
use Rattle.std.proofs.Common.{◌∙◌}
use Rattle.vhdl_cycle.specs.Simulating.{state_of}
use Rattle.vhdl_cycle.proofs.Changing.{changed, unchanged}
use Rattle.vhdl_cycle.proofs.sim.Sim.finish.Goals as goal

pub returns-in_err-settle-clause-every_order : goal.returns-in_err-settle-clause-every_order
returns-in_err-settle-clause-every_order c = λ d runs orders are number shown.
    let failed = c.in_err-settle.ensures.every_order d runs orders are in
    unchanged d orders (state_of d c.args.self.now) number (state_of d c.settle.new.self) c.in_err-settle.field-0.0 (failed.0, failed.1 ∙ shown) c.from_residual.result c.from_residual.ensures.1

pub returns-clause-every_order : goal.returns-clause-every_order
returns-clause-every_order c = λ d runs orders are number shown.
    changed d orders (state_of d c.args.self.now) number (state_of d c.settle.new.self) c.in_ok-settle.field-0 (c.in_ok-settle.ensures.every_order d runs orders are)
