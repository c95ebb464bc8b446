-- What settling answers, by the laws of buffers and of orders.
use Rattle.std.proofs.Common.{Ok, Err}
use Rattle.vh_tree.specs.Bench.{text_schedule}
use Rattle.vhdl_cycle.specs.Simulating.{state_of}
use Rattle.vhdl_cycle.proofs.Settling.{runs_on, settles_at, settles_never, first_quiet}
use Rattle.vhdl_cycle.proofs.sim.Sim.settle.Goals as goal

pub returns-in-Some-clause-runs : goal.returns-in-Some-clause-runs
returns-in-Some-clause-runs c = runs_on c.cycles_law.ensures.cycles c.order_law.ensures.in_text _ _ c.settle_buffers.ensures.same c.settle_buffers.ensures.reaches

pub returns-in-Some-clause-value : goal.returns-in-Some-clause-value
returns-in-Some-clause-value c = λ d runs.
    settles_at c.cycles_law.ensures.settles c.args.self.now c.settle_buffers.new.self _ c.in-Some.ensures.value d runs (text_schedule d c.args.self.now.change) (c.order_law.ensures.in_text d c.args.self.now.change)

pub returns-in-Some-clause-every_order : goal.returns-in-Some-clause-every_order
returns-in-Some-clause-every_order c = settles_at c.cycles_law.ensures.settles c.args.self.now c.settle_buffers.new.self _ c.in-Some.ensures.value

pub returns-in-None-clause-runs : goal.returns-in-None-clause-runs
returns-in-None-clause-runs c = runs_on c.cycles_law.ensures.cycles c.order_law.ensures.in_text _ _ c.settle_buffers.ensures.same c.settle_buffers.ensures.reaches

pub returns-in-None-clause-value : goal.returns-in-None-clause-value
returns-in-None-clause-value c = λ d runs.
    (settles_never c.cycles_law.ensures.settles c.args.self.now c.settle_buffers.new.self c.in-None.ensures.value d runs (text_schedule d c.args.self.now.change) (c.order_law.ensures.in_text d c.args.self.now.change), c.settle_buffers.ensures.change)

pub returns-in-None-clause-every_order : goal.returns-in-None-clause-every_order
returns-in-None-clause-every_order c = λ d runs orders are. (settles_never c.cycles_law.ensures.settles c.args.self.now c.settle_buffers.new.self c.in-None.ensures.value d runs orders are, c.settle_buffers.ensures.change)

pub returns-in-Some-clause-first_quiet : goal.returns-in-Some-clause-first_quiet
returns-in-Some-clause-first_quiet c = λ d runs orders are.
    first_quiet c.settling_law.ensures d orders (state_of d c.args.self.now) (state_of d c.settle_buffers.new.self) c.args.self.now.change (Ok c.in-Some.count)
    (settles_at c.cycles_law.ensures.settles c.args.self.now c.settle_buffers.new.self c.in-Some.count c.in-Some.ensures.value d runs orders are)

pub returns-in-None-clause-first_quiet : goal.returns-in-None-clause-first_quiet
returns-in-None-clause-first_quiet c = λ d runs orders are.
    first_quiet c.settling_law.ensures d orders (state_of d c.args.self.now) (state_of d c.settle_buffers.new.self) c.args.self.now.change (Err (record { 0 = c.settle_buffers.new.self.change }))
    (settles_never c.cycles_law.ensures.settles c.args.self.now c.settle_buffers.new.self c.in-None.ensures.value d runs orders are, c.settle_buffers.ensures.change)
