-- A change of `clk`.
use Rattle.std.proofs.Common.{◌≡◌, ◌+◌, [], ◌∷◌, codes, refl, ap, ◌∙◌, subst}
use Rattle.rw_base.specs.declared.bit.Bit9.TheVariants.{One}
use Rattle.vh_tree.specs.Bench.{text_schedule, or_change, settled, set_port}
use Rattle.vh_tree.specs.Bench.{edge as rising}
use Rattle.vh_tree.specs.DeltaCycle.{Orders, AreOrders}
use Rattle.vh_tree.specs.declared.design.Design.{Design}
use Rattle.vhdl_cycle.specs.Simulating.{Simulates, state_of, change_of, most_cycles, IsChanged}
use Rattle.vhdl_cycle.proofs.sim.Sim.edge.Goals as goal
use Rattle.vhdl_cycle.proofs.sim.Sim.edge.Goals.{After-finish}

module _ (c : After-finish) (d : Design) (r : Simulates d c.args.self.now) where
  begun : Simulates d c.count.new.self
  begun = c.count.ensures.runs d r

  given : Simulates d c.give.new.self
  given = c.give.ensures.runs d begun (codes "clk") (record { place = (c.port_law.ensures.places d).clk }) refl

  state : state_of d c.give.new.self ≡ rising (state_of d c.args.self.now)
  state = c.give.ensures.given d begun (codes "clk") (record { place = (c.port_law.ensures.places d).clk }) refl ∙ ap (set_port (codes "clk") (One ∷ [])) (c.count.ensures.state d)

  every : (orders : Orders) → AreOrders d orders → IsChanged (or_change (change_of c.args.self.now + 1) (settled d orders most_cycles (rising (state_of d c.args.self.now)))) (state_of d c.finish.new.self) c.finish.result
  every orders are =
      subst (λ s. IsChanged (or_change (change_of c.args.self.now + 1) (settled d orders most_cycles s)) (state_of d c.finish.new.self) c.finish.result) state
      (c.finish.ensures.every_order d given orders are (change_of c.args.self.now + 1) (c.give.ensures.change ∙ c.count.ensures.change))

pub returns-clause-runs : goal.returns-clause-runs
returns-clause-runs c = λ d r. c.finish.ensures.runs d (given c d r)

pub returns-clause-value : goal.returns-clause-value
returns-clause-value c = λ d r. every c d r (text_schedule d (change_of c.args.self.now + 1)) (c.order_law.ensures.in_text d (change_of c.args.self.now + 1))

pub returns-clause-every_order : goal.returns-clause-every_order
returns-clause-every_order c = λ d r schedule is. every c d r (schedule (change_of c.args.self.now + 1)) (is (change_of c.args.self.now + 1))
