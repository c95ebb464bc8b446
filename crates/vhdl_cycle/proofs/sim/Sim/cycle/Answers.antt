-- A change of `rst`, `clk` and `inp`, and one of `clk`.
use Rattle.std.proofs.Common.{◌≡◌, ℕ, ◌+◌, [], ◌∷◌, length, min, codes, refl, ap, ◌∙◌, arith, Result, Ok, Err, IsErrAnd}
use Rattle.rw_base.specs.declared.bit.Bit9.TheVariants.{Zero}
use Rattle.vh_tree.specs.Bench.{Schedule, IsSchedule, text_schedule, or_change, settled, set_port, clocked, edge}
use Rattle.vh_tree.specs.DeltaCycle.{Orders, AreOrders}
use Rattle.vh_tree.specs.declared.design.Design.{Design}
use Rattle.vhdl_cycle.specs.Simulating.{StandsAt, Simulates, state_of, change_of, most_cycles, last_change, given_with, IsChanged}
use Rattle.vhdl_cycle.proofs.Changing.{clocked_on, clocked_off, inp_wide}
use Rattle.vhdl_cycle.specs.declared.unsettled.NotSettled.{NotSettled}
use Rattle.vh_tree.specs.declared.wire.State.{State}
use Rattle.vhdl_cycle.proofs.sim.Sim.cycle.Goals as goal
use Rattle.vhdl_cycle.proofs.sim.Sim.cycle.Goals.{After-finish}

-- counts of changes that are shown the same
one_more : (change shown : ℕ) → shown ≡ min change last_change → min (shown + 1) last_change ≡ min (change + 1) last_change
one_more change shown is = omega arith

module _ (c : After-finish) (d : Design) (r : Simulates d c.args.self.now) (wide : length c.args.inp.now ≡ d.inp) where
  begun : Simulates d c.count.new.self
  begun = c.count.ensures.runs d r

  at_inp : StandsAt d (codes "inp") c.count.new.self.inp
  at_inp = begun.inp

  fits_inp : length c.args.inp.now ≡ c.count.new.self.inp.len
  fits_inp = wide ∙ inp_wide d c.count.new.self.inp at_inp

  given_inp : Simulates d c.give.new.self
  given_inp = c.give.ensures.runs d begun (codes "inp") at_inp fits_inp

  given_clk : Simulates d c.give-2.new.self
  given_clk = c.give-2.ensures.runs d given_inp (codes "clk") (record { place = (c.port_law.ensures.places d).clk }) refl

  given_rst : Simulates d c.give-3.new.self
  given_rst = c.give-3.ensures.runs d given_clk (codes "rst") (record { place = (c.port_law.ensures.places d).rst }) refl

  state : state_of d c.give-3.new.self ≡ given_with c.args.rst c.args.inp.now (state_of d c.args.self.now)
  state =
      c.give-3.ensures.given d given_clk (codes "rst") (record { place = (c.port_law.ensures.places d).rst }) refl
      ∙ ap (set_port (codes "rst") (c.args.rst ∷ []))
      (c.give-2.ensures.given d given_inp (codes "clk") (record { place = (c.port_law.ensures.places d).clk }) refl
      ∙ ap (set_port (codes "clk") (Zero ∷ []))
      (c.give.ensures.given d begun (codes "inp") at_inp fits_inp ∙ ap (set_port (codes "inp") c.args.inp.now) (c.count.ensures.state d)))

  number : change_of c.give-3.new.self ≡ min (change_of c.args.self.now + 1) last_change
  number = c.give-3.ensures.change ∙ (c.give-2.ensures.change ∙ (c.give.ensures.change ∙ c.count.ensures.change))

  on : (schedule : Schedule) → IsSchedule d schedule → (new : State) (result : Result Unit NotSettled) →
      ((orders : Orders) → AreOrders d orders → IsChanged (or_change (change_of c.finish.new.self + 1) (settled d orders most_cycles (edge (state_of d c.finish.new.self)))) new result) →
      IsChanged (or_change (change_of c.args.self.now + 1) (settled d (schedule (change_of c.args.self.now + 1)) most_cycles (state_of d c.give-3.new.self))) (state_of d c.finish.new.self) (Ok tt) →
      IsChanged (clocked most_cycles d schedule (change_of c.args.self.now + 1) (given_with c.args.rst c.args.inp.now (state_of d c.args.self.now))) new result
  on schedule is new result then first =
      let shown = c.finish.ensures.change ∙ number in
      clocked_on d schedule (change_of c.args.self.now + 1) (given_with c.args.rst c.args.inp.now (state_of d c.args.self.now)) (state_of d c.give-3.new.self) (state_of d c.finish.new.self) state
      (change_of c.finish.new.self + 1) new result (one_more (change_of c.args.self.now + 1) (change_of c.finish.new.self) shown) first (then (schedule (change_of c.args.self.now + 1 + 1)) (is (change_of c.args.self.now + 1 + 1)))

  off : (schedule : Schedule) → IsSchedule d schedule → (fault : NotSettled) →
      IsChanged (or_change (change_of c.args.self.now + 1) (settled d (schedule (change_of c.args.self.now + 1)) most_cycles (state_of d c.give-3.new.self))) (state_of d c.finish.new.self) (Err fault) →
      (result : Result Unit NotSettled) → IsErrAnd result (λ e. e ≡ fault) →
      IsChanged (clocked most_cycles d schedule (change_of c.args.self.now + 1) (given_with c.args.rst c.args.inp.now (state_of d c.args.self.now))) (state_of d c.finish.new.self) result
  off schedule is fault first result err =
      clocked_off d schedule (change_of c.args.self.now + 1) (given_with c.args.rst c.args.inp.now (state_of d c.args.self.now)) (state_of d c.give-3.new.self) (state_of d c.finish.new.self) state fault first result err

pub returns-in_err-finish-clause-runs : goal.returns-in_err-finish-clause-runs
returns-in_err-finish-clause-runs c = λ d r wide. c.finish.ensures.runs d (given_rst c.before.before.before d r wide)

pub returns-in_err-finish-clause-value : goal.returns-in_err-finish-clause-value
returns-in_err-finish-clause-value c = λ d r wide.
    off c.before.before.before d r wide (text_schedule d) (c.order_law.ensures.in_text d) c.in_err-finish.field-0.0
    (c.in_err-finish.ensures.every_order d (given_rst c.before.before.before d r wide) (text_schedule d (change_of c.args.self.now + 1)) (c.order_law.ensures.in_text d (change_of c.args.self.now + 1)) (change_of c.args.self.now + 1) (number c.before.before.before d r wide))
    c.from_residual.result c.from_residual.ensures.1

pub returns-in_err-finish-clause-every_order : goal.returns-in_err-finish-clause-every_order
returns-in_err-finish-clause-every_order c = λ d r wide schedule is.
    off c.before.before.before d r wide schedule is c.in_err-finish.field-0.0
    (c.in_err-finish.ensures.every_order d (given_rst c.before.before.before d r wide) (schedule (change_of c.args.self.now + 1)) (is (change_of c.args.self.now + 1)) (change_of c.args.self.now + 1) (number c.before.before.before d r wide))
    c.from_residual.result c.from_residual.ensures.1

pub returns-clause-runs : goal.returns-clause-runs
returns-clause-runs c = λ d r wide. c.edge.ensures.runs d (c.finish.ensures.runs d (given_rst c.before.before.before.before d r wide))

pub returns-clause-value : goal.returns-clause-value
returns-clause-value c = λ d r wide.
    let begun = given_rst c.before.before.before.before d r wide in
    on c.before.before.before.before d r wide (text_schedule d) (c.order_law.ensures.in_text d) (state_of d c.edge.new.self) c.edge.result
    (λ orders are. c.edge.ensures.every_order d (c.finish.ensures.runs d begun) (λ change. orders) (λ change. are))
    (c.in_ok-finish.ensures.every_order d begun (text_schedule d (change_of c.args.self.now + 1)) (c.order_law.ensures.in_text d (change_of c.args.self.now + 1)) (change_of c.args.self.now + 1) (number c.before.before.before.before d r wide))

pub returns-clause-every_order : goal.returns-clause-every_order
returns-clause-every_order c = λ d r wide schedule is.
    let begun = given_rst c.before.before.before.before d r wide in
    on c.before.before.before.before d r wide schedule is (state_of d c.edge.new.self) c.edge.result (λ orders are. c.edge.ensures.every_order d (c.finish.ensures.runs d begun) (λ change. orders) (λ change. are))
    (c.in_ok-finish.ensures.every_order d begun (schedule (change_of c.args.self.now + 1)) (is (change_of c.args.self.now + 1)) (change_of c.args.self.now + 1) (number c.before.before.before.before d r wide))
