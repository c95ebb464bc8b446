use Rattle.std.proofs.Common.{◌≡◌, ◌+◌, min, None, Some, Ok, Err, ap, sym, subst, ◌∙◌, arith}
use Rattle.vh_tree.specs.Bench.{settled, start_of, edge, or_change}
use Rattle.vhdl_cycle.specs.Simulating.{most_cycles, Simulates, state_of, change_of, last_change, IsChanged}
use Rattle.vhdl_bench.proofs.Clocking.{last_is, low_failed, low_settled, change_failed, changed_done}
use Rattle.vhdl_bench.proofs.bench.reset.Goals as goal

pub returns-in-Err : goal.returns-in-Err
returns-in-Err c = λ schedule is.
    let d = c.args.design.now in
    let e = c.in-Err.ensures.every_order d c.in_ok-sim.ensures.runs (schedule 1) (is 1) in
    low_failed d schedule 1 (start_of d) (subst (λ s. settled d (schedule 1) most_cycles s ≡ None) c.in_ok-sim.ensures.starts e.0) ∙ ap Err (sym (e.1 ∙ c.in_ok-sim.ensures.first))

pub returns-in-Err-edge : goal.returns-in-Err-edge
returns-in-Err-edge c = λ schedule is.
    let d = c.args.design.now in
    let low = state_of d c.settle.new.self in
    let x = c.in-Ok.ensures.every_order d c.in_ok-sim.ensures.runs (schedule 1) (is 1) in
    let first : change_of c.settle.new.self ≡ 1 = c.in-Ok.ensures.change ∙ c.in_ok-sim.ensures.first in
    let e = c.in-Err-edge.ensures.every_order d (c.in-Ok.ensures.runs d c.in_ok-sim.ensures.runs) schedule is in
    low_settled d schedule 1 (start_of d) (record { state = low; count = c.in-Ok.field-0 }) (subst (λ s. settled d (schedule 1) most_cycles s ≡ Some (record { state = low; count = c.in-Ok.field-0 })) c.in_ok-sim.ensures.starts x)
    ∙ change_failed (settled d (schedule 2) most_cycles (edge low)) 2 (state_of d c.edge.new.self) c.in-Err-edge.field-0 (let last : last_change ≡ 4294967295 = last_is in omega (arith, last))
    (subst (λ n. IsChanged (or_change (n + 1) (settled d (schedule (n + 1)) most_cycles (edge low))) (state_of d c.edge.new.self) (Err c.in-Err-edge.field-0)) first e)

pub returns-in-Ok-edge : goal.returns-in-Ok-edge
returns-in-Ok-edge c =
    let d = c.args.design.now in
    let low = state_of d c.settle.new.self in
    let first : change_of c.settle.new.self ≡ 1 = c.in-Ok.ensures.change ∙ c.in_ok-sim.ensures.first in
    let runs : Simulates d c.settle.new.self = c.in-Ok.ensures.runs d c.in_ok-sim.ensures.runs in
    record {
      runs = c.in-Ok-edge.ensures.runs d runs;
      count = (let made : change_of c.edge.new.self ≡ min (change_of c.settle.new.self + 1) last_change = c.in-Ok-edge.ensures.change in let last : last_change ≡ 4294967295 = last_is in omega (arith, made, first, last));
      led = λ schedule is.
          low_settled d schedule 1 (start_of d) (record { state = low; count = c.in-Ok.field-0 }) (subst (λ s. settled d (schedule 1) most_cycles s ≡ Some (record { state = low; count = c.in-Ok.field-0 })) c.in_ok-sim.ensures.starts (c.in-Ok.ensures.every_order d c.in_ok-sim.ensures.runs (schedule 1) (is 1)))
          ∙ changed_done (or_change 2 (settled d (schedule 2) most_cycles (edge low))) (state_of d c.edge.new.self) c.in-Ok-edge.field-0 (subst (λ n. IsChanged (or_change (n + 1) (settled d (schedule (n + 1)) most_cycles (edge low))) (state_of d c.edge.new.self) (Ok c.in-Ok-edge.field-0)) first (c.in-Ok-edge.ensures.every_order d runs schedule is));
    }
