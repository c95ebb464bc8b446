use Rattle.std.proofs.Common.{rules, ◌≡◌, ◌+◌, ◌≤◌, ◌++◌, min, ap, ◌∙◌, arith}
use Rattle.vh_tree.specs.Bench.{clocked, given}
use Rattle.rw_trace.specs.Traces.{line_of}
use Rattle.vhdl_cycle.specs.Simulating.{most_cycles, state_of, change_of, last_change}
use Rattle.vhdl_bench.proofs.Clocking.{last_is, clocked_failed, changed_done}
use Rattle.vhdl_bench.proofs.bench.step.Goals as goal

pub returns-in-Err-clause-changed : goal.returns-in-Err-clause-changed
returns-in-Err-clause-changed c = λ d runs wide few schedule is.
    let last : last_change ≡ 4294967295 = last_is in
    let within : change_of c.args.sim.now + 1 + 1 ≤ last_change = omega (arith, few, last) in
    clocked_failed d schedule (change_of c.args.sim.now + 1) (given c.args.inp.now (state_of d c.args.sim.now)) (state_of d c.cycle.new.self) c.in-Err.field-0 within (c.in-Err.ensures.every_order d runs wide schedule is)

pub returns-clause-changed : goal.returns-clause-changed
returns-clause-changed c = λ d runs wide few. record {
  runs = c.in-Ok.ensures.runs d runs wide;
  count = (let made : change_of c.cycle.new.self ≡ min (change_of c.args.sim.now + 2) last_change = search rules in let last : last_change ≡ 4294967295 = last_is in omega (arith, made, few, last));
  led = λ schedule is. changed_done (clocked most_cycles d schedule (change_of c.args.sim.now + 1) (given c.args.inp.now (state_of d c.args.sim.now))) (state_of d c.cycle.new.self) c.in-Ok.field-0 (c.in-Ok.ensures.every_order d runs wide schedule is);
}

pub returns-clause-printed : goal.returns-clause-printed
returns-clause-printed c = λ d runs wide. c.in_ok-push_line.ensures ∙ ap (λ bits. c.args.text.now ++ line_of bits) (c.outp.ensures d (c.in-Ok.ensures.runs d runs wide))
