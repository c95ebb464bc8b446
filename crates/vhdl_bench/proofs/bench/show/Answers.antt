use Rattle.std.proofs.Common.{◌≡◌, ◌+◌, ◌≤◌, [], ◌∷◌, ◌++◌, map, drop, length, nat_eq, ap, sym, subst, ◌∙◌, arith}
use Rattle.std.proofs.lemmas.Grind.{common_steps}
use Rattle.vh_tree.specs.Bench.{outp_of}
use Rattle.rw_trace.specs.Traces.{line_of}
use Rattle.vhdl_cycle.specs.Simulating.{state_of, change_of}
use Rattle.vhdl_bench.specs.Showing.{wire_of, inputs_of}
use Rattle.vhdl_bench.specs.Steps.{HasRead}
use Rattle.vhdl_bench.proofs.Benching.{reset_failed, reset_read, input_failed, input_read, all_read}
use Rattle.vhdl_bench.proofs.Inputs.{cut_here, holds_here, width_here, lines_are}
use Rattle.vhdl_bench.proofs.bench.show.Goals as goal

pub returns-in-Err : goal.returns-in-Err
returns-in-Err c = reset_failed c.args.design.now (inputs_of (map (λ bits. bits.items) c.args.inputs.now)) c.in-Err.fail c.in-Err.ensures

pub loop-bits-init : goal.loop-bits-init
loop-bits-init c =
    let d = c.args.design.now in
    let all = inputs_of (map (λ bits. bits.items) c.args.inputs.now) in
    let high = state_of d c.in-Ok.sim in
    let count : change_of c.in-Ok.sim ≡ 2 = c.in-Ok.ensures.count in
    let three : 3 ≡ change_of c.in-Ok.sim + 1 = omega (arith, count) in
    let text : line_of (outp_of high) ≡ c.push_line.new.text = sym (c.in_ok-push_line.ensures ∙ ap (λ t. t ++ line_of c.outp.result.now) c.new-text.ensures ∙ ap (λ bits. line_of bits) (c.outp.ensures d c.in-Ok.ensures.runs)) in
    record {
      runs = c.in-Ok.ensures.runs;
      count = count;
      read = subst (λ t. HasRead d all (change_of c.in-Ok.sim + 1) high all t) text (subst (λ n. HasRead d all n high all (line_of (outp_of high))) three (reset_read d all high c.in-Ok.ensures.led));
    }

pub returns-in-Err-step : goal.returns-in-Err-step
returns-in-Err-step c =
    let d = c.args.design.now in
    let all = inputs_of (map (λ bits. bits.items) c.args.inputs.now) in
    let high = state_of d c.loop-bits.sim in
    let change = change_of c.loop-bits.sim in
    let index = c.loop-bits.bits-index in
    let item = c.bits-item.result in
    let inp = c.as_slice-in-loop-bits.result.now in
    let later = inputs_of (map (λ bits. bits.items) (drop (index + 1) c.args.inputs.now)) in
    let cut : drop index c.args.inputs.now ≡ item ∷ drop (index + 1) c.args.inputs.now = cut_here c.args.inputs.now index item c.loop-bits-test.true c.bits-item.is in
    let wires : map wire_of item.items ≡ inp = sym (c.as_slice-in-loop-bits.ensures.value ∙ c.in_ok-put_wires.ensures ∙ ap (map wire_of) c.as_slice.ensures.value) in
    let wide : length inp ≡ d.inp =
    ap length (sym wires) ∙ width_here d.inp item.items (holds_here (λ bits. nat_eq (length bits.items) d.inp) c.args.inputs.now index item c.loop-bits-test.true c.bits-item.is c.requires.widths) in
    let read : HasRead d all (change + 1) high (inp ∷ later) c.loop-bits.text =
    subst (λ i. HasRead d all (change + 1) high (i ∷ later) c.loop-bits.text) wires
    (subst (λ xs. HasRead d all (change + 1) high (inputs_of (map (λ bits. bits.items) xs)) c.loop-bits.text) cut c.loop-bits.invariant.read) in
    let few : change + 2 ≤ 4294967295 = omega (arith, c.loop-bits.invariant.count, c.loop-bits-test.true, c.requires.few, lines_are) in
    input_failed d all change high inp later c.loop-bits.text c.step.new.sim c.in-Err-step.fail few read (c.in-Err-step.ensures.changed d c.loop-bits.invariant.runs wide)

pub loop-bits-preserved : goal.loop-bits-preserved
loop-bits-preserved c =
    let d = c.args.design.now in
    let all = inputs_of (map (λ bits. bits.items) c.args.inputs.now) in
    let high = state_of d c.loop-bits.sim in
    let change = change_of c.loop-bits.sim in
    let index = c.loop-bits.bits-index in
    let item = c.bits-item.result in
    let inp = c.as_slice-in-loop-bits.result.now in
    let later = inputs_of (map (λ bits. bits.items) (drop (index + 1) c.args.inputs.now)) in
    let cut : drop index c.args.inputs.now ≡ item ∷ drop (index + 1) c.args.inputs.now = cut_here c.args.inputs.now index item c.loop-bits-test.true c.bits-item.is in
    let wires : map wire_of item.items ≡ inp = sym (c.as_slice-in-loop-bits.ensures.value ∙ c.in_ok-put_wires.ensures ∙ ap (map wire_of) c.as_slice.ensures.value) in
    let wide : length inp ≡ d.inp =
    ap length (sym wires) ∙ width_here d.inp item.items (holds_here (λ bits. nat_eq (length bits.items) d.inp) c.args.inputs.now index item c.loop-bits-test.true c.bits-item.is c.requires.widths) in
    let read : HasRead d all (change + 1) high (inp ∷ later) c.loop-bits.text =
    subst (λ i. HasRead d all (change + 1) high (i ∷ later) c.loop-bits.text) wires
    (subst (λ xs. HasRead d all (change + 1) high (inputs_of (map (λ bits. bits.items) xs)) c.loop-bits.text) cut c.loop-bits.invariant.read) in
    let few : change + 2 ≤ 4294967295 = omega (arith, c.loop-bits.invariant.count, c.loop-bits-test.true, c.requires.few, lines_are) in
    let at = c.in-Ok-step.ensures.changed d c.loop-bits.invariant.runs wide few in
    let next = state_of d c.step.new.sim in
    let count : change_of c.step.new.sim ≡ change + 1 + 1 = at.count in
    let later_change : change + 1 + 2 ≡ change_of c.step.new.sim + 1 = omega (arith, count) in
    let text : c.loop-bits.text ++ line_of (outp_of next) ≡ c.step.new.text = sym (c.in-Ok-step.ensures.printed d c.loop-bits.invariant.runs wide) in
    record {
      runs = at.runs;
      count = omega (arith, count, c.loop-bits.invariant.count);
      read = subst (λ t. HasRead d all (change_of c.step.new.sim + 1) next later t) text
          (subst (λ n. HasRead d all n next later (c.loop-bits.text ++ line_of (outp_of next))) later_change (input_read d all (change + 1) high next inp later c.loop-bits.text read at.led));
    }

pub returns : goal.returns
returns c =
    let d = c.args.design.now in
    let all = inputs_of (map (λ bits. bits.items) c.args.inputs.now) in
    let end : drop c.loop-bits.bits-index c.args.inputs.now ≡ [] = grind (arith, common_steps) in
    all_read d all (change_of c.loop-bits.sim + 1) (state_of d c.loop-bits.sim) c.loop-bits.text
    (subst (λ xs. HasRead d all (change_of c.loop-bits.sim + 1) (state_of d c.loop-bits.sim) (inputs_of (map (λ bits. bits.items) xs)) c.loop-bits.text) end c.loop-bits.invariant.read)
