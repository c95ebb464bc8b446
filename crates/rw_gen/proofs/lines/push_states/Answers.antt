-- A bar and one state more.
use Rattle.std.proofs.Common.{◌≡◌, suc, ◌+◌, ◌-◌, ◌++◌, codes, ap, sym, ◌∙◌, arith}
use Rattle.rw_gen.specs.Workload.{named, states_to}
use Rattle.rw_gen.proofs.Steps.{pushed_more, states_to-more}
use Rattle.rw_gen.proofs.lines.push_states.Goals as goal

pub loop-state-preserved : goal.loop-state-preserved
loop-state-preserved c =
    let old = c.args.text.now.items in
    let s = c.loop-state.state in
    let front = codes "data S = " ++ states_to (s - 1) in
    let a = pushed_more old front c.loop-state.text.items c.extend_from_slice-in-loop-state.new.self.items (codes " | ") c.loop-state.invariant c.in_ok-extend_from_slice-2.ensures.items in
    let b = pushed_more old (front ++ codes " | ") c.extend_from_slice-in-loop-state.new.self.items c.push_name-in-loop-state.new.text.items (named (codes "S") s) a c.in_ok-push_name-2.ensures in
    let e : s ≡ suc (s - 1) = omega arith in
    let n : s ≡ s + 1 - 1 = omega arith in
    b ∙ ap (λ states. old ++ (codes "data S = " ++ states)) (sym (states_to-more (s - 1) s e)) ∙ ap (λ m. old ++ (codes "data S = " ++ states_to m)) n
