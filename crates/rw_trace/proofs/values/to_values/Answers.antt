-- Each turn takes the value of one line.
use Rattle.std.proofs.Common.{rules, ◌≤◌, ◌<◌, length, map, drop, ◌≡◌, ◌+◌, [], ◌∷◌, ◌++◌, append-nil, subst, arith}
use Rattle.std.proofs.lemmas.Grind.{common_steps}
use Rattle.rw_core.specs.Values.{plain}
use Rattle.rw_trace.specs.TraceValues.{AreEncoded, FirstWithoutValue, this_line}
use Rattle.rw_trace.proofs.Encoded.{Left, all_left, one_less}
use Rattle.rw_trace.proofs.values.to_values.Goals as goal

pub loop-line-init : goal.loop-line-init
loop-line-init c =
    let none : c.new-values.result.items ≡ [] = search rules in
    record {
      left = rw none (all_left c.args.table.now.types c.args.ty (map (λ line. line.items) c.args.lines.now));
      counted = search rules;
    }

pub returns-in-None : goal.returns-in-None
returns-in-None c =
    let types = c.args.table.now.types in
    let later = map (λ line. line.items) (drop (c.loop-line.line-index + 1) c.args.lines.now) in
    let line = c.line-item.result.items in
    let cut : map (λ line. line.items) (drop c.loop-line.line-index c.args.lines.now) ≡ line ∷ later = grind (arith, common_steps) in
    let all = subst (λ z. Left types c.args.ty (map (λ line. line.items) c.args.lines.now) z (map plain c.loop-line.values.items) c.loop-line.number) cut c.loop-line.invariant.left in
    let e : c.loop-line.number + 0 ≡ c.loop-line.number = omega arith in
    subst (λ n. FirstWithoutValue types c.args.ty (map (λ line. line.items) c.args.lines.now) n) e (all.bad 0 (this_line line later (search rules)))

pub overflow_add-number : goal.overflow_add-number
overflow_add-number c =
    let few : length c.args.lines.now ≤ 1048576 = c.requires.few in
    let in_range : c.loop-line.line-index < length c.args.lines.now = search rules in
    let counted : c.loop-line.number ≡ c.loop-line.line-index + 1 = c.loop-line.invariant.counted in
    grind (arith, common_steps)

pub loop-line-preserved : goal.loop-line-preserved
loop-line-preserved c =
    let types = c.args.table.now.types in
    let later = map (λ line. line.items) (drop (c.loop-line.line-index + 1) c.args.lines.now) in
    let line = c.line-item.result.items in
    let cut : map (λ line. line.items) (drop c.loop-line.line-index c.args.lines.now) ≡ line ∷ later = grind (arith, common_steps) in
    let all = subst (λ z. Left types c.args.ty (map (λ line. line.items) c.args.lines.now) z (map plain c.loop-line.values.items) c.loop-line.number) cut c.loop-line.invariant.left in
    let more : map plain c.push.new.self.items ≡ map plain c.loop-line.values.items ++ plain c.in-Some.value ∷ [] = grind (arith, common_steps) in
    record {
      left = rw more (one_less types c.args.ty (map (λ line. line.items) c.args.lines.now) later line (map plain c.loop-line.values.items) (plain c.in-Some.value) c.loop-line.number (search rules) all);
      counted = grind (arith, common_steps);
    }

pub returns : goal.returns
returns c =
    let types = c.args.table.now.types in
    let done = map plain c.loop-line.values.items in
    let cut : map (λ line. line.items) (drop c.loop-line.line-index c.args.lines.now) ≡ [] = grind (arith, common_steps) in
    let all = subst (λ z. Left types c.args.ty (map (λ line. line.items) c.args.lines.now) z done c.loop-line.number) cut c.loop-line.invariant.left in
    subst (λ vs. AreEncoded types c.args.ty (map (λ line. line.items) c.args.lines.now) vs) (append-nil done) (all.encoded [] tt)
