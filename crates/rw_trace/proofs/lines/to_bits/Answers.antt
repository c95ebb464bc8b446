use Rattle.std.proofs.Common.{rules, ◌≡◌, ◌≤◌, ◌∷◌, [], map, length, Some, ◌+◌, ◌-◌, ◌++◌, ◌∙◌, ap, arith}
use Rattle.std.proofs.lemmas.Grind.{common_steps}
use Rattle.rw_trace.specs.Traces.{lines_of, line_read, lines_read}
use Rattle.rw_trace.proofs.Cutting.{read_behind, line_more}
use Rattle.rw_trace.proofs.lines.to_bits.Goals as goal

pub loop-rest-preserved : goal.loop-rest-preserved
loop-rest-preserved c =
    let width = c.args.width in
    let number = c.loop-rest.number in
    let line = c.split_at.result.0.now in
    let rest = c.loop-rest.rest.now in
    let later = c.split_at.result.1.now in
    let behind = length c.args.bytes.now - length rest in
    let last = length c.args.bytes.now - length later in
    let done = map (λ bits. bits.items) c.loop-rest.lines.items in
    let read : line_read width number last line ≡ Some c.in-Some.bits.items = search rules in
    let few : number ≤ 1048576 = search rules in
    let cut : lines_of rest ≡ line ∷ lines_of later = search rules in
    let end : last ≡ behind + length line = omega (arith, c.split_at.ensures.back_len, c.split_at.ensures.front_len, c.loop-rest.invariant.within) in
    let all : map (λ bits. bits.items) c.push.new.self.items ≡ done ++ (c.in-Some.bits.items ∷ []) = grind (arith, common_steps) in
    record {
      within = omega (arith, c.split_at.ensures.back_len, c.loop-rest.invariant.within);
      few = omega (arith, few);
      counted = grind (arith, common_steps);
      widths = grind (arith, common_steps);
      whole =
          ap (λ d. read_behind d (lines_read width (number + 1) last (lines_of later))) all
          ∙ line_more done c.in-Some.bits.items width number behind last line rest later cut end read
          ∙ c.loop-rest.invariant.whole;
    }
