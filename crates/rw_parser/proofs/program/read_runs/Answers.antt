-- Run after run.
use Rattle.std.proofs.Common.{◌∙◌, ◌+◌, ◌<◌, length, take, drop, None, sym, ap, subst, arith, inr}
use Rattle.std.proofs.lemmas.Result.{err_from_is_err_and}
use Rattle.rw_parser_reading.specs.ReadProgram.{items_at}
use Rattle.rw_parser.specs.Shallow.{kept_behind, nothing}
use Rattle.rw_parser.proofs.Turns.{Left, left_next, left_none, left_refused, rest_shorter}
use Rattle.rw_parser.proofs.program.read_runs.Goals as goal

pub loop-run-init : goal.loop-run-init
loop-run-init g c = record {
  left = λ reads n runs l e. (runs, inr (length c.args.tokens.now, e), ap (λ z. kept_behind ((z, None), None) (items_at n runs)) c.new.ensures);
  shorter = omega arith;
}

pub returns-in_err-kept : goal.returns-in_err-kept
returns-in_err-kept g c = λ reads n runs l e.
    let p = err_from_is_err_and c.from_residual.result c.from_residual.ensures.1 in
    let rest = c.loop-run.rest.now in
    let k = c.in-Some.run' in
    let ends = c.in-Some.ensures.ends.1 in
    let i = c.loop-run.invariant.left reads n runs l e in
    let s = left_next rest (take k rest) ends.0 (drop (k + 1) rest) i.0 ends.1 i.1 in
    let h = c.loop-run.invariant.shorter in
    let w = c.in-Some.ensures.within in
    let small : k < n = omega arith in
    rw (p.1, p.2) (left_refused n (take k rest, ends.0) c.loop-run.kept c.in_err-kept.field-0.0 s.0 (kept_behind nothing (items_at n runs)) (c.in_err-kept.ensures reads n ends.0 small ends.2)
    (ap (λ z. kept_behind c.loop-run.kept (items_at n z)) (sym s.1) ∙ i.2))

pub loop-run-preserved : goal.loop-run-preserved
loop-run-preserved g c =
    let rest = c.loop-run.rest.now in
    let k = c.in-Some.run' in
    let ends = c.in-Some.ensures.ends.1 in
    let h = c.loop-run.invariant.shorter in
    let w = c.in-Some.ensures.within in
    record {
      left = λ reads n runs l e.
          let i = c.loop-run.invariant.left reads n runs l e in
          let s = left_next rest (take k rest) ends.0 (drop (k + 1) rest) i.0 ends.1 i.1 in
          let small : k < n = omega arith in
          let found = c.in_ok-kept.ensures reads n ends.0 small ends.2 s.0 in
          (s.0, subst (λ z. Left z s.0) (sym c.tokens_from-rest.ensures) s.2, sym found ∙ ap (λ z. kept_behind c.loop-run.kept (items_at n z)) (sym s.1) ∙ i.2);
      shorter = rest_shorter rest c.tokens_from-rest.result.now (k + 1) (length c.args.tokens.now) c.tokens_from-rest.ensures c.loop-run.invariant.shorter;
    }

pub returns : goal.returns
returns g c = λ reads n runs l e.
    let p = c.loop-run.invariant.left reads n runs l e in
    let none = left_none c.loop-run.rest.now p.0 c.in_default.ensures.ends p.1 in
    sym p.2 ∙ ap (λ z. kept_behind c.loop-run.kept (items_at n z)) none
