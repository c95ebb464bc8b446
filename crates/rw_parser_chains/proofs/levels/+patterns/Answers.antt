-- A constructor and a tuple stand one level above their parts.
use Rattle.std.proofs.Common.{◌≡◌, ◌∙◌, ap, sym, suc, arith}
use Rattle.rw_parser_chains.specs.Sizes.{pattern_size, patterns_size}
use Rattle.rw_parser_chains.proofs.Counts.{pattern-Con, pattern-Tuple}
use Rattle.rw_parser_chains.proofs.levels.+patterns.Goals as goal

pub pattern_levels-returns-in-Con : goal.pattern_levels-returns-in-Con
pattern_levels-returns-in-Con t c =
    let e : pattern_size c.args.pat.now ≡ suc (patterns_size c.as_slice.result.now) = ap pattern_size c.in-Con.is ∙ pattern-Con _ _ _ ∙ ap (λ z. suc (patterns_size z)) (sym c.as_slice.ensures) in
    omega (arith, e, c.capped.ensures, c.patterns_levels.ensures)

pub pattern_levels-returns-in-Tuple : goal.pattern_levels-returns-in-Tuple
pattern_levels-returns-in-Tuple t c =
    let e : pattern_size c.args.pat.now ≡ suc (patterns_size c.as_slice-in-Tuple.result.now) = ap pattern_size c.in-Tuple.is ∙ pattern-Tuple _ _ ∙ ap (λ z. suc (patterns_size z)) (sym c.as_slice-in-Tuple.ensures) in
    omega (arith, e, c.capped-in-Tuple.ensures, c.patterns_levels-in-Tuple.ensures)
