-- The list of what was bound, as the parts of a pattern.
use Rattle.std.proofs.Common.{◌≡◌, ◌+◌, ◌∙◌, length, sym, ap, rules, arith}
use Rattle.std.proofs.lemmas.Grind.{common_steps}
use Rattle.rw_tree.specs.Views.{itself}
use Rattle.rw_tree.specs.Patterns.{pattern_parts, patterns}
use Rattle.rw_scope_rules.specs.Bindings.{row_variables}
use Rattle.rw_scope_binding.specs.Numbered.{known, numbered_row}
use Rattle.rw_scope_binding.proofs.Listed.{numbered_parts-listed, parts_variables-listed}
use Rattle.rw_scope_binding.proofs.pattern.+patterns.Goals as goal

pub bind_row-returns-clause-parts : goal.bind_row-returns-clause-parts
bind_row-returns-clause-parts t c =
    let made : patterns itself c.loop-pat.bound ≡ numbered_row (known c.args.tops.now) c.args.number.now (patterns itself c.args.pats.now) = first_of (search rules, grind (arith, common_steps)) in
    ap pattern_parts made ∙ sym (numbered_parts-listed (known c.args.tops.now) c.args.number.now (patterns itself c.args.pats.now))

pub bind_row-returns-clause-parts_count : goal.bind_row-returns-clause-parts_count
bind_row-returns-clause-parts_count t c =
    let counted : c.loop-pat.number ≡ c.args.number.now + length (row_variables (patterns itself c.args.pats.now)) = first_of (search rules, grind (arith, common_steps)) in
    counted ∙ ap (λ v. c.args.number.now + length v) (sym (parts_variables-listed (patterns itself c.args.pats.now)))
