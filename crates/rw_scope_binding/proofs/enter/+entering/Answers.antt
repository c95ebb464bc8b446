-- A pattern more, and the list as the parts of a pattern.
use Rattle.std.proofs.Common.{◌≡◌, ◌∙◌, sym, ap, rules, arith}
use Rattle.std.proofs.lemmas.Grind.{common_steps}
use Rattle.rw_tree.specs.Views.{itself}
use Rattle.rw_tree.specs.Patterns.{patterns}
use Rattle.rw_scope_rules.specs.Bindings.{entered, inside_row, names_of}
use Rattle.rw_scope_binding.proofs.Listed.{parts_variables-listed}
use Rattle.rw_scope_binding.proofs.Forms.{row_entered}
use Rattle.rw_scope_binding.proofs.enter.+entering.Goals as goal

pub enter_row-loop-pat-preserved : goal.enter_row-loop-pat-preserved
enter_row-loop-pat-preserved t c =
    row_entered c.args.pats.now c.loop-pat.pat-index c.pat-item.result c.loop-pat.scope c.enter_pattern.new.scope _ (omega arith) c.pat-item.is c.in_ok-enter_pattern.ensures c.loop-pat.invariant

pub enter_row-returns-clause-parts : goal.enter_row-returns-clause-parts
enter_row-returns-clause-parts t c =
    let row : c.loop-pat.scope ≡ inside_row (patterns itself c.args.pats.now) c.args.scope.now = first_of (search rules, grind (arith, common_steps)) in
    row ∙ ap (λ v. entered (names_of v) c.args.scope.now) (sym (parts_variables-listed (patterns itself c.args.pats.now)))
