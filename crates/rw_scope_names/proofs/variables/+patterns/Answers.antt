-- A pattern more, and the list as the parts of a pattern.
use Rattle.std.proofs.Common.{◌∙◌, ◌++◌, sym, ap, arith}
use Rattle.rw_tree.specs.Views.{itself}
use Rattle.rw_tree.specs.Patterns.{patterns}
use Rattle.rw_scope_rules.specs.Names.{repeated}
use Rattle.rw_scope_names.proofs.Binders.{parts_variables-listed, row_end, row_seen}
use Rattle.rw_scope_names.proofs.variables.+patterns.Goals as goal

pub see_row-loop-pat-preserved : goal.see_row-loop-pat-preserved
see_row-loop-pat-preserved t c = λ rest.
    row_seen c.args.pats.now c.loop-pat.pat-index c.pat-item.result c.loop-pat.seen c.see_pattern.new.seen c.loop-pat.places.items c.see_pattern.new.places.items _ rest
    (omega arith) c.pat-item.is c.in_ok-see_pattern.ensures (c.loop-pat.invariant rest)

pub see_row-returns-clause-row : goal.see_row-returns-clause-row
see_row-returns-clause-row t c = λ rest. row_end c.args.pats.now c.loop-pat.pat-index c.loop-pat.seen c.loop-pat.places.items _ rest (omega arith) (c.loop-pat.invariant rest)

pub see_row-returns-clause-parts : goal.see_row-returns-clause-parts
see_row-returns-clause-parts t c = λ rest.
    row_end c.args.pats.now c.loop-pat.pat-index c.loop-pat.seen c.loop-pat.places.items _ rest (omega arith) (c.loop-pat.invariant rest)
    ∙ ap (λ vs. c.args.places.now.items ++ repeated c.args.seen.now (vs ++ rest)) (sym (parts_variables-listed (patterns itself c.args.pats.now)))
