-- Over the function's variables.
use Rattle.std.proofs.Common.{ℕ, ap, sym, ◌∙◌}
use Rattle.std.specs.Prelude.{◌&&◌}
use Rattle.vh_tree.specs.StaticRules.{width_among}
use Rattle.vh_tree_static.specs.Named.{body_well}
use Rattle.rw_base_tables.specs.Tables.{Known, known_in}
use Rattle.vh_tree_static.proofs.names.function_is_named.Goals as goal

pub returns : goal.returns
returns c =
    let f = c.args.function.now in
    let arities = known_in c.args.arities.now in
    c.body_is_named.ensures ∙ ap (λ (vars : Known ℕ). body_well arities vars f) (c.in_ok-vars.ensures ∙ ap width_among c.as_slice.ensures)
    ∙ ap (λ b. b && body_well arities (width_among f.vars) f) (sym (sym c.in_ok-function_is_distinct.ensures ∙ c.if-not-branch.false))
