-- The variables of the function.
use Rattle.std.proofs.Common.{ℕ, IfOk, subst, ap, ◌∙◌}
use Rattle.vh_tree.specs.StaticRules.{width_among}
use Rattle.vh_tree_static.specs.Measures.{CalleeOver}
use Rattle.rw_base_tables.specs.Tables.{Known}
use Rattle.vh_tree_static.proofs.fit.callee.Goals as goal

pub returns : goal.returns
returns c =
    subst (λ (vars : Known ℕ). IfOk c.callee_over.result (CalleeOver vars c.args.callees.now c.args.function.now)) (c.in_ok-vars.ensures ∙ ap width_among (c.deref.ensures.value ∙ c.in_ok-vars_in.ensures)) c.callee_over.ensures
