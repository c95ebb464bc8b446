-- One number after the other.
use Rattle.std.proofs.Common.{ap, ◌∙◌, ◌++◌, ◌+◌, ◌-◌, suc, refl}
use Rattle.rw_types_equations.specs.Numbered.{numbers_from}
use Rattle.rw_types_equations.proofs.Instances.{names_start, names_more, names_done}
use Rattle.rw_types_equations.proofs.scheme.argument_names.Goals as goal

pub loop-done-init : goal.loop-done-init
loop-done-init c = ap (λ z. z ++ numbers_from (suc c.args.at.number) (c.args.at.arguments - 0)) c.new-names.ensures ∙ names_start c.args.at.number c.args.at.arguments

pub loop-done-preserved : goal.loop-done-preserved
loop-done-preserved c =
    ap (λ z. z ++ numbers_from (suc (c.loop-done.last + 1)) (c.args.at.arguments - (c.loop-done.done + 1))) c.in_ok-push.ensures.ok
    ∙ names_more _ _ _ _ _ _ c.loop-done.invariant c.loop-done-test.true refl

pub returns : goal.returns
returns c = names_done _ _ _ _ _ c.loop-done.invariant c.loop-done-test.false
