-- The default is a closed most general solution.
use Rattle.std.proofs.Common.{◌∙◌, sym, ap}
use Rattle.rw_types_solving.specs.Types.{meaning}
use Rattle.rw_types_solving.specs.Conditions.{hold, any, listed}
use Rattle.rw_types_solving.proofs.MostGeneral.{default_is, closed_at, closed_solves, none_holds}
use Rattle.rw_types_solving.proofs.Defaults.{closed_ground, closed_small, closed_sorted, closed_holds}
use Rattle.rw_types_solving.proofs.table.Table.default.Goals as goal

pub returns-then-not-all_hold-clause-refused : goal.returns-then-not-all_hold-clause-refused
returns-then-not-all_hold-clause-refused c = λ _.
    none_holds _ _ _ _ c.in_ok-types.ensures.general
    (ap (λ z. hold any (listed c.args.states.now) (meaning z) c.args.conditions.now) (sym c.as_slice.ensures) ∙ sym c.all_hold.ensures ∙ c.if-not-all_hold.true)

pub returns-clause-default : goal.returns-clause-default
returns-clause-default c =
    default_is _ _ _ _ c.in_ok-types.ensures.general c.in_ok-types.ensures.small
    (closed_at _ _ _ _ c.as_slice-2.ensures (c.requires.as_many ∙ sym c.in_ok-types.ensures.as_many) c.in_ok-closed.ensures)

pub returns-clause-solves : goal.returns-clause-solves
returns-clause-solves c =
    closed_solves _ _ _ _ c.in_ok-types.ensures.general c.in_ok-types.ensures.solves
    (closed_at _ _ _ _ c.as_slice-2.ensures (c.requires.as_many ∙ sym c.in_ok-types.ensures.as_many) c.in_ok-closed.ensures)

pub returns-clause-closed : goal.returns-clause-closed
returns-clause-closed c = λ x y l.
    closed_ground _ _ _ _ c.requires.as_many (c.in_ok-types.ensures.within x l)
    (closed_at _ _ _ _ c.as_slice-2.ensures (c.requires.as_many ∙ sym c.in_ok-types.ensures.as_many) c.in_ok-closed.ensures x) y

pub returns-clause-small : goal.returns-clause-small
returns-clause-small c = λ w g.
    closed_small w _ _ _ _ (c.in_ok-types.ensures.sorted _ w g)
    (closed_at _ _ _ _ c.as_slice-2.ensures (c.requires.as_many ∙ sym c.in_ok-types.ensures.as_many) c.in_ok-closed.ensures) c.in_ok-types.ensures.small

pub returns-clause-sorted : goal.returns-clause-sorted
returns-clause-sorted c = λ w g.
    closed_sorted w _ _ _ (c.in_ok-types.ensures.sorted _ w g)
    (closed_at _ _ _ _ c.as_slice-2.ensures (c.requires.as_many ∙ sym c.in_ok-types.ensures.as_many) c.in_ok-closed.ensures)

pub returns-clause-holds : goal.returns-clause-holds
returns-clause-holds c = λ w g a.
    closed_holds w _ _ _ _ _ (c.in_ok-types.ensures.sorted _ w g)
    (closed_at _ _ _ _ c.as_slice-2.ensures (c.requires.as_many ∙ sym c.in_ok-types.ensures.as_many) c.in_ok-closed.ensures) a
    (ap (λ z. hold any (listed c.args.states.now) (meaning z) c.args.conditions.now) (sym c.as_slice.ensures) ∙ sym c.all_hold.ensures ∙ c.if-not-all_hold.false)
