-- The most general types, where they are of the kinds wanted.
use Rattle.std.proofs.Common.{map, ap, ◌∙◌}
use Rattle.rw_types_equations.specs.Seen.{seen_world}
use Rattle.rw_types_shared.specs.Shared.{type_at}
use Rattle.rw_types.proofs.Solving.{none_carried, is_solved, are_carried, not_carried}
use Rattle.rw_types.proofs.solved.default_types.Goals as goal

pub returns-then-not-branch-clause-refused : goal.returns-then-not-branch-clause-refused
returns-then-not-branch-clause-refused c = λ e.
    none_carried (seen_world c.args.world.now) c.args.tree.now c.args.slots.now c.args.own.now c.in_ok-types.types c.in_ok-types.ensures.general c.in_ok-types.ensures.as_many c.in_ok-types.ensures.within
    (not_carried (seen_world c.args.world.now) c.args.slots.now c.args.own.now c.in_ok-types.types _ _ c.as_slice.ensures c.if-not-branch.true c.in_ok-are_carried.ensures)

pub returns-clause-solved : goal.returns-clause-solved
returns-clause-solved c =
    is_solved (seen_world c.args.world.now) c.args.tree.now c.args.slots.now c.args.own.now c.in_ok-types.types _ _ _ _ _
    c.in_ok-types.ensures.as_many c.in_ok-types.ensures.agrees c.in_ok-types.ensures.general c.in_ok-types.ensures.small
    (are_carried (seen_world c.args.world.now) c.args.slots.now c.args.own.now c.in_ok-types.types _ _ c.as_slice.ensures c.if-not-branch.false c.in_ok-are_carried.ensures)
    c.as_slice-2.ensures c.in_ok-sorts.ensures c.as_slice-3.ensures (ap (map (type_at c.share_all.new.types)) c.from_vec.ensures ∙ c.in_ok-numbers.ensures.are)
