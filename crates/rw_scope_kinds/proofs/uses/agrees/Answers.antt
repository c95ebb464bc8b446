-- A use of a name that is known, and one of a name that isn't.
use Rattle.rw_scope_uses.specs.Spine.{plain_use}
use Rattle.rw_scope_kinds.proofs.Using.{known_use, new_use}
use Rattle.rw_scope_kinds.proofs.uses.agrees.Goals as goal

pub returns-in-Some-clause-firsts : goal.returns-in-Some-clause-firsts
returns-in-Some-clause-firsts c = known_use c.args.firsts.now (plain_use c.args.one.now) c.in-Some.first.now c.in-Some.ensures

pub returns-in_ok-add-in-None-clause-firsts : goal.returns-in_ok-add-in-None-clause-firsts
returns-in_ok-add-in-None-clause-firsts c =
    new_use c.args.firsts.now c.add.new.self c.args.one.now.name.now c.in_ok-copied-in-None.field-0 c.args.one.now.kind c.in_ok-copied-in-None.ensures c.in_ok-add-in-None.ensures
