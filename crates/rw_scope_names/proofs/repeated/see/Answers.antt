-- A name that is new is added; the place of one that was seen is appended.
use Rattle.rw_scope_names.proofs.Behind.{new_name, seen_name}
use Rattle.rw_scope_names.proofs.repeated.see.Goals as goal

pub returns-in_ok-push : goal.returns-in_ok-push
returns-in_ok-push c =
    seen_name c.args.name.now c.in_ok-copied.field-0 c.args.at c.args.seen.now c.add.new.self c.args.places.now.items c.in_ok-add.field-0 c.push.new.self.items
    c.in_ok-copied.ensures c.in_ok-add.ensures.added c.in_ok-add.ensures.names c.if-not-branch.true c.in_ok-push.ensures.items

pub returns-else-not-branch : goal.returns-else-not-branch
returns-else-not-branch c =
    new_name c.args.name.now c.in_ok-copied.field-0 c.args.at c.args.seen.now c.add.new.self c.args.places.now.items c.in_ok-add.field-0
    c.in_ok-copied.ensures c.in_ok-add.ensures.added c.in_ok-add.ensures.names c.if-not-branch.false
