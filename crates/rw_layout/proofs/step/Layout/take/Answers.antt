-- What is inserted where the token stands, then for what it is, then the token.
use Rattle.rw_layout.proofs.Turns.{turn_made}
use Rattle.rw_layout.proofs.step.Layout.take.Goals as goal

pub returns : goal.returns
returns c =
    turn_made c.role_of-role.result c.args.self.now.before c.place.new.self.before c.asked-asked.result c.args.token.now c.in_ok-copy.copy c.args.self.now.stack c.place.new.self.stack c.act.new.self.stack c.args.self.now.out.items c.place.new.self.out.items c.act.new.self.out.items c.push.new.self.items
    c.role_of-role.ensures c.in_ok-place.ensures.before c.in_ok-place.ensures.step c.in_ok-act.ensures c.asked-asked.ensures c.in_ok-copy.ensures c.in_ok-push.ensures.items
