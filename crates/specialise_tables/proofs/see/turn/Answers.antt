-- What goes into the table stands behind the others.
use Rattle.std.proofs.Common.{◌∷◌, subst}
use Rattle.specialise_tables.specs.declared.stack.Task.{Task}
use Rattle.specialise_tables.specs.Going.{IsUnderWay}
use Rattle.specialise_tables.proofs.Way.{way_placed}
use Rattle.specialise_tables.proofs.see.turn.Goals as goal

pub returns-in_ok-put-in-Put-clause-way : goal.returns-in_ok-put-in-Put-clause-way
returns-in_ok-put-in-Put-clause-way c =
    let table = c.args.table.now in let e = c.in_ok-put-in-Put.ensures in
    way_placed c.args.types.now table.numbers.items c.put.new.self.numbers.items table.marks c.put.new.self.marks c.in-Put.number c.args.stack.now c.args.room
    (subst (λ (z : Task). IsUnderWay c.args.types.now table.numbers.items table.marks (z ∷ c.args.stack.now) c.args.room) c.in-Put.is c.requires) e.numbers e.marks
