-- All places, one list after the other.
use Rattle.rw_systems.specs.Shown.{shown}
use Rattle.rw_start.proofs.Placed.{in_order}
use Rattle.rw_start.proofs.check.misplaced_in_system.Goals as goal

pub returns : goal.returns
returns c =
    in_order c.in_ok-start.start c.args.number c.args.decls.now (shown c.args.parts.now) c.args.wheres.now c.new-places.result.items c.in_decls.new.places.items c.in_decls-2.new.places.items
    c.in_parts.new.places.items c.in_group.new.places.items c.new-begins.result.items c.add_beginnings.new.places.items c.as_slice.result.now c.add_behind.new.places.items
    c.in_ok-start.ensures c.new-places.ensures.items c.in_ok-in_decls.ensures c.in_ok-in_decls-2.ensures c.in_ok-in_parts.ensures c.in_ok-in_group.ensures
    c.new-begins.ensures.items c.in_ok-add_beginnings.ensures c.as_slice.ensures.value c.in_ok-add_behind.ensures
