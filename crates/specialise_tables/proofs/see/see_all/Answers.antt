-- What is to be done at the end is nothing.
use Rattle.std.proofs.Common.{map, arith}
use Rattle.std.proofs.lemmas.Result.{err_from_is_err_and}
use Rattle.rw_types_shared.specs.Shared.{type_at}
use Rattle.rw_types_shared.proofs.Sharing.{extends_itself}
use Rattle.specialise_tables.specs.Fields.{seen_fields, world_with}
use Rattle.specialise_tables.proofs.Way.{way_begun, goes_begun, seen_at_end, full_next}
use Rattle.specialise_tables.proofs.see.see_all.Goals as goal

pub loop-turn-init : goal.loop-turn-init
loop-turn-init c =
    let table = c.args.table.now in record {
      way = way_begun c.args.types.now table.numbers.items table.marks c.args.numbers.now c.new-stack.result c.see.new.self _ c.requires.proper c.requires.looked c.requires.within c.new-stack.ensures c.in_ok-see.ensures
          (omega (arith, table.numbers.ok.0));
      kept = extends_itself c.args.types.now;
      goes = goes_begun (world_with (seen_fields c.args.fields.now)) c.args.types.now table.numbers.items c.args.numbers.now c.new-stack.result c.see.new.self c.new-stack.ensures c.in_ok-see.ensures;
    }

pub returns-in_default-clause-sees : goal.returns-in_default-clause-sees
returns-in_default-clause-sees c =
    seen_at_end (world_with (seen_fields c.args.fields.now)) (map (type_at c.args.types.now) c.args.numbers.now) _ _ c.loop-turn.types c.loop-turn.stack c.loop-turn.invariant.goes c.in_default.ensures.0

pub returns-in_err-room-clause-full : goal.returns-in_err-room-clause-full
returns-in_err-room-clause-full c = λ e.
    let p = err_from_is_err_and c.from_residual-in_err-room.result c.from_residual-in_err-room.ensures.1 in let was = p.1 in let same = p.2 in
    full_next (world_with (seen_fields c.args.fields.now)) (map (type_at c.args.types.now) c.args.numbers.now) _ _ c.loop-turn.types c.loop-turn.stack c.in-Some.task c.pop.new.self c.in-Some.ensures c.loop-turn.invariant.goes
    (c.in_err-room.ensures.full (cc))
