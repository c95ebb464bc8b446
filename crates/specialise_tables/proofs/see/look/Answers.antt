-- A type that was looked at is passed over; else it is opened.
use Rattle.std.proofs.Common.{ℕ, Bool, List, ◌∷◌, ◌++◌, map, sym, ap, ◌∙◌, subst}
use Rattle.std.proofs.lemmas.Result.{err_from_is_err_and}
use Rattle.rw_types_shared.specs.Shared.{type_at}
use Rattle.specialise_tables.specs.declared.stack.Task.TheVariants as task
use Rattle.specialise_tables.specs.Fields.{seen_fields, world_with}
use Rattle.specialise_tables.specs.Going.{IsOpened, IsUnderWay}
use Rattle.specialise_tables.proofs.Way.{look_passed, look_entered, look_full, way_entered, way_passed, goes_passed}
use Rattle.specialise_tables.proofs.see.look.Goals as goal

pub returns-then-has-clause-goes : goal.returns-then-has-clause-goes
returns-then-has-clause-goes c =
    look_passed (world_with (seen_fields c.args.fields.now)) c.args.types.now c.args.table.now.numbers.items c.args.table.now.marks c.args.stack.now c.args.room c.args.number c.requires.way
    (sym c.has.ensures ∙ c.if-has.true)

pub returns-in_err-left-clause-full : goal.returns-in_err-left-clause-full
returns-in_err-left-clause-full c = λ e.
    let p = err_from_is_err_and c.from_residual-in_err-left.result c.from_residual-in_err-left.ensures.1 in let was = p.1 in let same = p.2 in let made = c.in_ok-opened.ensures in let table = c.args.table.now in
    let new = c.open.new.types in let parts = c.in_ok-opened.opened.parts.items in
    look_full (world_with (seen_fields c.args.fields.now)) c.args.types.now new table.numbers.items table.marks c.args.stack.now c.args.number parts made.proper made.kept
    (subst (λ (z : ℕ). IsUnderWay c.args.types.now table.numbers.items table.marks c.args.stack.now z) (c.in_err-left.ensures.full (cc)) c.requires.way) c.requires.within (sym c.has.ensures ∙ c.if-has.false)
    (subst (λ (z : Bool). IsOpened (world_with (seen_fields c.args.fields.now)) z (type_at new c.args.number) (map (type_at new) parts)) c.if-opened.true made.opened)

pub returns-then-opened-clause-way : goal.returns-then-opened-clause-way
returns-then-opened-clause-way c =
    let made = c.in_ok-opened.ensures in let table = c.args.table.now in let new = c.open.new.types in let parts = c.in_ok-opened.opened.parts.items in
    let opened = subst (λ (z : Bool). IsOpened (world_with (seen_fields c.args.fields.now)) z (type_at new c.args.number) (map (type_at new) parts)) c.if-opened.true made.opened in
    way_entered c.args.types.now new table.numbers.items table.marks c.args.stack.now c.enter.new.stack c.args.room c.in_ok-left.left c.args.number parts made.proper made.kept c.requires.way c.requires.within made.within
    opened.0 c.in_ok-left.ensures.left (c.in_ok-left.ensures.tasks ∙ ap (λ (z : List ℕ). map task.See z ++ (task.Put c.args.number ∷ c.args.stack.now)) c.as_slice.ensures.value)

pub returns-then-opened-clause-goes : goal.returns-then-opened-clause-goes
returns-then-opened-clause-goes c =
    let made = c.in_ok-opened.ensures in let table = c.args.table.now in let new = c.open.new.types in let parts = c.in_ok-opened.opened.parts.items in
    look_entered (world_with (seen_fields c.args.fields.now)) c.args.types.now new table.numbers.items table.marks c.args.stack.now c.enter.new.stack c.args.room c.args.number parts made.proper made.kept c.requires.way
    c.requires.within (sym c.has.ensures ∙ c.if-has.false)
    (subst (λ (z : Bool). IsOpened (world_with (seen_fields c.args.fields.now)) z (type_at new c.args.number) (map (type_at new) parts)) c.if-opened.true made.opened)
    (c.in_ok-left.ensures.tasks ∙ ap (λ (z : List ℕ). map task.See z ++ (task.Put c.args.number ∷ c.args.stack.now)) c.as_slice.ensures.value)

pub returns-clause-way : goal.returns-clause-way
returns-clause-way c =
    let made = c.in_ok-opened.ensures in let table = c.args.table.now in let new = c.open.new.types in let parts = c.in_ok-opened.opened.parts.items in
    way_passed (seen_fields c.args.fields.now) c.args.types.now new table.numbers.items c.pass.new.table.numbers.items table.marks c.pass.new.table.marks c.args.stack.now c.pass.new.stack c.args.room c.args.number parts
    c.as_slice-2.result.now made.proper made.kept c.requires.way c.requires.within made.within
    (subst (λ (z : Bool). IsOpened (world_with (seen_fields c.args.fields.now)) z (type_at new c.args.number) (map (type_at new) parts)) c.if-opened.false made.opened)
    c.as_slice-2.ensures.value c.in_ok-pass.ensures.numbers c.in_ok-pass.ensures.tasks

pub returns-clause-goes : goal.returns-clause-goes
returns-clause-goes c =
    let made = c.in_ok-opened.ensures in let table = c.args.table.now in let new = c.open.new.types in let parts = c.in_ok-opened.opened.parts.items in
    goes_passed (seen_fields c.args.fields.now) c.args.types.now new table.numbers.items c.pass.new.table.numbers.items table.marks c.pass.new.table.marks c.args.stack.now c.pass.new.stack c.args.room c.args.number parts
    c.as_slice-2.result.now made.proper made.kept c.requires.way c.requires.within
    (subst (λ (z : Bool). IsOpened (world_with (seen_fields c.args.fields.now)) z (type_at new c.args.number) (map (type_at new) parts)) c.if-opened.false made.opened)
    c.as_slice-2.ensures.value c.in_ok-pass.ensures.numbers c.in_ok-pass.ensures.tasks
