-- Each step keeps what the stack will have written.
use Rattle.std.proofs.Common.{◌≡◌, ◌+◌, [], ◌∷◌, ◌++◌, length, ap, ◌∙◌}
use Rattle.rw_core.specs.Bits.{IsTable}
use Rattle.bit_layout.specs.Encoding.{IsWriting}
use Rattle.bit_layout.proofs.Shapes.{all_front, all_last, all_more}
use Rattle.bit_layout.proofs.Writes.{first_narrow, step_closed, step_costs, fill_closed, outer_typed, nothing_left}
use Rattle.bit_layout.proofs.encoding.encode.Goals as goal

pub begin-requires-in-Some-next_field-clause-narrow :
    goal.begin-requires-in-Some-next_field-clause-narrow
begin-requires-in-Some-next_field-clause-narrow c =
    let typed = all_last (IsWriting c.as_slice-types.result.now (c.args.ty + 1)) c.loop-top.stack.items c.pop.new.self.items c.in-Some.top c.in-Some.ensures.items c.loop-top.invariant.typed in
    first_narrow c.as_slice-types.result.now (c.args.ty + 1) c.in-Some-next_field.field c.in-Some.top c.in-Some-next_field.others.fields.now typed c.in-Some-next_field.ensures.fields

pub loop-top-smaller-in_ok-push-in-Some-next_field-2 :
    goal.loop-top-smaller-in_ok-push-in-Some-next_field-2
loop-top-smaller-in_ok-push-in-Some-next_field-2 c =
    let new = c.in_ok-push-in-Some-next_field-2.ensures.items ∙ ap (λ stack. stack ++ c.in_ok-begin-in-Some-next_field.field-0 ∷ []) c.in_ok-push-in-Some-next_field.ensures.items in
    let table : IsTable c.as_slice-types.result.now = rw c.as_slice-types.ensures c.requires.table in
    step_costs c.as_slice-types.result.now table c.loop-top.stack.items c.push-in-Some-next_field-2.new.self.items c.pop.new.self.items c.in-Some.top c.in-Some-next_field.others c.in_ok-begin-in-Some-next_field.field-0
    c.in-Some-next_field.field c.in-Some.ensures.items new c.in-Some-next_field.ensures.fields c.in_ok-begin-in-Some-next_field.ensures.short

pub loop-top-preserved-in_ok-push-in-Some-next_field-2 :
    goal.loop-top-preserved-in_ok-push-in-Some-next_field-2
loop-top-preserved-in_ok-push-in-Some-next_field-2 c =
    let types = c.as_slice-types.result.now in
    let inner = c.in_ok-begin-in-Some-next_field.field-0 in
    let P = IsWriting types (c.args.ty + 1) in
    let new = c.in_ok-push-in-Some-next_field-2.ensures.items ∙ ap (λ stack. stack ++ inner ∷ []) c.in_ok-push-in-Some-next_field.ensures.items in
    let count : length c.deref-in-Some-next_field.result.now ≡ c.args.ty + 1 = ap length c.deref-in-Some-next_field.ensures.value ∙ c.in_ok-widths.ensures.all in
    let inner_typed : IsWriting types (c.args.ty + 1) inner = rw count at c.in_ok-begin-in-Some-next_field.ensures.typed in
    let top_typed = all_last P c.loop-top.stack.items c.pop.new.self.items c.in-Some.top c.in-Some.ensures.items c.loop-top.invariant.typed in
    let rest_typed = all_front P c.loop-top.stack.items c.pop.new.self.items c.in-Some.top c.in-Some.ensures.items c.loop-top.invariant.typed in
    let others_typed = outer_typed types (c.args.ty + 1) c.in-Some-next_field.field c.in-Some-next_field.value.now c.in-Some.top c.in-Some-next_field.others top_typed c.in-Some-next_field.ensures.fields c.in-Some-next_field.ensures.values in
    record {
      whole = step_closed types c.loop-top.stack.items c.push-in-Some-next_field-2.new.self.items c.pop.new.self.items c.in-Some.top c.in-Some-next_field.others inner c.in-Some-next_field.field c.in-Some-next_field.value.now
          c.loop-top.bits.items c.begin-in-Some-next_field.new.bits.items c.in-Some.ensures.items new c.in-Some-next_field.ensures.fields c.in-Some-next_field.ensures.values c.in-Some-next_field.ensures.end c.in_ok-begin-in-Some-next_field.ensures.writes
          ∙ c.loop-top.invariant.whole;
      typed = all_more P c.push-in-Some-next_field-2.new.self.items c.push-in-Some-next_field.new.self.items inner c.in_ok-push-in-Some-next_field-2.ensures.items
          (all_more P c.push-in-Some-next_field.new.self.items c.pop.new.self.items c.in-Some-next_field.others c.in_ok-push-in-Some-next_field.ensures.items rest_typed others_typed) inner_typed;
    }

pub loop-top-preserved : goal.loop-top-preserved
loop-top-preserved c =
    let types = c.as_slice-types.result.now in
    let P = IsWriting types (c.args.ty + 1) in
    record {
      whole = fill_closed types c.loop-top.stack.items c.pop.new.self.items c.in-Some.top c.loop-top.bits.items c.fill.new.bits.items c.in-Some.ensures.items (nothing_left types c.in-Some.top c.in-None.ensures) c.in_ok-fill-in-None.ensures
          ∙ c.loop-top.invariant.whole;
      typed = all_front P c.loop-top.stack.items c.pop.new.self.items c.in-Some.top c.in-Some.ensures.items c.loop-top.invariant.typed;
    }
