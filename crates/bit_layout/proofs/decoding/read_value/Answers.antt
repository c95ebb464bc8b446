-- Each step keeps which value the bits are those of.
use Rattle.std.proofs.Common.{◌≡◌, ◌↔◌, List, length, take, drop, Bool, false, refl, subst, ap, sym, ◌∙◌, arith}
use Rattle.std.specs.Prelude.{All, replicate}
use Rattle.rw_core.specs.declared.value.Value.{roll-Value}
use Rattle.rw_core.specs.declared.value.Value.TheFolds.{fold-roll-Value}
use Rattle.rw_core.specs.Values.{Val, plain, plain_step}
use Rattle.rw_core.specs.Bits.{Encodes, width_of}
use Rattle.bit_layout.specs.declared.decoding.Reading.{Reading}
use Rattle.bit_layout.specs.Decoding.{ReadsTo, Finishes, Ends, IsReading}
use Rattle.bit_layout.proofs.Shapes.{all_front, all_last, all_more}
use Rattle.bit_layout.proofs.ReadSteps as step
use Rattle.bit_layout.proofs.decoding.read_value.Goals as goal

pub loop-field-init : goal.loop-field-init
loop-field-init c =
    let P = IsReading c.args.types.now (length c.args.widths.now) (length c.args.bits.now) in
    record {
      exact = step.alone_exact c.args.types.now c.args.ty c.args.bits.now c.in-Some.first c.new-stack.result.items c.new-stack.ensures.items c.in-Some.ensures.exact;
      top = step.inner_roomy c.args.types.now (length c.args.widths.now) (length c.args.bits.now) (length c.args.bits.now) c.args.ty c.in-Some.first c.in-Some.ensures.short c.in-Some.ensures.roomy c.requires.within (omega arith);
      stack = subst (All P) (sym c.new-stack.ensures.items) (λ k d low. absurd (omega arith));
    }

pub returns-in_default-begin : goal.returns-in_default-begin
returns-in_default-begin c =
    let types = c.args.types.now in
    let field = c.in-Some-split_first.field.now in
    let top = c.loop-field.top in
    let ef = c.in-Some-split_first.ensures.cases.0 in
    let w = step.first_width types (length c.args.widths.now) (length c.args.bits.now) field top c.in-Some-split_first.fields.now c.args.widths.now c.requires.widths c.loop-field.invariant.top ef in
    let own : c.split_at.result.0.now ≡ take (width_of types field) top.rest.now = c.split_at.ensures.front ∙ ap (λ n. take n top.rest.now) w in
    λ v h. step.down_none types c.requires.table field c.in-Some-split_first.fields.now top c.loop-field.stack.items ef
    (λ x e. c.in_default-begin.ensures.exact x (subst (λ (bits : List Bool). Encodes types field x bits) (sym own) e)) v ((c.loop-field.invariant.exact v).0 h)

pub loop-field-smaller-in-Some-split_first : goal.loop-field-smaller-in-Some-split_first
loop-field-smaller-in-Some-split_first c =
    let top = c.loop-field.top in
    step.down_costs c.args.types.now c.requires.table top (record { tag = top.tag; fields = c.in-Some-split_first.fields; built = top.built; rest = c.split_at.result.1 }) c.in-Some-begin.inner c.loop-field.stack.items c.push.new.self.items
    c.in-Some-split_first.field.now c.in_ok-push-in-Some-split_first.ensures.items c.in-Some-split_first.ensures.cases.0 c.in-Some-begin.ensures.short

pub loop-field-preserved-in-Some-split_first : goal.loop-field-preserved-in-Some-split_first
loop-field-preserved-in-Some-split_first c =
    let types = c.args.types.now in
    let count = length c.args.widths.now in
    let most = length c.args.bits.now in
    let field = c.in-Some-split_first.field.now in
    let top = c.loop-field.top in
    let inner = c.in-Some-begin.inner in
    let outer : Reading = record { tag = top.tag; fields = c.in-Some-split_first.fields; built = top.built; rest = c.split_at.result.1 } in
    let ef = c.in-Some-split_first.ensures.cases.0 in
    let w = step.first_width types count most field top c.in-Some-split_first.fields.now c.args.widths.now c.requires.widths c.loop-field.invariant.top ef in
    let own : c.split_at.result.0.now ≡ take (width_of types field) top.rest.now = c.split_at.ensures.front ∙ ap (λ n. take n top.rest.now) w in
    let left : c.split_at.result.1.now ≡ drop (width_of types field) top.rest.now = c.split_at.ensures.back ∙ ap (λ n. drop n top.rest.now) w in
    let inside : step.IsInside types field top outer inner = record {
      fields = ef;
      rest = left;
      tag = refl;
      built = refl;
      exact = λ x. subst (λ (bits : List Bool). Encodes types field x bits ↔ ReadsTo types inner x) own (c.in-Some-begin.ensures.exact x);
    } in
    let fits = step.first_roomy types count most field top c.in-Some-split_first.fields.now c.loop-field.invariant.top ef in
    let narrow = c.loop-field.invariant.top.roomy.narrow in
    let len = c.split_at.ensures.front_len in
    record {
      exact = λ v. subst (λ (s : List Reading). Encodes types c.args.ty v c.args.bits.now ↔ Finishes types inner s v) (sym c.in_ok-push-in-Some-split_first.ensures.items)
          (step.both_ways (c.loop-field.invariant.exact v) (step.down_exact types c.requires.table field top outer inner c.loop-field.stack.items inside v));
      top = step.inner_roomy types count most (length c.split_at.result.0.now) field inner c.in-Some-begin.ensures.short c.in-Some-begin.ensures.roomy fits.0 (let f = fits.1 in omega arith);
      stack = all_more (IsReading types count most) c.push.new.self.items c.loop-field.stack.items outer c.in_ok-push-in-Some-split_first.ensures.items c.loop-field.invariant.stack
          (step.outer_roomy types count most field top outer c.loop-field.invariant.top ef left);
    }

pub returns-then-contains : goal.returns-then-contains
returns-then-contains c =
    let ef = step.none_long c.loop-field.top.fields.now c.in-None.ensures.cases in
    λ v h. step.up_none c.args.types.now c.loop-field.top c.loop-field.stack.items ef (step.ones_of c.loop-field.top.rest.now (sym c.if-contains.ensures.value)) v ((c.loop-field.invariant.exact v).0 h)

pub returns-in_default-pop : goal.returns-in_default-pop
returns-in_default-pop c =
    let types = c.args.types.now in
    let top = c.loop-field.top in
    let value = roll-Value (record { tag = top.tag; fields = top.built }) in
    let ef = step.none_long top.fields.now c.in-None.ensures.cases in
    let empty = step.none_long c.loop-field.stack.items (let z = c.in_default-pop.ensures.cases.0 in omega arith) in
    let zeros : replicate (length top.rest.now) false ≡ top.rest.now = step.zeros_of top.rest.now (sym c.if-contains.ensures.value) in
    (c.loop-field.invariant.exact (plain value)).1
    (plain value, step.read_whole types top value ef zeros (fold-roll-Value Val plain_step (record { tag = top.tag; fields = top.built })), subst (λ (s : List Reading). Ends types s (plain value) (plain value)) (sym empty) refl)

pub loop-field-preserved : goal.loop-field-preserved
loop-field-preserved c =
    let types = c.args.types.now in
    let count = length c.args.widths.now in
    let most = length c.args.bits.now in
    let top = c.loop-field.top in
    let outer = c.in-Some-pop.outer in
    let value = roll-Value (record { tag = top.tag; fields = top.built }) in
    let outer' : Reading = record { tag = outer.tag; fields = outer.fields; built = c.push-in-None.new.self; rest = outer.rest } in
    let ef = step.none_long top.fields.now c.in-None.ensures.cases in
    let zeros : replicate (length top.rest.now) false ≡ top.rest.now = step.zeros_of top.rest.now (sym c.if-contains.ensures.value) in
    let put : step.IsPut top outer outer' value = record {
      none_left = ef;
      zeros = zeros;
      read = fold-roll-Value Val plain_step (record { tag = top.tag; fields = top.built });
      tag = refl;
      fields = refl;
      rest = refl;
      built = c.in_ok-push-in-None.ensures.ok;
    } in
    let P = IsReading types count most in
    record {
      exact = λ v. step.both_ways (subst (λ (s : List Reading). Encodes types c.args.ty v c.args.bits.now ↔ Finishes types top s v) c.in-Some-pop.ensures.items (c.loop-field.invariant.exact v))
          (step.up_exact types top outer outer' value c.pop.new.self.items put v);
      top = step.put_roomy types count most outer outer' refl refl (all_last P c.loop-field.stack.items c.pop.new.self.items outer c.in-Some-pop.ensures.items c.loop-field.invariant.stack);
      stack = all_front P c.loop-field.stack.items c.pop.new.self.items outer c.in-Some-pop.ensures.items c.loop-field.invariant.stack;
    }
