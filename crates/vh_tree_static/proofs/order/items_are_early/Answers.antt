-- An item more, from the last one back.
use Rattle.std.proofs.Common.{◌≡◌, ◌+◌, ◌-◌, ◌<◌, false, drop, length, is_some, sym, ap, ◌∙◌, arith}
use Rattle.std.specs.Prelude.{◌&&◌}
use Rattle.vh_tree.specs.Bits.{Bytes, is_among}
use Rattle.vh_tree.specs.StaticRules.{all_use_earlier, functions_of}
use Rattle.rw_base_tables.specs.Tables.{known_in}
use Rattle.vh_tree_static.proofs.Later.{broken_later, judges, names, sees}
use Rattle.vh_tree_static.proofs.order.items_are_early.Goals as goal

pub returns-then-not-branch : goal.returns-then-not-branch
returns-then-not-branch c =
    let items = c.args.items.now in
    let at = c.loop-at.at in
    let item = c.index-items-at.result in
    let next : at ≡ at - 1 + 1 = omega arith in
    let lt : at - 1 < length items = omega arith in
    let new = known_in c.item_is_early.new.later in
    let seen : (x : Bytes) → is_some (new x) ≡ is_among x (names (drop (at - 1) items)) =
    λ x. sees items (at - 1) at item next lt c.index-items-at.is (known_in c.loop-at.later) new x (c.in_ok-item_is_early.ensures.later x) (c.loop-at.invariant.names x) in
    let late : all_use_earlier (functions_of (drop (at - 1) items)) ≡ false =
    sym (judges items (at - 1) at item next lt c.index-items-at.is new seen) ∙ ap (λ b. b && all_use_earlier (functions_of (drop at items))) (sym c.in_ok-item_is_early.ensures.early ∙ c.if-not-branch.true) in
    sym (broken_later (at - 1) items late)

pub loop-at-preserved : goal.loop-at-preserved
loop-at-preserved c =
    let items = c.args.items.now in
    let at = c.loop-at.at in
    let item = c.index-items-at.result in
    let next : at ≡ at - 1 + 1 = omega arith in
    let lt : at - 1 < length items = omega arith in
    let new = known_in c.item_is_early.new.later in
    let seen : (x : Bytes) → is_some (new x) ≡ is_among x (names (drop (at - 1) items)) =
    λ x. sees items (at - 1) at item next lt c.index-items-at.is (known_in c.loop-at.later) new x (c.in_ok-item_is_early.ensures.later x) (c.loop-at.invariant.names x) in
    record {
      within = omega arith;
      names = seen;
      early = sym (judges items (at - 1) at item next lt c.index-items-at.is new seen) ∙ ap (λ b. b && all_use_earlier (functions_of (drop at items))) (sym c.in_ok-item_is_early.ensures.early ∙ c.if-not-branch.false) ∙ c.loop-at.invariant.early;
    }
