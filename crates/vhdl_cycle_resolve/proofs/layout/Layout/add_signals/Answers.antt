-- One item more, and none.
use Rattle.std.proofs.Common.{arith, ◌≡◌, ◌+◌, List, [], ◌∷◌, drop, sym, subst}
use Rattle.std.proofs.lemmas.Grind.{common_steps}
use Rattle.vh_tree.specs.Bits.{Bytes}
use Rattle.vh_tree.specs.StaticRules.{declared_signals}
use Rattle.vh_tree.specs.declared.function.Var.{Var}
use Rattle.vh_tree.specs.declared.design.Item.{Item}
use Rattle.vhdl_cycle_resolve.specs.Laid.{IsLaid}
use Rattle.vhdl_cycle_resolve.specs.declared.layout.Layout.{Layout}
use Rattle.vhdl_cycle_resolve.proofs.Laying.{laid_none, laid_more}
use Rattle.vhdl_cycle_resolve.proofs.layout.Layout.add_signals.Goals as goal
use Rattle.vhdl_cycle_resolve.proofs.layout.Layout.add_signals.Goals.{in-Signal+in_ok-add-in-Signal, in-Function}

pub loop-item-preserved : goal.loop-item-preserved
loop-item-preserved c = λ end later.
    let a = c.loop-item.self in
    let rest = drop (c.loop-item.item-index + 1) c.args.items.now in
    let cut : drop c.loop-item.item-index c.args.items.now ≡ c.item-item.result ∷ rest = grind (arith, common_steps) in
    let P : List Item → Type 0 = λ items. IsLaid a (declared_signals items) end in
    c.loop-item.invariant end (subst P (sym cut) (elim c.match-item.branch [
      | in-Signal+in_ok-add-in-Signal w ↦ subst (λ item. P (item ∷ rest)) (sym w.in-Signal.is)
          (let v : Var = w.in-Signal.signal in
          let one : IsLaid a (v ∷ []) w.add.new.self = subst (λ (n : Bytes). IsLaid a (record { name = n; width = v.width } ∷ []) w.add.new.self) w.as_slice.ensures w.in_ok-add-in-Signal.ensures in
          let more : IsLaid w.add.new.self (declared_signals rest) end = subst (λ (l : Layout). IsLaid l (declared_signals rest) end) w.self-is later in
          laid_more a w.add.new.self end v (declared_signals rest) one more)
      | in-Function w ↦ subst (λ item. P (item ∷ rest)) (sym w.in-Function.is) (subst (λ (l : Layout). IsLaid l (declared_signals rest) end) w.self-is later)
    ]))

pub returns : goal.returns
returns c =
    let a = c.loop-item.self in
    let none : drop c.loop-item.item-index c.args.items.now ≡ [] = grind (arith, common_steps) in
    c.loop-item.invariant a (subst (λ (items : List Item). IsLaid a (declared_signals items) a) (sym none) (laid_none a))
