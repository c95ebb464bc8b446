-- One variable more, and none.
use Rattle.std.proofs.Common.{arith, ◌≡◌, ◌+◌, List, [], ◌∷◌, drop, sym, subst}
use Rattle.std.proofs.lemmas.Grind.{common_steps}
use Rattle.vh_tree.specs.Bits.{Bytes}
use Rattle.vh_tree.specs.declared.function.Var.{Var}
use Rattle.vhdl_cycle_resolve.specs.Laid.{IsLaid}
use Rattle.vhdl_cycle_resolve.proofs.Laying.{laid_none, laid_more}
use Rattle.vhdl_cycle_resolve.proofs.layout.Layout.add_vars.Goals as goal

pub loop-var-preserved : goal.loop-var-preserved
loop-var-preserved c = λ end later.
    let a = c.loop-var.self in
    let b = c.add.new.self in
    let v : Var = c.var-item.result in
    let rest = drop (c.loop-var.var-index + 1) c.args.vars.now in
    let one : IsLaid a (v ∷ []) b = subst (λ (n : Bytes). IsLaid a (record { name = n; width = v.width } ∷ []) b) c.as_slice.ensures c.in_ok-add.ensures in
    let cut : drop c.loop-var.var-index c.args.vars.now ≡ v ∷ rest = grind (arith, common_steps) in
    c.loop-var.invariant end (subst (λ (vs : List Var). IsLaid a vs end) (sym cut) (laid_more a b end v rest one later))

pub returns : goal.returns
returns c =
    let a = c.loop-var.self in
    let none : drop c.loop-var.var-index c.args.vars.now ≡ [] = grind (arith, common_steps) in
    c.loop-var.invariant a (subst (λ (vs : List Var). IsLaid a vs a) (sym none) (laid_none a))
