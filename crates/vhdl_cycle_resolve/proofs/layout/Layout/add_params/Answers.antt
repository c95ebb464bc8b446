-- One parameter more, and none.
use Rattle.std.proofs.Common.{arith, ◌≡◌, ◌+◌, List, [], ◌∷◌, drop, sym, ap, subst, ℕ, length-drop}
use Rattle.std.proofs.lemmas.Grind.{common_steps}
use Rattle.vh_tree.specs.Bits.{Bytes}
use Rattle.vh_tree.specs.StaticRules.{parameter_vars}
use Rattle.vh_tree.specs.declared.function.Var.{Var}
use Rattle.vhdl_cycle_resolve.specs.Laid.{IsLaid}
use Rattle.vhdl_cycle_resolve.proofs.Laying.{laid_none, laid_more, parameter_vars_none}
use Rattle.vhdl_cycle_resolve.proofs.layout.Layout.add_params.Goals as goal

pub loop-i-preserved : goal.loop-i-preserved
loop-i-preserved c = λ end later.
    let a = c.loop-i.self in
    let b = c.add.new.self in
    let p : Bytes = c.index-params-i.result in
    let v : Var = c.index-vars-i.result in
    let params = drop (c.loop-i.i + 1) c.args.params.now in
    let vars = drop (c.loop-i.i + 1) c.args.vars.now in
    let w : Var = record { name = p; width = v.width } in
    let one : IsLaid a (w ∷ []) b = subst (λ (n : Bytes). IsLaid a (record { name = n; width = v.width } ∷ []) b) c.as_slice.ensures
    (subst (λ (k : ℕ). IsLaid a (record { name = c.as_slice.result.now; width = k } ∷ []) b) (sym (ap (λ (x : Var). x.width) c.index-vars-i.is)) c.in_ok-add.ensures) in
    let cut_params : drop c.loop-i.i c.args.params.now ≡ p ∷ params = grind (arith, common_steps) in
    let cut_vars : drop c.loop-i.i c.args.vars.now ≡ v ∷ vars = grind (arith, common_steps) in
    let P : List Bytes → List Var → Type 0 = λ ps vs. IsLaid a (parameter_vars ps vs) end in
    c.loop-i.invariant end (subst (λ ps. P ps (drop c.loop-i.i c.args.vars.now)) (sym cut_params) (subst (P (p ∷ params)) (sym cut_vars) (laid_more a b end w (parameter_vars params vars) one later)))

pub returns : goal.returns
returns c =
    let a = c.loop-i.self in
    let none : parameter_vars (drop c.loop-i.i c.args.params.now) (drop c.loop-i.i c.args.vars.now) ≡ [] =
    parameter_vars_none (drop c.loop-i.i c.args.params.now) (drop c.loop-i.i c.args.vars.now)
    (omega (arith, length-drop c.loop-i.i c.args.params.now, length-drop c.loop-i.i c.args.vars.now)) in
    c.loop-i.invariant a (subst (λ (vs : List Var). IsLaid a vs a) (sym none) (laid_none a))
