-- The decision on one bit more, from the decisions of its two halves.
use Rattle.std.proofs.Common.{◌≡◌, ◌<◌, ◌^◌, ℕ, List, IfOk, ◌+◌, ◌-◌, ◌*◌, ◌%◌, arith, ap, sym, ◌∙◌, subst}
use Rattle.vh_tree.specs.declared.stmt.VStmt.{VStmt}
use Rattle.register_machine.specs.Decision.{decide, either}
use Rattle.register_machine.proofs.Numbers.{decide-both, shift_is}
use Rattle.register_machine.proofs.decision.+decision.Goals as goal

pub returns : goal.returns
returns g t c =
    let x = c.args.tested.now in
    let n = c.args.n in
    let k = c.args.left - 1 in
    let leaf : ℕ → List VStmt = g.L.Leaves.leaf c.args.leaves.now in
    let middle : c.args.base + 1 * 2 ^ k % 18446744073709551616 ≡ c.args.base + 2 ^ k = omega (arith, shift_is (c.args.left - 1) (omega arith)) in
    let under : c.args.base + 2 ^ k < n = omega (arith, shift_is (c.args.left - 1) (omega arith)) in
    let same : either x k c.in_ok-low.low c.in_ok-high.high ≡ decide x n c.args.left c.args.base leaf =
    ap (λ (l : List VStmt). either x k l c.in_ok-high.high) c.in_ok-low.ensures
    ∙ ap (λ (h : List VStmt). either x k (decide x n k c.args.base leaf) h) (c.in_ok-high.ensures ∙ ap (λ (m : ℕ). decide x n k m leaf) middle)
    ∙ sym (decide-both x n c.args.left k c.args.base leaf (omega arith) under) in
    subst (λ (s : List VStmt). IfOk c.either.result (λ r. r ≡ s)) same c.either.ensures
