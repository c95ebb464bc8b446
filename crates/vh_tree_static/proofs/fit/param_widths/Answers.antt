-- The first variables' widths.
use Rattle.std.proofs.Common.{◌≡◌, ℕ, IfOk, List, length, map, take, subst, ap, ◌∙◌}
use Rattle.vh_tree.specs.declared.function.Var.{Var}
use Rattle.vh_tree_static.proofs.Widened.{first_widths}
use Rattle.vh_tree_static.proofs.fit.param_widths.Goals as goal

pub returns : goal.returns
returns c =
    let width = λ (v : Var). v.width in
    let vars = c.as_slice-vars.result.now in
    let first : map width (take c.min-count.result vars) ≡ take (length c.args.function.now.params) (map width c.args.function.now.vars) =
    ap (λ (n : ℕ). map width (take n vars)) c.min-count.ensures ∙ first_widths (length c.as_slice.result.now) vars ∙ ap (λ (n : ℕ). take n (map width vars)) (ap length c.as_slice.ensures)
    ∙ ap (λ (vs : List Var). take (length c.args.function.now.params) (map width vs)) c.as_slice-vars.ensures in
    subst (λ (ns : List ℕ). IfOk c.widths_of.result (λ widths. widths ≡ ns)) first c.widths_of.ensures
