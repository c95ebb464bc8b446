use Rattle.std.proofs.Common.{◌≡◌, ◌++◌, ◌∷◌, [], ap, sym, ◌∙◌}
use Rattle.rw_tree.specs.declared.types.Written.TheVariants as y
use Rattle.rw_parser_patterns.specs.Given.{arrowed}
use Rattle.rw_parser_patterns.proofs.Kept.{one_arrow}
use Rattle.rw_parser_patterns.proofs.types.arrowed.Goals as goal

pub loop-side-preserved : goal.loop-side-preserved
loop-side-preserved c =
    let popped : c.loop-side.sides ≡ c.pop.new.self ++ c.in-Some.side ∷ [] = c.in-Some.ensures in
    let made : y.Fun c.in_ok-from.from c.in_ok-to.to ≡ y.Fun c.in-Some.side c.loop-side.made = ap (λ z. y.Fun z c.in_ok-to.to) c.in_ok-from.ensures ∙ ap (y.Fun c.in-Some.side) c.in_ok-to.ensures in
    ap (arrowed c.pop.new.self) made ∙ sym (one_arrow c.pop.new.self c.in-Some.side c.loop-side.made) ∙ ap (λ z. arrowed z c.loop-side.made) (sym popped) ∙ c.loop-side.invariant
