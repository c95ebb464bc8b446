use Rattle.std.proofs.Common.{◌≡◌, ◌++◌, ◌∷◌, [], ap, sym, ◌∙◌}
use Rattle.rw_parser_parts.specs.Steps.{all_closed}
use Rattle.rw_parser_parts.proofs.Frames.{closed_last}
use Rattle.rw_parser_parts.proofs.frame.all_closed.Goals as goal

pub loop-frame-preserved : goal.loop-frame-preserved
loop-frame-preserved c =
    let rest = c.args.rest.now in
    let popped : c.loop-frame.frames ≡ c.pop.new.self ++ c.in-Some.frame ∷ [] = c.in-Some.ensures in
    ap (λ z. all_closed c.pop.new.self z rest) c.in_ok-made.ensures ∙ sym (closed_last c.pop.new.self c.in-Some.frame c.loop-frame.made rest) ∙ ap (λ z. all_closed z c.loop-frame.made rest) (sym popped) ∙ c.loop-frame.invariant
