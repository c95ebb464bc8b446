use Rattle.std.proofs.Common.{◌≡◌, ◌++◌, ◌∷◌, [], ap, sym, ◌∙◌, reverse}
use Rattle.rw_parser_parts.proofs.Joins.{all_of, entry_joined, reversed_last}
use Rattle.rw_parser_parts.proofs.joined.join.Goals as goal

pub loop-entry-preserved : goal.loop-entry-preserved
loop-entry-preserved c =
    let rest = c.pop.new.self in
    let entry = c.in-Some.entry in
    let popped : c.loop-entry.left ≡ rest ++ entry ∷ [] = c.in-Some.ensures in
    ap (λ z. all_of z (reverse rest)) c.in_ok-more.ensures ∙ entry_joined (c.loop-entry.all, c.loop-entry.going) entry (reverse rest)
    ∙ ap (all_of (c.loop-entry.all, c.loop-entry.going)) (sym (reversed_last rest entry) ∙ ap reverse (sym popped)) ∙ c.loop-entry.invariant
