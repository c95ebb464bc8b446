-- A stable sort is the list from left to right.
use Rattle.std.proofs.Common.{ap, ◌∙◌, rules}
use Rattle.std.proofs.lemmas.List.Sorted.{answers_always, IsNonDecreasingBy-from_sort}
use Rattle.specialise_rules.specs.Instances.{from_left}
use Rattle.specialise_mentions.specs.declared.mention.Mention.{Mention}
use Rattle.specialise_mentions.proofs.Stable.{sorted_is}
use Rattle.specialise_mentions.proofs.listing.mentions.Goals as goal

pub returns : goal.returns
returns c = λ t.
    let sort = c.in_ok-sort_by_key.ensures in
    sorted_is t c.in_ok-all.all.items c.sort_by_key.new.self.items
    (IsNonDecreasingBy-from_sort (λ (m : Mention). m.token) _ (sort.sorted (λ (m : Mention). m.token) (answers_always _ _ _ (λ f a r g h. search rules))))
    (sort.stable (λ (m : Mention). m.token) (answers_always _ _ _ (λ f a r g h. search rules)))
    ∙ ap from_left (c.in_ok-all.ensures t)
