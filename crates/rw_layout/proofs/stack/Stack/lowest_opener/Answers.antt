-- The first opener from the bottom is the lowest one.
use Rattle.std.proofs.Common.{◌≡◌, ◌∷◌, ◌∙◌, suc, sym, ap, drop, false, List}
use Rattle.std.specs.Prelude.{reverse}
use Rattle.std.proofs.Math.Seq.{drop-cons}
use Rattle.rw_layout.specs.declared.entry.Entry.{Entry}
use Rattle.rw_layout.specs.declared.entry.Entry.TheVariants as e
use Rattle.rw_layout.specs.Layout.{lowest_opener}
use Rattle.rw_layout.proofs.Stacks.{lowest_first}
use Rattle.rw_layout.proofs.stack.Stack.lowest_opener.Goals as goal

pub returns-in-Open : goal.returns-in-Open
returns-in-Open c =
    let entries = c.deref-entry-items.result.now in
    let i = c.loop-entry.entry-index in
    let here : drop i entries ≡ e.Open c.in-Open.field-0 c.in-Open.at ∷ drop (suc i) entries = drop-cons entries i (e.Block 0 false) c.loop-entry-test.true ∙ ap (λ (x : Entry). x ∷ drop (suc i) entries) c.in-Open.is in
    let same : reverse entries ≡ c.args.self.now = ap (λ (xs : List Entry). reverse xs) c.deref-entry-items.ensures.value ∙ c.self.view_is in
    sym (lowest_first entries i c.in-Open.field-0 c.in-Open.at c.loop-entry.invariant here) ∙ ap lowest_opener same
