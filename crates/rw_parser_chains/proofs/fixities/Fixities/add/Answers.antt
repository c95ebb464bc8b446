-- What is known stays, and what is new is added behind it.
use Rattle.std.proofs.Common.{◌≡◌, ℕ, ◌∙◌, List, ap, sym, if◌then◌else◌, Some, None, Vec, Global, is_some, true}
use Rattle.std.specs.Str.{bytes_eq}
use Rattle.rw_parser_chains.specs.Fixities.{known_in, first_of}
use Rattle.rw_parser_chains.proofs.Entries.{seen, added, one_said, stays, not_known}
use Rattle.rw_parser_chains.proofs.fixities.Fixities.add.Goals as goal

pub returns-then-has : goal.returns-then-has
returns-then-has c = λ x.
    let known : is_some (known_in c.args.self.now c.args.name.now) ≡ true = ap (λ z. is_some (known_in c.args.self.now z)) (sym c.as_slice.ensures) ∙ sym c.has.ensures ∙ c.if-has.true in
    stays c.args.self.now c.args.name.now x c.args.strength known

pub returns : goal.returns
returns c = λ x.
    let table = c.self.inside.table in
    let none : known_in c.args.self.now c.args.name.now ≡ None =
    ap (known_in c.args.self.now) (sym c.as_slice.ensures) ∙ not_known (known_in c.args.self.now c.as_slice.result.now) (sym c.has.ensures ∙ c.if-has.false) in
    let key : c.in_ok-name.name.items ≡ c.args.name.now = c.in_ok-name.ensures.items ∙ c.as_slice-2.ensures in
    let absent : known_in (seen {K = Vec ℕ Global} (λ k. k.items) table.entries) c.in_ok-name.name.items ≡ None =
    ap (known_in (seen {K = Vec ℕ Global} (λ k. k.items) table.entries)) key ∙ ap (λ t. known_in t c.args.name.now) c.self.view_is ∙ none in
    ap (λ es. known_in (seen {K = Vec ℕ Global} (λ k. k.items) es) x) c.in_ok-insert.ensures.entries
    ∙ added {K = Vec ℕ Global} (λ k. k.items) c.in_ok-name.name c.args.strength table.entries x absent
    ∙ ap (λ (n : List ℕ). first_of (known_in (seen {K = Vec ℕ Global} (λ k. k.items) table.entries) x) (if bytes_eq x n then Some c.args.strength else None)) key
    ∙ ap (λ t. first_of (known_in t x) (if bytes_eq x c.args.name.now then Some c.args.strength else None)) c.self.view_is
    ∙ ap (first_of (known_in c.args.self.now x)) (sym (one_said c.args.name.now x c.args.strength))
