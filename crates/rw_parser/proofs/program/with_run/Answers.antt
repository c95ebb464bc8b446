-- A run behind what is kept, by its item.
use Rattle.std.proofs.Common.{◌≡◌, ◌∙◌, take, None, refl, sym, ap}
use Rattle.rw_parser_grammar.specs.Grammar.{whole_run}
use Rattle.rw_parser_grammar.specs.Lexemes.{next_spot}
use Rattle.rw_parser.specs.Reading.{run_kept}
use Rattle.rw_parser.proofs.Turns.{whole, taken_within, index_is, kept_next, refused_next}
use Rattle.rw_parser.proofs.program.with_run.Goals as goal

pub returns-in-Ok : goal.returns-in-Ok
returns-in-Ok g c = λ reads n end small e.
    let ts = c.args.tokens.now in
    let k = c.args.run in
    let place = c.next_spot.result.place in
    let first : place ≡ (next_spot ts).place = ap (λ z. z.place) c.next_spot.ensures in
    let some : (k ≡ 0) → ⊥ = λ z. c.if-run-eq0.false z in
    let same = index_is ts k c.index-tokens-run.result end c.requires.within c.index-tokens-run.is e in
    let w = whole n ts k end place c.args.kept c.requires.within some first small e ∙ ap (whole_run (take k ts)) (sym same) in
    let found = c.in-Ok.ensures reads n (take k ts) w (taken_within ts k n c.requires.within small) in
    kept_next n ts k end place c.args.kept c.requires.within some first small e c.in-Ok.item c.in_ok-with_kept-in-Ok.field-0 (sym (ap (run_kept n (take k ts)) same) ∙ found) c.in_ok-with_kept-in-Ok.ensures

pub returns-in-Err-Refused : goal.returns-in-Err-Refused
returns-in-Err-Refused g c = λ reads n end small e.
    let ts = c.args.tokens.now in
    let k = c.args.run in
    let place = c.next_spot.result.place in
    let first : place ≡ (next_spot ts).place = ap (λ z. z.place) c.next_spot.ensures in
    let some : (k ≡ 0) → ⊥ = λ z. c.if-run-eq0.false z in
    let same = index_is ts k c.index-tokens-run.result end c.requires.within c.index-tokens-run.is e in
    let w = whole n ts k end place c.args.kept c.requires.within some first small e ∙ ap (whole_run (take k ts)) (sym same) in
    let found : run_kept n (take k ts) c.index-tokens-run.result ≡ None = rw c.in-Err-Refused.field-0-is at (c.in-Err-Refused.ensures reads n (take k ts) w (taken_within ts k n c.requires.within small)) in
    rw c.broken.ensures (refl, refused_next n ts k end place c.args.kept c.requires.within some first small e (sym (ap (run_kept n (take k ts)) same) ∙ found))
