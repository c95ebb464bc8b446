-- Each turn takes what waits last.
use Rattle.std.proofs.Common.{◌≡◌, ◌∙◌, ◌∷◌, ◌++◌, [], reverse, ap, sym, option_to_list, Some, true, false, rules}
use Rattle.std.proofs.lemmas.Result.{err_from_is_err_and}
use Rattle.rw_parser_grammar.specs.Chains.{groups_left, groups_right}
use Rattle.rw_parser_chains.specs.Fixities.{strength_at}
use Rattle.rw_parser_chains.specs.Grouping.{Counted, Waiting, operated, settled, strength_of}
use Rattle.rw_base.proofs.Answers.{fails_on}
use Rattle.rw_parser_chains.proofs.Steps.{last_first, emptied, settled_none, settled_step, settled_fail, settled_stays, settled_breaks}
use Rattle.rw_parser_chains.proofs.chain.settle.Goals as goal

pub returns-then-not-groups_right : goal.returns-then-not-groups_right
returns-then-not-groups_right c = λ n.
    let s = strength_at c.args.fixities.now in
    let w : Waiting = (c.in-Some.left, c.in-Some.operator) in
    let next : Counted = (c.args.next.now, n) in
    let was : c.loop-left.waiting.items ≡ c.pop.new.self.items ++ w ∷ [] = c.pop.ensures.items ∙ ap (λ r. c.pop.new.self.items ++ option_to_list r) c.in-Some.is in
    let turned : reverse c.loop-left.waiting.items ≡ w ∷ reverse c.pop.new.self.items = ap reverse was ∙ last_first c.pop.new.self.items w in
    let outer : c.strength-next.result ≡ strength_of s next = c.strength-next.ensures ∙ ap s c.operator_name.ensures in
    let inner : c.strength-strength.result ≡ strength_of s w.1 = c.strength-strength.ensures ∙ ap s c.operator_name-in-Some.ensures in
    let test : groups_left c.strength-strength.result c.strength-next.result ≡ false = search rules in
    let left : groups_left (strength_of s w.1) (strength_of s next) ≡ false = ap (λ z. groups_left z (strength_of s next)) (sym inner) ∙ ap (groups_left c.strength-strength.result) (sym outer) ∙ test in
    let other : groups_right c.strength-next.result c.strength-strength.result ≡ false = search rules in
    let right : groups_right (strength_of s next) (strength_of s w.1) ≡ false = ap (λ z. groups_right z (strength_of s w.1)) (sym outer) ∙ ap (groups_right c.strength-next.result) (sym inner) ∙ other in
    sym (c.loop-left.invariant n) ∙ ap (λ z. settled s next z c.loop-left.operand) turned ∙ settled_breaks s next w (reverse c.pop.new.self.items) c.loop-left.operand left right

pub returns-then-not-groups_left : goal.returns-then-not-groups_left
returns-then-not-groups_left c = λ n.
    let s = strength_at c.args.fixities.now in
    let w : Waiting = (c.in-Some.left, c.in-Some.operator) in
    let next : Counted = (c.args.next.now, n) in
    let was : c.loop-left.waiting.items ≡ c.pop.new.self.items ++ w ∷ [] = c.pop.ensures.items ∙ ap (λ r. c.pop.new.self.items ++ option_to_list r) c.in-Some.is in
    let turned : reverse c.loop-left.waiting.items ≡ w ∷ reverse c.pop.new.self.items = ap reverse was ∙ last_first c.pop.new.self.items w in
    let outer : c.strength-next.result ≡ strength_of s next = c.strength-next.ensures ∙ ap s c.operator_name.ensures in
    let inner : c.strength-strength.result ≡ strength_of s w.1 = c.strength-strength.ensures ∙ ap s c.operator_name-in-Some.ensures in
    let test : groups_left c.strength-strength.result c.strength-next.result ≡ false = search rules in
    let left : groups_left (strength_of s w.1) (strength_of s next) ≡ false = ap (λ z. groups_left z (strength_of s next)) (sym inner) ∙ ap (groups_left c.strength-strength.result) (sym outer) ∙ test in
    let other : groups_right c.strength-next.result c.strength-strength.result ≡ true = search rules in
    let right : groups_right (strength_of s next) (strength_of s w.1) ≡ true = ap (λ z. groups_right z (strength_of s w.1)) (sym outer) ∙ ap (groups_right c.strength-next.result) (sym inner) ∙ other in
    let pushed : reverse c.push.new.self.items ≡ w ∷ reverse c.pop.new.self.items = ap reverse c.in_ok-push.ensures.items ∙ last_first c.pop.new.self.items w in
    sym (c.loop-left.invariant n) ∙ ap (λ z. settled s next z c.loop-left.operand) turned ∙ settled_stays s next w (reverse c.pop.new.self.items) c.loop-left.operand left right
    ∙ ap (λ z. Some (z, c.loop-left.operand)) (sym pushed)

pub returns-in_err-operand : goal.returns-in_err-operand
returns-in_err-operand c = λ n.
    let p = err_from_is_err_and c.from_residual-in_err-operand.result c.from_residual-in_err-operand.ensures.1 in
    let s = strength_at c.args.fixities.now in
    let w : Waiting = (c.in-Some.left, c.in-Some.operator) in
    let next : Counted = (c.args.next.now, n) in
    let was : c.loop-left.waiting.items ≡ c.pop.new.self.items ++ w ∷ [] = c.pop.ensures.items ∙ ap (λ r. c.pop.new.self.items ++ option_to_list r) c.in-Some.is in
    let turned : reverse c.loop-left.waiting.items ≡ w ∷ reverse c.pop.new.self.items = ap reverse was ∙ last_first c.pop.new.self.items w in
    let outer : c.strength-next.result ≡ strength_of s next = c.strength-next.ensures ∙ ap s c.operator_name.ensures in
    let inner : c.strength-strength.result ≡ strength_of s w.1 = c.strength-strength.ensures ∙ ap s c.operator_name-in-Some.ensures in
    let test : groups_left c.strength-strength.result c.strength-next.result ≡ true = search rules in
    let left : groups_left (strength_of s w.1) (strength_of s next) ≡ true = ap (λ z. groups_left z (strength_of s next)) (sym inner) ∙ ap (groups_left c.strength-strength.result) (sym outer) ∙ test in
    rw (p.1, p.2) (fails_on c.in_err-operand.field-0.0 (operated w.1 w.0 c.loop-left.operand) (settled s next (reverse c.args.waiting.now.items) c.args.operand) c.in_err-operand.ensures
    (λ h. sym (c.loop-left.invariant n) ∙ ap (λ z. settled s next z c.loop-left.operand) turned ∙ settled_fail s next w (reverse c.pop.new.self.items) c.loop-left.operand left h))

pub loop-left-preserved : goal.loop-left-preserved
loop-left-preserved c = λ n.
    let s = strength_at c.args.fixities.now in
    let w : Waiting = (c.in-Some.left, c.in-Some.operator) in
    let next : Counted = (c.args.next.now, n) in
    let was : c.loop-left.waiting.items ≡ c.pop.new.self.items ++ w ∷ [] = c.pop.ensures.items ∙ ap (λ r. c.pop.new.self.items ++ option_to_list r) c.in-Some.is in
    let turned : reverse c.loop-left.waiting.items ≡ w ∷ reverse c.pop.new.self.items = ap reverse was ∙ last_first c.pop.new.self.items w in
    let outer : c.strength-next.result ≡ strength_of s next = c.strength-next.ensures ∙ ap s c.operator_name.ensures in
    let inner : c.strength-strength.result ≡ strength_of s w.1 = c.strength-strength.ensures ∙ ap s c.operator_name-in-Some.ensures in
    let test : groups_left c.strength-strength.result c.strength-next.result ≡ true = search rules in
    let left : groups_left (strength_of s w.1) (strength_of s next) ≡ true = ap (λ z. groups_left z (strength_of s next)) (sym inner) ∙ ap (groups_left c.strength-strength.result) (sym outer) ∙ test in
    sym (settled_step s next w (reverse c.pop.new.self.items) c.loop-left.operand c.in_ok-operand.operand left c.in_ok-operand.ensures)
    ∙ ap (λ z. settled s next z c.loop-left.operand) (sym turned) ∙ c.loop-left.invariant n

pub returns : goal.returns
returns c = λ n.
    let s = strength_at c.args.fixities.now in
    let next : Counted = (c.args.next.now, n) in
    let none = emptied c.loop-left.waiting.items c.pop.new.self.items c.pop.result c.loop-left.waiting.len c.pop.new.self.len c.in_default.is c.pop.ensures.items c.pop.ensures.cases c.pop.ensures.rest in
    sym (c.loop-left.invariant n) ∙ ap (λ z. settled s next (reverse z) c.loop-left.operand) none.0 ∙ settled_none s next c.loop-left.operand
    ∙ ap (λ z. Some (reverse z, c.loop-left.operand)) (sym none.1)
