-- A step, by what was seen of the last group.
use Rattle.std.proofs.Common.{◌≡◌, ◌∙◌, ◌++◌, ◌∷◌, [], true, false, refl, sym, ap, subst, Bool, List}
use Rattle.rw_cover_matrix.specs.declared.pattern.Pattern.{Pattern}
use Rattle.rw_cover_matrix.specs.declared.sort.Sorted.{Sorted}
use Rattle.rw_cover_matrix.specs.Matching.{plain_rows}
use Rattle.rw_cover_matrix.specs.Coverage.{Decides}
use Rattle.rw_cover_matrix.specs.Owing.{left_in, IsStep, IsAsked, IsSeen}
use Rattle.rw_cover_matrix.proofs.Owed.{left-pop, step_covered, step_fails, step_fewer}
use Rattle.rw_cover_matrix.proofs.decide.asked.Goals as goal

module _ (before : List Sorted) (last left : Sorted) (rows : List (List Pattern)) (split : left_in last ≡ left_in left ++ plain_rows rows ∷ []) where
  answered : (answer : Bool) → Decides answer (plain_rows rows) → IsAsked before last (before ++ left ∷ []) answer
  answered true d = step_covered before last left (plain_rows rows) split d
  answered false d = step_fails before last left (plain_rows rows) split d

pub returns-in-Answer : goal.returns-in-Answer
returns-in-Answer c =
    let left : Sorted = record { groups = c.pop.new.self; shorter = c.args.last.shorter } in
    let split = left-pop c.args.last left c.in-Some.group c.as_slice.result.now c.in_ok-rows-in-Some.rows c.in-Some.ensures.items refl c.in_ok-rows-in-Some.ensures c.as_slice.ensures in
    subst (λ after. IsAsked c.args.owed.now.items c.args.last after c.in-Answer.answer) (sym c.in_ok-push-in-Some.ensures.items)
    (answered c.args.owed.now.items c.args.last left c.in_ok-rows-in-Some.rows split c.in-Answer.answer
    (subst (IsSeen (plain_rows c.in_ok-rows-in-Some.rows)) c.in-Answer.is c.in_ok-answer-in-Some.ensures))

pub returns-in_ok-push-in-Fewer : goal.returns-in_ok-push-in-Fewer
returns-in_ok-push-in-Fewer c =
    let left : Sorted = record { groups = c.pop.new.self; shorter = c.args.last.shorter } in
    let split = left-pop c.args.last left c.in-Some.group c.as_slice.result.now c.in_ok-rows-in-Some.rows c.in-Some.ensures.items refl c.in_ok-rows-in-Some.ensures c.as_slice.ensures in
    subst (IsStep c.args.owed.now.items c.args.last) (sym (c.in_ok-push-in-Fewer.ensures.items ∙ ap (λ all. all ++ c.in-Fewer.fewer ∷ []) c.in_ok-push-in-Some.ensures.items))
    (step_fewer c.args.owed.now.items c.args.last left c.in-Fewer.fewer (plain_rows c.in_ok-rows-in-Some.rows) split
    (subst (IsSeen (plain_rows c.in_ok-rows-in-Some.rows)) c.in-Fewer.is c.in_ok-answer-in-Some.ensures))
