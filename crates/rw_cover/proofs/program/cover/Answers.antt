-- What the first place says.
use Rattle.std.proofs.Common.{◌∙◌, ap, subst, Some}
use Rattle.rw_cover.specs.Correct.{IsFirst}
use Rattle.rw_cover.proofs.Answer.{all_covered, leave_over, none_uncovered, same_refusal}
use Rattle.rw_cover.proofs.program.cover.Goals as goal

pub returns-in-None-clause-ok : goal.returns-in-None-clause-ok
returns-in-None-clause-ok c = none_uncovered _ (subst (IsFirst _) c.in-None.is c.in_ok-first_of_program.ensures)

pub returns-in-None-clause-matched : goal.returns-in-None-clause-matched
returns-in-None-clause-matched c = all_covered _ (none_uncovered _ (subst (IsFirst _) c.in-None.is c.in_ok-first_of_program.ensures))

pub returns-in-Some-clause-left_over : goal.returns-in-Some-clause-left_over
returns-in-Some-clause-left_over c = λ refusal e. leave_over _ refusal.place (subst (IsFirst _) (c.in-Some.is ∙ ap Some (same_refusal _ refusal e)) c.in_ok-first_of_program.ensures)
