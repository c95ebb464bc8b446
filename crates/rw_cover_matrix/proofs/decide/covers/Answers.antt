-- One step more, and what the rows are where something that was owed doesn't cover.
use Rattle.std.proofs.Common.{rules, arith, ◌≡◌, ◌∙◌, ◌∷◌, [], true, false, sym, ap, subst, inl, inr}
use Rattle.rw_cover_matrix.specs.Matching.{plain_rows}
use Rattle.rw_cover_matrix.specs.Owing.{StandFor, SomeFails, IsStep, IsAsked, owed_in}
use Rattle.rw_cover_matrix.proofs.Owed.{stand_on, owed-push, owed_weight-push}
use Rattle.rw_cover_matrix.proofs.decide.covers.Goals as goal

pub returns-then-not-branch : goal.returns-then-not-branch
returns-then-not-branch c =
    let no : c.in_ok-asked.field-0 ≡ false = search rules in
    let fails = subst (IsAsked c.pop.new.self.items c.in-Some.last c.asked.new.owed.items) no c.in_ok-asked.ensures in
    let was = ap owed_in c.in-Some.ensures.items ∙ owed-push c.pop.new.self.items c.in-Some.last in
    elim (c.loop-last.invariant.fails (subst SomeFails (sym was) fails)) [
      | inl d ↦ d
      | inr x ↦ absurd x
    ]

pub loop-last-smaller : goal.loop-last-smaller
loop-last-smaller c =
    let yes : c.in_ok-asked.field-0 ≡ true = search rules in
    let step : IsStep c.pop.new.self.items c.in-Some.last c.asked.new.owed.items = subst (IsAsked c.pop.new.self.items c.in-Some.last c.asked.new.owed.items) yes c.in_ok-asked.ensures in
    rw c.in-Some.ensures.items (omega (arith, step.less, owed_weight-push c.pop.new.self.items c.in-Some.last))

pub loop-last-preserved : goal.loop-last-preserved
loop-last-preserved c =
    let yes : c.in_ok-asked.field-0 ≡ true = search rules in
    let step : IsStep c.pop.new.self.items c.in-Some.last c.asked.new.owed.items = subst (IsAsked c.pop.new.self.items c.in-Some.last c.asked.new.owed.items) yes c.in_ok-asked.ensures in
    let was = ap owed_in c.in-Some.ensures.items ∙ owed-push c.pop.new.self.items c.in-Some.last in
    stand_on (plain_rows c.args.rows ∷ []) (owed_in c.loop-last.owed.items) (owed_in c.asked.new.owed.items) c.loop-last.invariant
    (subst (λ x. StandFor x (owed_in c.asked.new.owed.items)) (sym was) step.stand)
