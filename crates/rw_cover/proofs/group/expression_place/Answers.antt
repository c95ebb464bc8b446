-- The group of a `case` and of a lambda, and none of other expressions.
use Rattle.std.proofs.Common.{refl}
use Rattle.rw_tree.specs.Views.{itself}
use Rattle.rw_tree.proofs.Plains.{expression-Var, expression-Con, expression-Apply, expression-Tuple, expression-Chain, expression-Let, expression-If, expression-Do}
use Rattle.rw_cover.proofs.Forms.{case_first, expression_is, lambda_first, no_group}
use Rattle.rw_cover.proofs.group.expression_place.Goals as goal

pub returns-in_ok-covered-in-Case : goal.returns-in_ok-covered-in-Case
returns-in_ok-covered-in-Case c =
    case_first c.args.counts.now c.args.known.now c.args.tree.now c.in-Case.at c.in-Case.field-1 c.in-Case.rows c.as_slice.result.now c.in_ok-covered-in-Case.covered c.unless.result
    c.in-Case.is c.as_slice.ensures c.in_ok-covered-in-Case.ensures c.unless.ensures

pub returns-in_ok-covered-in-Lambda : goal.returns-in_ok-covered-in-Lambda
returns-in_ok-covered-in-Lambda c =
    lambda_first c.args.counts.now c.args.known.now c.args.tree.now c.in-Lambda.at c.in-Lambda.pats c.as_slice-in-Lambda.result.now c.in-Lambda.field-2 c.in_ok-covered-in-Lambda.covered c.unless-in-Lambda.result
    c.in-Lambda.is c.as_slice-in-Lambda.ensures c.in_ok-covered-in-Lambda.ensures c.unless-in-Lambda.ensures

pub returns-in-Var : goal.returns-in-Var
returns-in-Var c = no_group _ (expression_is c.args.counts.now c.args.known.now _ _ _ c.in-Var.is (expression-Var itself c.in-Var.field-0 c.in-Var.field-1) refl)

pub returns-in-Con : goal.returns-in-Con
returns-in-Con c = no_group _ (expression_is c.args.counts.now c.args.known.now _ _ _ c.in-Con.is (expression-Con itself c.in-Con.field-0 c.in-Con.field-1) refl)

pub returns-in-Apply : goal.returns-in-Apply
returns-in-Apply c = no_group _ (expression_is c.args.counts.now c.args.known.now _ _ _ c.in-Apply.is (expression-Apply itself c.in-Apply.field-0 c.in-Apply.field-1 c.in-Apply.field-2) refl)

pub returns-in-Tuple : goal.returns-in-Tuple
returns-in-Tuple c = no_group _ (expression_is c.args.counts.now c.args.known.now _ _ _ c.in-Tuple.is (expression-Tuple itself c.in-Tuple.field-0 c.in-Tuple.field-1) refl)

pub returns-in-Chain : goal.returns-in-Chain
returns-in-Chain c = no_group _ (expression_is c.args.counts.now c.args.known.now _ _ _ c.in-Chain.is (expression-Chain itself c.in-Chain.field-0 c.in-Chain.field-1 c.in-Chain.field-2) refl)

pub returns-in-Let : goal.returns-in-Let
returns-in-Let c = no_group _ (expression_is c.args.counts.now c.args.known.now _ _ _ c.in-Let.is (expression-Let itself c.in-Let.field-0 c.in-Let.field-1 c.in-Let.field-2) refl)

pub returns-in-If : goal.returns-in-If
returns-in-If c = no_group _ (expression_is c.args.counts.now c.args.known.now _ _ _ c.in-If.is (expression-If itself c.in-If.field-0 c.in-If.field-1 c.in-If.field-2 c.in-If.field-3) refl)

pub returns-in-Do : goal.returns-in-Do
returns-in-Do c = no_group _ (expression_is c.args.counts.now c.args.known.now _ _ _ c.in-Do.is (expression-Do itself c.in-Do.field-0 c.in-Do.field-1) refl)
