-- The plain form of a closed type.
use Rattle.std.proofs.Common.{arith}
use Rattle.std.proofs.lemmas.Grind.{common_steps}
use Rattle.std.proofs.lemmas.Result.{IfOk-weaker}
use Rattle.rw_types_solving.proofs.MostGeneral.{closed_some, closed_none}
use Rattle.rw_types_solving.proofs.Plains.{plain_forms, tys_map}
use Rattle.rw_types_solving.proofs.close.+closing.Goals as goal

pub closed-returns-in-Some : goal.closed-returns-in-Some
closed-returns-in-Some t c = let l = c.in-Some.ensures.lookup in IfOk-weaker c.default_of.result _ _ (λ made e. closed_some _ c.in-Var.x _ c.in-Some.sort.now made c.in-Var.is l.3.0 l.1 e) c.default_of.ensures

pub closed-returns-in-None : goal.closed-returns-in-None
closed-returns-in-None t c = let l = c.in-None.ensures.lookup in closed_none _ c.in-Var.x _ c.in-Var.is l.3

pub closed-returns-in_ok-closed_all-in-App : goal.closed-returns-in_ok-closed_all-in-App
closed-returns-in_ok-closed_all-in-App t c = grind (arith, common_steps, plain_forms, tys_map)
