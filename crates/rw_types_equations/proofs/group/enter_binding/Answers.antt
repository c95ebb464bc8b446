-- What each kind of binding binds.
use Rattle.std.proofs.Common.{refl}
use Rattle.rw_types_equations.proofs.Entering.{entered_none, entered_one, entered_as}
use Rattle.rw_types_equations.proofs.ClauseArms.{signature_locals, function_locals, pattern_binding_locals}
use Rattle.rw_types_equations.proofs.group.enter_binding.Goals as goal

pub returns-in-Sig : goal.returns-in-Sig
returns-in-Sig c = entered_none _ _ _ refl (signature_locals c.args.tree.now _ _ _ c.in-Sig.is)

pub returns-in_ok-enter-in-Fun : goal.returns-in_ok-enter-in-Fun
returns-in_ok-enter-in-Fun c = entered_one _ _ _ _ c.in_ok-enter-in-Fun.ensures (function_locals c.args.tree.now _ _ _ c.in-Fun.is)

pub returns-in_ok-enter_row-in-Pattern : goal.returns-in_ok-enter_row-in-Pattern
returns-in_ok-enter_row-in-Pattern c = entered_as _ _ _ _ c.in_ok-enter_row-in-Pattern.ensures (pattern_binding_locals c.args.tree.now _ _ _ c.in-Pattern.is c.as_slice.ensures)
