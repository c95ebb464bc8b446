-- A head and what stands under it.
use Rattle.std.proofs.Common.{◌∙◌, sym}
use Rattle.rw_types_solving.proofs.StateMonads.{monad_then, monad_else}
use Rattle.rw_types_solving.proofs.condition.+stacking.Goals as goal

pub is_state_monad-returns-then-is_state_head : goal.is_state_monad-returns-then-is_state_head
is_state_monad-returns-then-is_state_head t c = monad_then _ _ c.in-App.head c.in-App.parts _ _ _ c.in-App.is c.len.ensures (sym c.is_state_head.ensures ∙ c.if-is_state_head.true) c.as_slice.ensures c.are_stacked.ensures

pub is_state_monad-returns-else-is_state_head : goal.is_state_monad-returns-else-is_state_head
is_state_monad-returns-else-is_state_head t c = c.if-is_state_head.false ∙ monad_else _ _ c.in-App.head c.in-App.parts _ c.in-App.is c.len.ensures (sym c.is_state_head.ensures ∙ c.if-is_state_head.false)
