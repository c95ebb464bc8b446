-- Binding changes annotations alone.
use Rattle.rw_scope_binding.proofs.Unchanged.{program_same}
use Rattle.rw_scope_binding.proofs.laws.annotation_law.Goals as goal

pub returns : goal.returns
returns c = program_same
