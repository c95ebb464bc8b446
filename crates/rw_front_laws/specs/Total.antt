-- Stages that have an answer.
use Rattle.std.specs.Prelude.{Result}
use Rattle.rw_base.specs.declared.fail.Refusal.{Refusal}
use Rattle.rw_front.specs.Stages.{Stage}

-- of this thing a stage makes something, or refuses it in some way
abbrev pub IsTotalAt : {A B : Type 0} → Stage A B → A → Type 0
IsTotalAt {A} {B} Is given = (made : Result B Refusal) × Is given made
