-- The columns' types have shapes.
use Rattle.rw_cover_laws.proofs.Typable.{typable_types, typed_is_typable}
use Rattle.rw_cover_laws.proofs.laws.typable_law.Goals as goal

pub returns-clause-typable : goal.returns-clause-typable
returns-clause-typable c = typable_types

pub returns-clause-typed : goal.returns-clause-typed
returns-clause-typed c = λ program typed scoped are. typable_types program scoped.data_types_are_founded (typed_is_typable program typed are)
