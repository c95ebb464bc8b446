-- Rows that have types either cover or don't.
use Rattle.rw_cover.specs.Coverage.{groups_of}
use Rattle.rw_scope_rules.specs.Bindings.{bound_program}
use Rattle.rw_cover_laws.proofs.Typable.{typable_types, typed_is_typable}
use Rattle.rw_cover_laws.proofs.laws.exact_law.Goals as goal

pub returns-clause-typable : goal.returns-clause-typable
returns-clause-typable c = λ program founded is. c.places_law.ensures.one (groups_of (bound_program program)) (typable_types program founded is)

pub returns-clause-typed : goal.returns-clause-typed
returns-clause-typed c = λ program typed scoped are.
    c.places_law.ensures.one (groups_of (bound_program program)) (typable_types program scoped.data_types_are_founded (typed_is_typable program typed are))
