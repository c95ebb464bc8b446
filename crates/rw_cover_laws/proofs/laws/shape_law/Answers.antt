-- Data types are unfolded step by step.
use Rattle.rw_cover_laws.specs.Shapes.{fields_in}
use Rattle.rw_cover_laws.proofs.Alone.{one_shape}
use Rattle.rw_cover_laws.proofs.Typable.{each_has_shape}
use Rattle.rw_cover_laws.proofs.laws.shape_law.Goals as goal

pub returns-clause-some : goal.returns-clause-some
returns-clause-some c = each_has_shape

pub returns-clause-one : goal.returns-clause-one
returns-clause-one c = λ world variables unknowns type shape other h k. one_shape (fields_in world) variables unknowns shape other type h k
