-- Part by part, at the fields of each constructor.
use Rattle.rw_types_rules.specs.Schemes.{world_of}
use Rattle.rw_cover.specs.Rows.{counts_of}
use Rattle.rw_cover_laws.proofs.Worlds.{world_is}
use Rattle.rw_meaning_matching.proofs.Typed.{pattern_exact, first_exact}
use Rattle.rw_meaning_matching.proofs.laws.typed_patterns_are_exact.Goals as goal

pub returns-clause-pattern : goal.returns-clause-pattern
returns-clause-pattern c = λ decls p agrees names variables unknowns shape has. pattern_exact (world_of decls) (counts_of decls) (world_is decls) variables unknowns p agrees names shape has

pub returns-clause-row : goal.returns-clause-row
returns-clause-row c = λ decls pats others agrees names variables unknowns columns have. first_exact (world_of decls) (counts_of decls) (world_is decls) variables unknowns pats others agrees names columns have
