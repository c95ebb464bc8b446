-- Part by part, at the fields of the constructor that matches.
use Rattle.rw_types_rules.specs.Schemes.{world_of}
use Rattle.rw_cover.specs.Rows.{counts_of}
use Rattle.rw_cover_laws.proofs.Worlds.{world_is}
use Rattle.rw_meaning_matching.proofs.Seen.{pattern_sees, row_sees}
use Rattle.rw_meaning_matching.proofs.laws.variables_see_values.Goals as goal

pub returns-clause-pattern : goal.returns-clause-pattern
returns-clause-pattern c = λ decls counts p agrees names variables unknowns shape has v is match.
    pattern_sees (world_of decls) (counts_of decls) (world_is decls) variables unknowns counts p agrees names shape has v is match

pub returns-clause-row : goal.returns-clause-row
returns-clause-row c = λ decls counts pats others agrees names variables unknowns columns have given are match.
    row_sees (world_of decls) (counts_of decls) (world_is decls) variables unknowns counts pats others agrees names columns have given are match
