-- What the table's most general solution says of the tree.
use Rattle.std.proofs.Common.{sym}
use Rattle.std.proofs.lemmas.Result.{err_from_is_err_and}
use Rattle.rw_types_solving.specs.Types.{meaning}
use Rattle.rw_types_equations.proofs.Typed.{solutions_are, holds_then, same_small}
use Rattle.rw_types_equations.proofs.general.most_general_types.Goals as goal

pub returns-clause-agrees : goal.returns-clause-agrees
returns-clause-agrees c = (solutions_are _ _ _ _ _ c.new-equations.ensures c.in_ok-add_declaration.ensures c.as_slice.ensures c.in_ok-table.ensures.solves (meaning c.in_ok-types.types)).0 c.in_ok-types.ensures.solves

pub returns-clause-general : goal.returns-clause-general
returns-clause-general c = λ t h. (c.in_ok-types.ensures.general t).0 ((solutions_are _ _ _ _ _ c.new-equations.ensures c.in_ok-add_declaration.ensures c.as_slice.ensures c.in_ok-table.ensures.solves t).1 h)

pub returns-clause-small : goal.returns-clause-small
returns-clause-small c = same_small _ _ _ c.in_ok-table.ensures.as_many c.in_ok-types.ensures.small

pub returns-in_err-table-clause-refused : goal.returns-in_err-table-clause-refused
returns-in_err-table-clause-refused c = λ h t p small.
    let q = err_from_is_err_and c.from_residual-in_err-table.result c.from_residual-in_err-table.ensures.1 in
    c.in_err-table.ensures.refused (cc) t (holds_then _ _ _ _ c.new-equations.ensures c.in_ok-add_declaration.ensures c.as_slice.ensures t p) small

pub returns-in_err-types-clause-refused : goal.returns-in_err-types-clause-refused
returns-in_err-types-clause-refused c = λ h t p small.
    let q = err_from_is_err_and c.from_residual-in_err-types.result c.from_residual-in_err-types.ensures.1 in
    c.in_err-types.ensures.refused (cc) t ((solutions_are _ _ _ _ _ c.new-equations.ensures c.in_ok-add_declaration.ensures c.as_slice.ensures c.in_ok-table.ensures.solves t).1 p)
    (same_small _ _ _ (sym c.in_ok-table.ensures.as_many) small)
