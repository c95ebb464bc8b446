-- A local function has its clauses in the tree.
use Rattle.std.proofs.Common.{◌≡◌, ◌++◌, OnOk, subst}
use Rattle.rw_scope_names.proofs.Clauses.{uneven_in-Fun}
use Rattle.rw_scope_names.proofs.uneven.see_local.Goals as goal

pub returns-in-Fun : goal.returns-in-Fun
returns-in-Fun c =
    subst (λ v. OnOk c.see_uneven.result (c.see_uneven.new.places.items ≡ c.args.places.now.items ++ v))
    (uneven_in-Fun c.args.local.now c.in-Fun.field-0 c.in-Fun.field-1 c.in-Fun.clauses c.as_slice.result.now c.in-Fun.is c.as_slice.ensures) c.see_uneven.ensures
