-- What the loop keeps: the answer for the fields that are left is that for all.
use Rattle.std.proofs.Common.{◌≡◌, drop}
use Rattle.std.specs.List.{list_all}
use Rattle.rw_tree.specs.Types.{writtens}
use Rattle.rw_scope_kinds.specs.Contexts.{fits_field}
use Rattle.rw_scope_kinds.proofs.wrong.fields_fit.Given as goal

abbrev pub invariant-loop-ty : goal.invariant-loop-ty
invariant-loop-ty l = list_all (fits_field l.context) (writtens (drop l.ty-index l.fields)) ≡ list_all (fits_field l.context) (writtens l.fields)
