-- What the loop keeps: the answer for the uses that are left is that for all.
use Rattle.std.proofs.Common.{◌≡◌, drop}
use Rattle.std.specs.List.{list_all}
use Rattle.rw_tree.specs.declared.types.Kind.TheVariants.{Plain}
use Rattle.rw_scope_rules.specs.Kinds.{kinds_agree}
use Rattle.rw_scope_uses.specs.Spine.{plain_uses}
use Rattle.rw_scope_kinds.proofs.uses.all_plain.Given as goal

abbrev pub invariant-loop-one : goal.invariant-loop-one
invariant-loop-one l = list_all (λ u. kinds_agree u.1 Plain) (plain_uses (drop l.one-index l.uses)) ≡ list_all (λ u. kinds_agree u.1 Plain) (plain_uses l.uses)
