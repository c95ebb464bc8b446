-- What the loops keep: what was noted, before what is left to be noted, is the whole.
use Rattle.std.proofs.Common.{◌≡◌, true, drop}
use Rattle.rw_tree.specs.Types.{writtens, type_parts}
use Rattle.rw_scope_rules.specs.Kinds.{both, at_kinds, all_plain, parts_uses}
use Rattle.rw_scope_uses.specs.Contexts.{takes_in}
use Rattle.rw_scope_uses.specs.Spine.{plain_uses, if_fit}
use Rattle.rw_scope_uses.proofs.check.+checking.Given as goal

abbrev pub invariant-check_parts-loop-i : goal.invariant-check_parts-loop-i
invariant-check_parts-loop-i l =
    both (if_fit true (plain_uses l.uses.items)) (at_kinds (parts_uses (takes_in l.context) l.context.arrows (type_parts (writtens (drop l.i l.parts)))) (drop l.i l.kinds))
    ≡ both (if_fit true (plain_uses l.fn.uses.items)) (at_kinds (parts_uses (takes_in l.context) l.context.arrows (type_parts (writtens l.parts))) l.kinds)

abbrev pub invariant-check_types-loop-part : goal.invariant-check_types-loop-part
invariant-check_types-loop-part l =
    both (if_fit true (plain_uses l.uses.items)) (all_plain (parts_uses (takes_in l.context) l.context.arrows (type_parts (writtens (drop l.part-index l.parts)))))
    ≡ both (if_fit true (plain_uses l.fn.uses.items)) (all_plain (parts_uses (takes_in l.context) l.context.arrows (type_parts (writtens l.parts))))
