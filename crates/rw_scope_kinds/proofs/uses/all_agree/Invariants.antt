-- What the loop keeps: the answer for the uses that are left is that for all, and the table has the first of each name.
use Rattle.std.proofs.Common.{◌≡◌, [], drop, take}
use Rattle.rw_scope_rules.specs.Names.{Bytes, first_named}
use Rattle.rw_scope_uses.specs.Spine.{plain_uses}
use Rattle.rw_scope_kinds.specs.Agreeing.{agree_after}
use Rattle.rw_scope_kinds.proofs.uses.all_agree.Given as goal

abbrev pub invariant-loop-one : goal.invariant-loop-one
invariant-loop-one l = record {
  answer : agree_after (plain_uses (take l.one-index l.uses)) (plain_uses (drop l.one-index l.uses)) ≡ agree_after [] (plain_uses l.uses);
  firsts : (x : Bytes) → first_named x l.firsts ≡ first_named x (plain_uses (take l.one-index l.uses));
}
