-- The types so far stand behind the old ones.
use Rattle.std.proofs.Common.{◌≡◌, ◌++◌, map, take}
use Rattle.rw_tree.specs.Types.{written}
use Rattle.rw_start.specs.Seen.{seen_types}
use Rattle.rw_start.proofs.device.push_all.Given as goal

abbrev pub invariant-loop-part : goal.invariant-loop-part
invariant-loop-part l = seen_types l.arguments.items ≡ seen_types l.fn.arguments.items ++ map written (take l.part-index l.parts)
