-- The last of the types so far stand on the others.
use Rattle.std.proofs.Common.{◌≡◌, ◌-◌, ◌++◌, map, length, drop}
use Rattle.specialise_tables.specs.declared.stack.Task.TheVariants as task
use Rattle.specialise_tables.proofs.stack.Stack.see.Given as goal

abbrev pub invariant-loop-i : goal.invariant-loop-i
invariant-loop-i l = l.self ≡ map task.See (drop (length l.numbers - l.i) l.numbers) ++ l.fn.self
