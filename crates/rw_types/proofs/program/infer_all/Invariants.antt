-- The typings so far are the default ones of the declarations so far, with shared types.
use Rattle.std.proofs.Common.{take}
use Rattle.rw_types_equations.specs.Seen.{seen_world}
use Rattle.rw_types.proofs.Programs.{InferredSoFar}
use Rattle.rw_types.proofs.program.infer_all.Given as goal

abbrev pub invariant-loop-decl : goal.invariant-loop-decl
invariant-loop-decl l = InferredSoFar (seen_world l.world) (take l.decl-index l.decls) l.all
