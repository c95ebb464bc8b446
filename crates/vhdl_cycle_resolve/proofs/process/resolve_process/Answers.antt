-- Its places, and its statements.
use Rattle.std.proofs.Common.{List, ap, ◌∙◌}
use Rattle.vh_tree.specs.Bits.{Bytes}
use Rattle.vh_tree.specs.Functions.{stmts_of as stmts_mean}
use Rattle.vh_tree.specs.declared.stmt.VStmt.{VStmt}
use Rattle.vhdl_cycle_flat.specs.Delta.{Coming}
use Rattle.vhdl_cycle_flat.specs.Names.{process_world_over}
use Rattle.vhdl_cycle_flat.specs.Resolving.{places_of}
use Rattle.vhdl_cycle_resolve.specs.Over.{slots_in, frames_in}
use Rattle.vhdl_cycle_resolve.proofs.process.resolve_process.Goals as goal

pub returns-clause-stands : goal.returns-clause-stands
returns-clause-stands c = record {
  hears = c.in_ok-sensitive.ensures ∙ ap (λ (xs : List Bytes). places_of (slots_in c.args.slots.now) xs) c.as_slice.ensures;
  does = λ w n now s. c.in_ok-body.ensures.after w n now s
      ∙ ap (λ (xs : List VStmt). stmts_mean Coming xs (process_world_over (slots_in c.args.slots.now) (frames_in c.args.funs.now) n now w) s) c.as_slice-2.ensures;
}
