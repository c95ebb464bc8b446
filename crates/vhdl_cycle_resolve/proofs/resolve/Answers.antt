-- The parts of a design that was resolved.
use Rattle.std.proofs.Common.{◌≡◌, List, subst, ◌∙◌, zero-add}
use mathlib.Core.Path.{fun_ext}
use Rattle.vh_tree.specs.StaticRules.{process_vars}
use Rattle.vh_tree.specs.declared.design.Item.{Item}
use Rattle.vh_tree.specs.declared.process.Process.{Process as Named}
use Rattle.vhdl_cycle_flat.specs.Names.{Slots, Frames, slots_of, no_frames}
use Rattle.vhdl_cycle_flat.specs.Resolving.{AreProcesses, frames_after, total_size}
use Rattle.vhdl_cycle_resolve.specs.Framed.{IsFramed}
use Rattle.vhdl_cycle_resolve.specs.Over.{slots_in, frames_in}
use Rattle.vhdl_cycle_resolve.proofs.resolve.Goals as goal

pub returns : goal.returns
returns c =
    let d = c.args.design.now in
    let laid = c.in_ok-wires.ensures in
    let wires = c.in_ok-wires.wires in
    let functions = c.in_ok-functions.functions in
    let framed : IsFramed no_frames 0 d.items functions = subst (λ (items : List Item). IsFramed no_frames 0 items functions) c.as_slice.ensures c.in_ok-functions.ensures in
    let slots : slots_in wires.slots ≡ slots_of (process_vars d) = fun_ext laid.slots in
    let processes = c.in_ok-processes.processes in
    let stand : AreProcesses (slots_in wires.slots) (frames_in functions.known) d.processes processes =
    subst (λ (qs : List Named). AreProcesses (slots_in wires.slots) (frames_in functions.known) qs processes) c.as_slice-2.ensures c.in_ok-processes.ensures.stand in
    record {
      frames = framed.frames;
      are_frames = framed.are_frames;
      are_processes = subst (λ (s : Slots). AreProcesses s (frames_after no_frames d.items framed.frames) d.processes processes) slots
          (subst (λ (fs : Frames). AreProcesses (slots_in wires.slots) fs d.processes processes) framed.known stand);
      wires = laid.count;
      bits = laid.bits;
      store = framed.store ∙ zero-add (total_size framed.frames);
      room = λ now. c.in_ok-processes.ensures.room functions.store now;
    }
