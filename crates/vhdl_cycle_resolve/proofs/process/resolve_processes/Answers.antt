-- One process more.
use Rattle.std.proofs.Common.{arith, ◌≡◌, ◌+◌, ◌++◌, List, [], ◌∷◌, take, sym, ap, ◌∙◌, subst}
use Rattle.std.proofs.lemmas.Grind.{common_steps}
use Rattle.vh_tree.specs.declared.process.Process.{Process as Named}
use Rattle.vhdl_cycle_flat.specs.Delta.{room_ran}
use Rattle.vhdl_cycle_flat.specs.Resolving.{AreProcesses}
use Rattle.vhdl_cycle_flat.specs.declared.process.Process.{Process}
use Rattle.vhdl_cycle_resolve.specs.Over.{slots_in, frames_in}
use Rattle.vhdl_cycle_resolve.proofs.Processes.{are_processes_more, room_ran_more}
use Rattle.vhdl_cycle_resolve.proofs.process.resolve_processes.Goals as goal

pub loop-process-preserved : goal.loop-process-preserved
loop-process-preserved c =
    let out = c.loop-process.out in
    let r = c.in_ok-r.r in
    record {
      stand =
          let slots = slots_in c.args.slots.now in
          let frames = frames_in c.args.funs.now in
          let so_far = take c.loop-process.process-index c.args.processes.now in
          let q : Named = c.process-item.result in
          let more = are_processes_more slots frames so_far out q r c.loop-process.invariant.stand c.in_ok-r.ensures.stands in
          let right : take (c.loop-process.process-index + 1) c.args.processes.now ≡ so_far ++ q ∷ [] = grind (arith, common_steps) in
          let P : List Process → List Named → Type 0 = λ ps qs. AreProcesses slots frames qs ps in
          subst (λ y. P y (take (c.loop-process.process-index + 1) c.args.processes.now)) (sym c.in_ok-push.ensures.ok) (subst (P (out ++ r ∷ [])) (sym right) more);
      room = λ n now.
          let one = ap (λ (ps : List Process). room_ran ps n now) c.in_ok-push.ensures.ok ∙ room_ran_more out r n now in
          omega (arith, one, c.loop-process.invariant.room n now, c.in_ok-r.ensures.room n now, c.in_ok-r.ensures.raised);
    }
