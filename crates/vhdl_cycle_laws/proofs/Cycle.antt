-- A delta cycle over buffers is the design's.
use Rattle.std.proofs.Common.{◌≡◌, List, length, map, replicate, true, false, ◌&&◌, None, ap, sym, ◌∙◌, subst, arith}
use Rattle.std.proofs.lemmas.List.{length-replicate}
use Rattle.std.specs.List.{list_all}
use Rattle.vh_tree.specs.Functions.{calls_of}
use Rattle.vh_tree.specs.DeltaCycle.{Wires, seen, moved, moment_of, all_effects}
use Rattle.vh_tree.specs.StaticRules.{are_distinct, item_names, functions_of, function_names_well, process_names_well, process_vars, widths_in_process, stmt_fits, is_width, items_fit, shapes_of, IsStatic}
use Rattle.vh_tree.specs.declared.function.Var.{Var}
use Rattle.vh_tree.specs.declared.process.Process.{Process as Named}
use Rattle.vh_tree.specs.declared.wire.Moment.{Moment}
use Rattle.vh_tree.specs.declared.design.Design.{Design}
use Rattle.vh_tree_laws.proofs.Comparisons.{both_right, not_false}
use Rattle.vhdl_cycle_flat.specs.Agreeing.{AgreeingStmtsLaw}
use Rattle.vhdl_cycle_flat.specs.Calling.{FramesGive, FramesLaw}
use Rattle.vhdl_cycle_flat.specs.Cycles.{State, delta_of, world_of}
use Rattle.vhdl_cycle_flat.specs.Delta.{Coming, ran}
use Rattle.vhdl_cycle_flat.specs.Names.{no_frames}
use Rattle.vhdl_cycle_flat.specs.Resolving.{IsResolved, frames_after}
use Rattle.vhdl_cycle_flat.specs.Standing.{wires_at, state_at, FitsDesign, DeltaLaw}
use Rattle.vhdl_cycle_flat.specs.declared.slot.Resolved.{Resolved}
use Rattle.vhdl_cycle_laws.proofs.Reading.{held_at, seen-wires_at}
use Rattle.vhdl_cycle_laws.proofs.Moving.{map-wires_at, still_at_first}
use Rattle.vhdl_cycle_laws.proofs.Events.{moment_at}
use Rattle.vhdl_cycle_laws.proofs.Processes.{StandsFor, processes_agree}

module _ (d : Design) (static : IsStatic d) where
  processes_named : list_all (process_names_well d.items) d.processes ≡ true
  processes_named = both_right (are_distinct (item_names d.items) && list_all (function_names_well d.items) (functions_of d.items)) (list_all (process_names_well d.items) d.processes)
      (not_false (are_distinct (item_names d.items) && list_all (function_names_well d.items) (functions_of d.items) && list_all (process_names_well d.items) d.processes) static.names)

  processes_fit : list_all (λ (q : Named). list_all (stmt_fits (widths_in_process d)) q.body) d.processes ≡ true
  processes_fit =
      let last = list_all (λ (q : Named). list_all (stmt_fits (widths_in_process d)) q.body) d.processes in
      both_right (is_width d.inp && is_width d.outp && items_fit (λ x. None) d.items) last (not_false (is_width d.inp && is_width d.outp && items_fit (λ x. None) d.items && last) static.widths)

-- what is to come when a cycle begins: nothing is pending
abbrev first_of : State → Coming
first_of s = record { next = s.next; pending = replicate (length s.pending) false }

module _ (d : Design) (s : State) (fits : FitsDesign d s) where
  abbrev vars : List Var
  vars = process_vars d

  begins : StandsFor vars s.next (first_of s) (map moved (state_at d s).wires)
  begins = record {
    is = map-wires_at vars s.now s.next s.pending fits.still;
    next = fits.next;
    pending = length-replicate (length s.pending) false ∙ fits.pending;
    still = still_at_first vars s.next (length s.pending);
  }

  moment-state_at : moment_of (state_at d s) ≡ moment_at vars s.now s.next s.starting
  moment-state_at =
      ap (λ before. record { starting = s.starting; before = before; current = seen (map moved (wires_at vars s.now s.next s.pending)) }) (seen-wires_at vars s.now s.next s.pending fits.pending)
      ∙ ap (λ (ws : Wires). record { starting = s.starting; before = held_at vars s.now; current = seen ws }) (map-wires_at vars s.now s.next s.pending fits.still)
      ∙ ap (λ now. record { starting = s.starting; before = held_at vars s.now; current = now })
      (seen-wires_at vars s.next s.next (replicate (length s.pending) false) (length-replicate (length s.pending) false ∙ fits.pending))

module _ (agreeing : AgreeingStmtsLaw) (frames_law : FramesLaw) (d : Design) (static : IsStatic d) (r : Resolved) (resolved : IsResolved d r) (s : State) (fits : FitsDesign d s) where
  gives : FramesGive (shapes_of d.items) (frames_after no_frames d.items resolved.frames) (calls_of d.items) r.store
  gives = frames_law d static resolved.frames resolved.are_frames r.store (omega (arith, resolved.store))

  ends : StandsFor (process_vars d) s.next (ran r.processes s.starting s.now (world_of s.starting s.now s.next) r.store s.next (first_of s))
      (all_effects (calls_of d.items) (moment_of (state_at d s)) d.processes (map moved (state_at d s).wires))
  ends = subst (λ (m : Moment). StandsFor (process_vars d) s.next (ran r.processes s.starting s.now (world_of s.starting s.now s.next) r.store s.next (first_of s)) (all_effects (calls_of d.items) m d.processes (map moved (state_at d s).wires)))
      (sym (moment-state_at d s fits))
      (processes_agree agreeing d static (frames_after no_frames d.items resolved.frames) r.store gives s.starting s.now s.next fits.next d.processes r.processes resolved.are_processes (processes_named d static) (processes_fit d static)
      (first_of s) (map moved (state_at d s).wires) (begins d s fits))

  delta_fits : FitsDesign d (delta_of r.processes r.store s)
  delta_fits = record { now = fits.next; before = fits.now; next = ends.next; pending = ends.pending; still = ends.still }

  delta_same : state_at d (delta_of r.processes r.store s) ≡ record { wires = all_effects (calls_of d.items) (moment_of (state_at d s)) d.processes (map moved (state_at d s).wires); starting = false }
  delta_same = ap (λ (ws : Wires). record { wires = ws; starting = false }) (sym ends.is)

pub delta_stands : AgreeingStmtsLaw → FramesLaw → DeltaLaw
delta_stands agreeing frames_law d static r resolved s fits = (delta_fits agreeing frames_law d static r resolved s fits, delta_same agreeing frames_law d static r resolved s fits)
