-- What processes do to buffers, they do to the ports and signals for which these stand.
use Rattle.std.proofs.Common.{◌≡◌, ℕ, List, [], ◌∷◌, length, Bool, true, false, ◌&&◌, ◌||◌, Option, Some, refl, ap, sym, ◌∙◌, subst, arith, if◌then◌else◌, map}
use mathlib.Core.Bool.{true≢false}
use Rattle.std.specs.List.{list_all}
use Rattle.vh_tree.specs.Bits.{Bytes, Bits, is_among}
use Rattle.vh_tree.specs.Functions.{World, stmts_of, calls_of}
use Rattle.vh_tree.specs.DeltaCycle.{Wires, put, process_world, process_effect, all_effects, runs}
use Rattle.vh_tree.specs.StaticRules.{names_of, width_among, heard_names, driven_names, are_distinct, names_in_process, process_vars, widths_in_process, process_names_well, stmt_names_well, stmt_fits, shapes_of, IsStatic}
use Rattle.vh_tree.specs.Widths.{HasWidth}
use Rattle.vh_tree.specs.declared.function.Var.{Var}
use Rattle.vh_tree.specs.declared.process.Process.{Process as Named}
use Rattle.vh_tree.specs.declared.wire.Moment.{Moment}
use Rattle.vh_tree.specs.declared.design.Design.{Design}
use Rattle.vh_tree_laws.proofs.Comparisons.{both_left, both_right}
use Rattle.vhdl_cycle_flat.specs.Agreeing.{WorldsAgree, AgreeingStmtsLaw}
use Rattle.vhdl_cycle_flat.specs.Calling.{FramesGive}
use Rattle.vhdl_cycle_flat.specs.Delta.{Coming, in_order, drive_of, has_event, ran}
use Rattle.vhdl_cycle_flat.specs.Cycles.{world_of}
use Rattle.vhdl_cycle_flat.specs.Names.{Frames, slots_of, total_width, driven, process_world_over}
use Rattle.vhdl_cycle_flat.specs.Resolving.{IsProcessOf, AreProcesses}
use Rattle.vhdl_cycle_flat.specs.Standing.{wires_at, AreStill}
use Rattle.vhdl_cycle_flat.specs.declared.process.Process.{Process}
use Rattle.vhdl_cycle_flat.specs.declared.slot.Slot.{Slot}
use Rattle.vhdl_cycle_laws.proofs.Parts.{written_length, raised_length}
use Rattle.vhdl_cycle_laws.proofs.Places.{IsAt, Placed, nowhere, somewhere, placed, slot_at, has_place, width_there, room_there}
use Rattle.vhdl_cycle_laws.proofs.Writing.{put-wires_at, written_still}
use Rattle.vhdl_cycle_laws.proofs.Events.{moment_at, runs_at}
use Rattle.vhdl_cycle_laws.proofs.Scopes.{driven_among, scopes_agree, scopes_keep}
use Rattle.vhdl_cycle_laws.proofs.Usable.{any, all_usable}

-- what is to come stands for ports and signals with these current bits
pub record StandsFor (vars : List Var) (now : Bits) (c : Coming) (ws : Wires) : Type 0 where
  pub is : ws ≡ wires_at vars now c.next c.pending
  pub next : length c.next ≡ total_width vars
  pub pending : length c.pending ≡ length vars
  pub still : AreStill vars now c.next c.pending

pub put_at : (vars : List Var) (now : Bits) (x : Bytes) (value : Bits) (s : Slot) → IsAt x vars s.number s.from s.len → length value ≡ s.len → (c : Coming) (ws : Wires) → StandsFor vars now c ws →
    StandsFor vars now (driven (Some s) value c) (put x value ws)
put_at vars now x value s k fits c ws h =
    let room = room_there x k in
    record {
      is = ap (put x value) h.is ∙ put-wires_at x value now c.next c.pending k fits h.next h.pending;
      next = written_length s.from value c.next (omega (arith, h.next)) ∙ h.next;
      pending = raised_length s.number c.pending ∙ h.pending;
      still = written_still x value now c.next c.pending k fits h.next h.pending h.still;
    }

put_to : (vars : List Var) (now : Bits) (x : Bytes) (value : Bits) (o : Option Slot) → Placed x 0 0 vars o → is_among x (names_of vars) ≡ true → HasWidth (width_among vars x) value →
    (c : Coming) (ws : Wires) → StandsFor vars now c ws → StandsFor vars now (driven o value c) (put x value ws)
put_to vars now x value _ (nowhere n) a fits c ws h = absurd (true≢false (sym a ∙ n))
put_to vars now x value _ (somewhere s k) a fits c ws h =
    put_at vars now x value s (slot_at x vars s k) (subst (λ w. HasWidth w value) (width_there x (slot_at x vars s k)) fits) c ws h

picked : (vars : List Var) (now : Bits) (a b : Bool) → a ≡ b → (c c' : Coming) (ws ws' : Wires) → StandsFor vars now c ws → StandsFor vars now c' ws' →
    StandsFor vars now (if a then c else c') (if b then ws else ws')
picked vars now true true e c c' ws ws' h h' = h
picked vars now false false e c c' ws ws' h h' = h'
picked vars now true false e c c' ws ws' h h' = absurd (true≢false e)
picked vars now false true e c c' ws ws' h h' = absurd (true≢false (sym e))

module _ (agreeing : AgreeingStmtsLaw) (d : Design) (static : IsStatic d) (frames : Frames) (n : ℕ) (gives : FramesGive (shapes_of d.items) frames (calls_of d.items) n)
    (starting : Bool) (before now : Bits) (long : length now ≡ total_width (process_vars d)) where
  abbrev vars : List Var
  vars = process_vars d

  abbrev m : Moment
  m = moment_at vars before now starting

  abbrev over : World Coming
  over = process_world_over (slots_of vars) frames n now (world_of starting before now)

  abbrev named : World Wires
  named = process_world (calls_of d.items) m

  abbrev assignable : Bytes → Bool
  assignable x = is_among x (driven_names d.items)

  worlds_agree : WorldsAgree Coming Wires (StandsFor vars now) (names_in_process d.items) assignable any (widths_in_process d) over named
  worlds_agree = record {
    scopes = λ c ws h. scopes_agree d static frames n gives now;
    widths = λ c ws h. scopes_keep d static frames n gives now long;
    targets = λ x a. let at = has_place x vars (slots_of vars x) (placed x 0 0 vars) (driven_among d x a) in (at.0.len, width_there x at.1);
    assign = λ x a value fits c ws h. put_to vars now x value (slots_of vars x) (placed x 0 0 vars) (driven_among d x a) fits c ws h;
    rising = refl;
    reset = refl;
  }

  one_process : (q : Named) (p : Process) → IsProcessOf (slots_of vars) frames q p → process_names_well d.items q ≡ true → list_all (stmt_fits (widths_in_process d)) q.body ≡ true →
      (c : Coming) (ws : Wires) → StandsFor vars now c ws →
      StandsFor vars now (if starting || has_event now before p.sensitive then in_order (map drive_of p.body) (world_of starting before now) n now c else c) (process_effect (calls_of d.items) m q ws)
  one_process q p is well fit c ws h =
      picked vars now (starting || has_event now before p.sensitive) (runs m q) (ap (λ places. starting || has_event now before places) is.hears ∙ runs_at vars before now starting q)
      (in_order (map drive_of p.body) (world_of starting before now) n now c) c (stmts_of Wires q.body named ws) ws
      (subst (λ (e : Coming). StandsFor vars now e (stmts_of Wires q.body named ws)) (sym (is.does (world_of starting before now) n now c))
      (agreeing Coming Wires (StandsFor vars now) (names_in_process d.items) assignable any (widths_in_process d) over named worlds_agree true q.body
      (both_right (list_all (λ x. is_among x (heard_names d.items)) q.sensitive && are_distinct q.sensitive) (list_all (stmt_names_well (names_in_process d.items) assignable true) q.body) well)
      (all_usable q.body) fit c ws h))
      h

  pub processes_agree : (qs : List Named) (ps : List Process) → AreProcesses (slots_of vars) frames qs ps → list_all (process_names_well d.items) qs ≡ true →
      list_all (λ q. list_all (stmt_fits (widths_in_process d)) q.body) qs ≡ true → (c : Coming) (ws : Wires) → StandsFor vars now c ws →
      StandsFor vars now (ran ps starting before (world_of starting before now) n now c) (all_effects (calls_of d.items) m qs ws)
  processes_agree [] [] are well fit c ws h = h
  processes_agree [] (p ∷ ps) are well fit c ws h = absurd are
  processes_agree (q ∷ qs) [] are well fit c ws h = absurd are
  processes_agree (q ∷ qs) (p ∷ ps) are well fit c ws h =
      processes_agree qs ps are.1 (both_right (process_names_well d.items q) (list_all (process_names_well d.items) qs) well)
      (both_right (list_all (stmt_fits (widths_in_process d)) q.body) (list_all (λ (o : Named). list_all (stmt_fits (widths_in_process d)) o.body) qs) fit)
      (if starting || has_event now before p.sensitive then in_order (map drive_of p.body) (world_of starting before now) n now c else c) (process_effect (calls_of d.items) m q ws)
      (one_process q p are.0 (both_left (process_names_well d.items q) (list_all (process_names_well d.items) qs) well)
      (both_left (list_all (stmt_fits (widths_in_process d)) q.body) (list_all (λ (o : Named). list_all (stmt_fits (widths_in_process d)) o.body) qs) fit) c ws h)
