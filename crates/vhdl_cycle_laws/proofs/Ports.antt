-- The buffers before the start, a port given a value, and a port read.
use Rattle.std.proofs.Common.{◌≡◌, ℕ, ◌+◌, List, [], ◌∷◌, length, map, take, drop, replicate, true, false, refl, ap, sym, ◌∙◌, arith, codes}
use Rattle.std.proofs.lemmas.List.{length-replicate, take-replicate, drop-replicate}
use Rattle.rw_base.specs.declared.bit.Bit9.TheVariants.{U}
use Rattle.vh_tree.specs.Bits.{Bits}
use Rattle.vh_tree.specs.DeltaCycle.{Wires, seen_at}
use Rattle.vh_tree.specs.Bench.{fresh, signals_of}
use Rattle.vh_tree.specs.StaticRules.{process_vars, declared_signals}
use Rattle.vh_tree.specs.declared.function.Var.{Var}
use Rattle.vh_tree.specs.declared.design.Item.{Item}
use Rattle.vh_tree.specs.declared.design.Item.TheVariants.{Signal, Function as Declared}
use Rattle.vhdl_cycle_flat.specs.Names.{total_width}
use Rattle.vhdl_cycle_flat.specs.Standing.{wire_at, wires_at, state_at}
use Rattle.vhdl_cycle_laws.specs.Changes.{StartLaw, GivenLaw, ReadLaw}
use Rattle.vhdl_cycle_laws.proofs.Moving.{still_at_first}
use Rattle.vhdl_cycle_laws.proofs.Places.{slot_is}
use Rattle.vhdl_cycle_laws.proofs.Processes.{put_at}
use Rattle.vhdl_cycle_laws.proofs.Reading.{seen-wires_at, value_there}

fresh-wires_at : (vars : List Var) → wires_at vars (replicate (total_width vars) U) (replicate (total_width vars) U) (replicate (length vars) false) ≡ map (λ (v : Var). fresh v.name v.width) vars
fresh-wires_at [] = refl
fresh-wires_at (v ∷ vs) =
    let n = v.width + total_width vs in
    let front = take-replicate v.width n U (omega arith) in
    let behind : drop v.width (replicate n U) ≡ replicate (total_width vs) U = drop-replicate v.width n U ∙ ap (λ (k : ℕ). replicate k U) (omega arith) in
    ap (λ (bits : Bits). wire_at v bits (take v.width (replicate n U)) false ∷ wires_at vs (drop v.width (replicate n U)) (drop v.width (replicate n U)) (replicate (length vs) false)) front
    ∙ ap (λ (bits : Bits). fresh v.name v.width ∷ wires_at vs bits bits (replicate (length vs) false)) behind
    ∙ ap (λ (ws : Wires). fresh v.name v.width ∷ ws) (fresh-wires_at vs)

fresh_signals : (items : List Item) → map (λ (v : Var). fresh v.name v.width) (declared_signals items) ≡ signals_of items
fresh_signals [] = refl
fresh_signals (Signal v ∷ items) = ap (λ (ws : Wires). fresh v.name v.width ∷ ws) (fresh_signals items)
fresh_signals (Declared f ∷ items) = fresh_signals items

pub starts : StartLaw
starts d = (
  record {
    now = length-replicate (total_width (process_vars d)) U;
    before = length-replicate (total_width (process_vars d)) U;
    next = length-replicate (total_width (process_vars d)) U;
    pending = length-replicate (length (process_vars d)) false;
    still = still_at_first (process_vars d) (replicate (total_width (process_vars d)) U) (length (process_vars d));
  },
  ap (λ (ws : Wires). record { wires = ws; starting = true })
      (fresh-wires_at (process_vars d)
      ∙ ap (λ (ws : Wires). fresh (codes "clk") 1 ∷ fresh (codes "rst") 1 ∷ fresh (codes "inp") d.inp ∷ fresh (codes "outp") d.outp ∷ ws) (fresh_signals d.items)),
)

pub given_stands : GivenLaw
given_stands d s fits x p e v long =
    let new = put_at (process_vars d) s.now x v p (slot_is x (process_vars d) p e) long (record { next = s.next; pending = s.pending }) (state_at d s).wires
    (record { is = refl; next = fits.next; pending = fits.pending; still = fits.still }) in (
      record { now = fits.now; before = fits.before; next = new.next; pending = new.pending; still = new.still },
      ap (λ (ws : Wires). record { wires = ws; starting = s.starting }) (sym new.is),
    )

pub read_stands : ReadLaw
read_stands d s fits x p e =
    sym (value_there (λ _ _. []) x s.now (slot_is x (process_vars d) p e)) ∙ ap (λ seen. seen_at seen x) (sym (seen-wires_at (process_vars d) s.now s.next s.pending fits.pending))
