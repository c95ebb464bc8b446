-- Buffers are quiet where the state is for which they stand.
use Rattle.std.proofs.Common.{◌≡◌, List, [], ◌∷◌, length, drop, Bool, true, false, not, ◌&&◌, refl, ap, arith, is_none}
use Rattle.std.specs.List.{list_any, list_all}
use Rattle.vh_tree.specs.Bits.{Bits}
use Rattle.vh_tree.specs.StaticRules.{process_vars}
use Rattle.vh_tree.specs.declared.function.Var.{Var}
use Rattle.vh_tree.specs.declared.wire.Wire.{Wire}
use Rattle.vhdl_cycle_flat.specs.Standing.{wires_at, QuietLaw}

none_pending : (vars : List Var) (now next : Bits) (pending : List Bool) → length pending ≡ length vars →
    list_all (λ (w : Wire). is_none w.pending) (wires_at vars now next pending) ≡ not (list_any (λ p. p) pending)
none_pending [] now next [] e = refl
none_pending [] now next (p ∷ ps) e = absurd (omega arith)
none_pending (v ∷ vs) now next [] e = refl
none_pending (v ∷ vs) now next (true ∷ ps) e = refl
none_pending (v ∷ vs) now next (false ∷ ps) e = none_pending vs (drop v.width now) (drop v.width next) ps (omega arith)

pub quiet_same : QuietLaw
quiet_same d s fits = ap (λ q. not s.starting && q) (none_pending (process_vars d) s.now s.next s.pending fits.pending)
