-- What is pending becomes current, and then nothing is.
use Rattle.std.proofs.Common.{◌≡◌, ℕ, zero, suc, List, [], ◌∷◌, length, map, take, drop, replicate, Bool, true, false, refl, ap, sym, ◌∙◌}
use Rattle.vh_tree.specs.Bits.{Bits}
use Rattle.vh_tree.specs.DeltaCycle.{Wires, moved}
use Rattle.vh_tree.specs.declared.function.Var.{Var}
use Rattle.vhdl_cycle_flat.specs.Standing.{wire_at, wires_at, AreStill}

pub map-wires_at : (vars : List Var) (now next : Bits) (pending : List Bool) → AreStill vars now next pending →
    map moved (wires_at vars now next pending) ≡ wires_at vars next next (replicate (length pending) false)
map-wires_at [] now next pending still = refl
map-wires_at (v ∷ vs) now next [] still = refl
map-wires_at (v ∷ vs) now next (true ∷ ps) still =
    ap (λ (ws : Wires). wire_at v (take v.width next) (take v.width next) false ∷ ws) (map-wires_at vs (drop v.width now) (drop v.width next) ps still)
map-wires_at (v ∷ vs) now next (false ∷ ps) still =
    ap (λ (bits : Bits). wire_at v bits bits false ∷ map moved (wires_at vs (drop v.width now) (drop v.width next) ps)) (sym still.0)
    ∙ ap (λ (ws : Wires). wire_at v (take v.width next) (take v.width next) false ∷ ws) (map-wires_at vs (drop v.width now) (drop v.width next) ps still.1)

pub still_at_first : (vars : List Var) (now : Bits) (n : ℕ) → AreStill vars now now (replicate n false)
still_at_first [] now n = tt
still_at_first (v ∷ vs) now zero = tt
still_at_first (v ∷ vs) now (suc n) = (refl, still_at_first vs (drop v.width now) n)
