-- A pending value, put to a name and written to its place.
use Rattle.std.proofs.Common.{◌≡◌, ℕ, ◌+◌, List, [], ◌∷◌, length, take, drop, Bool, true, false, ap, sym, ◌∙◌, subst, arith, if◌then◌else◌, length-drop}
use Rattle.vh_tree.specs.Bits.{Bytes, Bits, same_name}
use Rattle.vh_tree.specs.DeltaCycle.{Wires, put}
use Rattle.vh_tree.specs.declared.function.Var.{Var}
use Rattle.vhdl_cycle_flat.specs.Flat.{written}
use Rattle.vhdl_cycle_flat.specs.Delta.{raised}
use Rattle.vhdl_cycle_flat.specs.Names.{total_width}
use Rattle.vhdl_cycle_flat.specs.Standing.{wire_at, wires_at, AreStill}
use Rattle.vhdl_cycle_laws.proofs.Parts.{take_front, drop_front, take_before, drop_before, raised_first, raised_later}
use Rattle.vhdl_cycle_laws.proofs.Places.{IsAt, here, later, room_there}

-- put to the first port or signal, and to a later one
put_first : (x : Bytes) (value : Bits) (v : Var) (now next : Bits) (p : Bool) (ws : Wires) → same_name v.name x ≡ true → put x value (wire_at v now next p ∷ ws) ≡ wire_at v now value true ∷ ws
put_first x value v now next true ws e = ap (λ (b : Bool). if b then wire_at v now value true ∷ ws else wire_at v now next true ∷ put x value ws) e
put_first x value v now next false ws e = ap (λ (b : Bool). if b then wire_at v now value true ∷ ws else wire_at v now next false ∷ put x value ws) e

put_later : (x : Bytes) (value : Bits) (v : Var) (now next : Bits) (p : Bool) (ws : Wires) → same_name v.name x ≡ false → put x value (wire_at v now next p ∷ ws) ≡ wire_at v now next p ∷ put x value ws
put_later x value v now next true ws e = ap (λ (b : Bool). if b then wire_at v now value true ∷ ws else wire_at v now next true ∷ put x value ws) e
put_later x value v now next false ws e = ap (λ (b : Bool). if b then wire_at v now value true ∷ ws else wire_at v now next false ∷ put x value ws) e

pub put-wires_at : (x : Bytes) (value now next : Bits) (pending : List Bool) {vars : List Var} {i o w : ℕ} → IsAt x vars i o w → length value ≡ w → length next ≡ total_width vars →
    length pending ≡ length vars → put x value (wires_at vars now next pending) ≡ wires_at vars now (written o value next) (raised i pending)
put-wires_at x value now next [] (here {v = v} {vs = vs} e) fits long all = absurd (omega arith)
put-wires_at x value now next (p ∷ ps) (here {v = v} {vs = vs} e) fits long all =
    put_first x value v (take v.width now) (take v.width next) p (wires_at vs (drop v.width now) (drop v.width next) ps) e
    ∙ ap (λ (bits : Bits). wire_at v (take v.width now) bits true ∷ wires_at vs (drop v.width now) (drop v.width next) ps) (sym (take_front v.width value next fits (omega arith)))
    ∙ ap (λ (bits : Bits). wire_at v (take v.width now) (take v.width (written 0 value next)) true ∷ wires_at vs (drop v.width now) bits ps) (sym (drop_front v.width value next fits (omega arith)))
    ∙ ap (λ (bs : List Bool). wires_at (v ∷ vs) now (written 0 value next) bs) (sym (raised_first p ps))
put-wires_at x value now next [] (later {v = v} {vs = vs} {i = i} {o = o} e k) fits long all = absurd (omega arith)
put-wires_at x value now next (p ∷ ps) (later {v = v} {vs = vs} {i = i} {o = o} e k) fits long all =
    let room = room_there x k in
    put_later x value v (take v.width now) (take v.width next) p (wires_at vs (drop v.width now) (drop v.width next) ps) e
    ∙ ap (λ (ws : Wires). wire_at v (take v.width now) (take v.width next) p ∷ ws) (put-wires_at x value (drop v.width now) (drop v.width next) ps k fits (omega (arith, length-drop v.width next)) (omega arith))
    ∙ ap (λ (bits : Bits). wire_at v (take v.width now) bits p ∷ wires_at vs (drop v.width now) (written o value (drop v.width next)) (raised i ps)) (sym (take_before v.width o value next (omega arith)))
    ∙ ap (λ (bits : Bits). wire_at v (take v.width now) (take v.width (written (v.width + o) value next)) p ∷ wires_at vs (drop v.width now) bits (raised i ps)) (sym (drop_before v.width o value next (omega arith)))
    ∙ ap (λ (bs : List Bool). wires_at (v ∷ vs) now (written (v.width + o) value next) bs) (sym (raised_later i p ps))

-- what else is not pending stays so
rest_still : (v : Var) (vs : List Var) (now next : Bits) (p : Bool) (ps : List Bool) → AreStill (v ∷ vs) now next (p ∷ ps) → AreStill vs (drop v.width now) (drop v.width next) ps
rest_still v vs now next true ps still = still
rest_still v vs now next false ps still = still.1

more_still : (v : Var) (vs : List Var) (now next next' : Bits) (p : Bool) (ps ps' : List Bool) → AreStill (v ∷ vs) now next (p ∷ ps) → take v.width next' ≡ take v.width next →
    AreStill vs (drop v.width now) (drop v.width next') ps' → AreStill (v ∷ vs) now next' (p ∷ ps')
more_still v vs now next next' true ps ps' still same rest = rest
more_still v vs now next next' false ps ps' still same rest = (same ∙ still.0, rest)

pub written_still : (x : Bytes) (value now next : Bits) (pending : List Bool) {vars : List Var} {i o w : ℕ} → IsAt x vars i o w → length value ≡ w → length next ≡ total_width vars →
    length pending ≡ length vars → AreStill vars now next pending → AreStill vars now (written o value next) (raised i pending)
written_still x value now next [] (here {v = v} {vs = vs} e) fits long all still = absurd (omega arith)
written_still x value now next (p ∷ ps) (here {v = v} {vs = vs} e) fits long all still =
    subst (λ (bs : List Bool). AreStill (v ∷ vs) now (written 0 value next) bs) (sym (raised_first p ps))
    (subst (λ (bits : Bits). AreStill vs (drop v.width now) bits ps) (sym (drop_front v.width value next fits (omega arith))) (rest_still v vs now next p ps still))
written_still x value now next [] (later {v = v} {vs = vs} {i = i} {o = o} e k) fits long all still = absurd (omega arith)
written_still x value now next (p ∷ ps) (later {v = v} {vs = vs} {i = i} {o = o} e k) fits long all still =
    let room = room_there x k in
    subst (λ (bs : List Bool). AreStill (v ∷ vs) now (written (v.width + o) value next) bs) (sym (raised_later i p ps))
    (more_still v vs now next (written (v.width + o) value next) p ps (raised i ps) still (take_before v.width o value next (omega arith))
    (subst (λ (bits : Bits). AreStill vs (drop v.width now) bits (raised i ps)) (sym (drop_before v.width o value next (omega arith)))
    (written_still x value (drop v.width now) (drop v.width next) ps k fits (omega (arith, length-drop v.width next)) (omega arith) (rest_still v vs now next p ps still))))
