-- Bits written into a list: what stands before them and behind, and what one written further on leaves alone.
use Rattle.std.proofs.Common.{◌≡◌, ℕ, suc, ◌+◌, ◌-◌, ◌≤◌, List, ◌∷◌, ◌++◌, length, take, drop, set, Bool, true, nat_lt, refl, ap, sym, ◌∙◌, arith, length-append, length-take, length-drop}
use Rattle.std.proofs.lemmas.Bool.{cond_both, ltb-false}
use Rattle.std.proofs.lemmas.List.{take_all, take_at, drop_at, take-append-le, take-take, drop-drop, drop-append-le, drop-take, set_past, length-set}
use Rattle.vh_tree.specs.Bits.{Bits}
use Rattle.vhdl_cycle_flat.specs.Flat.{written}
use Rattle.vhdl_cycle_flat.specs.Delta.{raised}

-- all bits are written where there is room
pub written_fits : (o : ℕ) (v next : Bits) → o + length v ≤ length next → written o v next ≡ take o next ++ v ++ drop (o + length v) next
written_fits o v next h = ap (λ (bits : Bits). take o next ++ bits ++ drop (o + length v) next) (take_all (length next - o) v (omega arith))

pub written_length : (o : ℕ) (v next : Bits) → o + length v ≤ length next → length (written o v next) ≡ length next
written_length o v next h = simp (length-append, length-take, length-drop) (omega arith)

-- written at the front
pub take_front : (w : ℕ) (v next : Bits) → length v ≡ w → w ≤ length next → take w (written 0 v next) ≡ v
take_front w v next e h = ap (take w) (written_fits 0 v next (omega arith)) ∙ take_at v (drop (0 + length v) next) w e

pub drop_front : (w : ℕ) (v next : Bits) → length v ≡ w → w ≤ length next → drop w (written 0 v next) ≡ drop w next
drop_front w v next e h = ap (drop w) (written_fits 0 v next (omega arith)) ∙ drop_at v (drop (0 + length v) next) w e ∙ ap (λ (k : ℕ). drop k next) (omega arith)

-- written further on
pub take_before : (w o : ℕ) (v next : Bits) → w + o + length v ≤ length next → take w (written (w + o) v next) ≡ take w next
take_before w o v next h =
    let front = take (w + o) next in
    ap (take w) (written_fits (w + o) v next h) ∙ take-append-le w (front ++ v) (drop (w + o + length v) next) (omega (arith, length-append front v, length-take (w + o) next))
    ∙ take-append-le w front v (omega (arith, length-take (w + o) next)) ∙ take-take w (w + o) next (omega arith)

pub drop_before : (w o : ℕ) (v next : Bits) → w + o + length v ≤ length next → drop w (written (w + o) v next) ≡ written o v (drop w next)
drop_before w o v next h =
    let front = take (w + o) next in
    let behind = drop (w + o + length v) next in
    ap (drop w) (written_fits (w + o) v next h) ∙ drop-append-le w (front ++ v) behind (omega (arith, length-append front v, length-take (w + o) next))
    ∙ ap (λ (bits : Bits). bits ++ behind) (drop-append-le w front v (omega (arith, length-take (w + o) next)))
    ∙ ap (λ (bits : Bits). bits ++ v ++ behind) (drop-take w o next)
    ∙ ap (λ (bits : Bits). take o (drop w next) ++ v ++ bits) (ap (λ (k : ℕ). drop k next) (omega arith) ∙ sym (drop-drop (o + length v) w next))
    ∙ sym (written_fits o v (drop w next) (omega (arith, length-drop w next)))

-- the flag of a place
raised_is : (i : ℕ) (ps : List Bool) → raised i ps ≡ set ps i true
raised_is i ps = cond_both (nat_lt i (length ps)) (set ps i true) ps (λ bs. bs ≡ set ps i true) (λ e. refl) (λ e. sym (set_past ps i true (omega (arith, ltb-false i (length ps) e))))

pub raised_first : (p : Bool) (ps : List Bool) → raised 0 (p ∷ ps) ≡ true ∷ ps
raised_first p ps = raised_is 0 (p ∷ ps)

pub raised_later : (i : ℕ) (p : Bool) (ps : List Bool) → raised (suc i) (p ∷ ps) ≡ p ∷ raised i ps
raised_later i p ps = raised_is (suc i) (p ∷ ps) ∙ ap (λ (bs : List Bool). p ∷ bs) (sym (raised_is i ps))

pub raised_length : (i : ℕ) (ps : List Bool) → length (raised i ps) ≡ length ps
raised_length i ps = ap length (raised_is i ps) ∙ length-set ps i true
