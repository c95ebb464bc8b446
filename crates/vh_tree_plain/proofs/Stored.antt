-- An assignment writes at the first variable, or the first wire, of that name.
use Rattle.std.proofs.Common.{◌≡◌, ℕ, suc, ◌<◌, List, ◌∷◌, ◌++◌, length, take, drop, get_or, true, cond, sym, ap, ◌∙◌, drop-cons, Some}
use Rattle.std.specs.Prelude.{slice_set}
use Rattle.std.proofs.lemmas.List.{set_split}
use Rattle.vh_tree.specs.Bits.{Bits, same_name}
use Rattle.vh_tree.specs.declared.wire.Held.{Held}
use Rattle.vh_tree.specs.declared.wire.Wire.{Wire}
use Rattle.vh_tree.specs.Functions.{Store, held, stored}
use Rattle.vh_tree.specs.DeltaCycle.{Wires, put}

stored_front : (x : List ℕ) (v : Bits) (h : Held) (hs : Store) → same_name h.name x ≡ true → stored x v (h ∷ hs) ≡ held h.name v ∷ hs
stored_front x v h hs same = ap (λ b. cond b (held h.name v ∷ hs) (h ∷ stored x v hs)) same

pub stored_at : (x : List ℕ) (v : Bits) (hs : Store) (at : ℕ) (h : Held) → at < length hs → h ≡ get_or hs at h → same_name h.name x ≡ true → stored x v hs ≡ take at hs ++ stored x v (drop at hs) → slice_set hs at (held h.name v) ≡ stored x v hs
stored_at x v hs at h lt is same e =
    let cut : drop at hs ≡ h ∷ drop (suc at) hs = drop-cons hs at h lt ∙ ap (λ k. k ∷ drop (suc at) hs) (sym is) in
    let here : stored x v (drop at hs) ≡ held h.name v ∷ drop (suc at) hs = ap (stored x v) cut ∙ stored_front x v h (drop (suc at) hs) same in
    set_split hs at (held h.name v) lt ∙ ap (λ t. take at hs ++ t) (sym here) ∙ sym e

abbrev waiting : Wire → Bits → Wire
waiting w v = record { name = w.name; value = w.value; pending = Some v }

put_front : (x : List ℕ) (v : Bits) (w : Wire) (ws : Wires) → same_name w.name x ≡ true → put x v (w ∷ ws) ≡ waiting w v ∷ ws
put_front x v w ws same = ap (λ b. cond b (waiting w v ∷ ws) (w ∷ put x v ws)) same

pub put_at : (x : List ℕ) (v : Bits) (ws : Wires) (at : ℕ) (w : Wire) → at < length ws → w ≡ get_or ws at w → same_name w.name x ≡ true → put x v ws ≡ take at ws ++ put x v (drop at ws) → slice_set ws at (waiting w v) ≡ put x v ws
put_at x v ws at w lt is same e =
    let cut : drop at ws ≡ w ∷ drop (suc at) ws = drop-cons ws at w lt ∙ ap (λ k. k ∷ drop (suc at) ws) (sym is) in
    let here : put x v (drop at ws) ≡ waiting w v ∷ drop (suc at) ws = ap (put x v) cut ∙ put_front x v w (drop (suc at) ws) same in
    set_split ws at (waiting w v) lt ∙ ap (λ t. take at ws ++ t) (sym here) ∙ sym e
