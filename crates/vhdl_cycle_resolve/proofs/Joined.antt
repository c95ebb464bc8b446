-- Values that are joined, and the room that they take.
use Rattle.std.proofs.Common.{◌≡◌, ℕ, ◌+◌, List, [], ◌∷◌, ◌++◌, map, max, length, refl, sym, ap, ◌∙◌, arith, append_assoc, append-nil, length-append, IfOk, Result, Ok, Err}
use Rattle.std.specs.List.{flat_map}
use Rattle.vh_tree.specs.Bits.{Bits}
use Rattle.vh_tree.specs.Functions.{Scope}
use Rattle.vhdl_cycle_flat.specs.Flat.{expr_of, joined, room_joined}
use Rattle.vhdl_cycle_flat.specs.declared.resolved.Expr.{Expr}
use Rattle.vhdl_cycle_resolve.specs.declared.sized.Sized.{Sized}

pub joined_one_more : (es : List Expr) (e : Expr) (n : ℕ) (frame : Bits) → joined (map expr_of (es ++ e ∷ [])) n frame ≡ joined (map expr_of es) n frame ++ (expr_of e).value n frame
joined_one_more [] e n frame = append-nil ((expr_of e).value n frame)
joined_one_more (x ∷ es) e n frame =
    ap (λ t. (expr_of x).value n frame ++ t) (joined_one_more es e n frame) ∙ sym (append_assoc ((expr_of x).value n frame) (joined (map expr_of es) n frame) ((expr_of e).value n frame))

pub room_one_more : (es : List Expr) (e : Expr) (n : ℕ) (frame : Bits) → room_joined (map expr_of (es ++ e ∷ [])) n frame
    ≡ max (room_joined (map expr_of es) n frame) (length (joined (map expr_of es) n frame) + max ((expr_of e).room n frame) (length ((expr_of e).value n frame)))
room_one_more [] e n frame = omega arith
room_one_more (x ∷ es) e n frame = omega (arith, room_one_more es e n frame, length-append ((expr_of x).value n frame) (joined (map expr_of es) n frame))

pub args_joined : (s : Scope) (ms : List (Scope → Bits)) → flat_map (λ (a : Bits). a) (map (λ (m : Scope → Bits). m s) ms) ≡ flat_map (λ (m : Scope → Bits). m s) ms
args_joined s [] = refl
args_joined s (m ∷ ms) = ap (λ t. m s ++ t) (args_joined s ms)

-- a value given by one equation and another
pub same_value : {E : Type 0} (r : Result Sized E) (a b : ℕ → Bits → Bits) → ((n : ℕ) (frame : Bits) → a n frame ≡ b n frame)
    → IfOk r (λ s. (n : ℕ) (frame : Bits) → (expr_of s.expr).value n frame ≡ a n frame) → IfOk r (λ s. (n : ℕ) (frame : Bits) → (expr_of s.expr).value n frame ≡ b n frame)
same_value (Ok s) a b same is = λ n frame. is n frame ∙ same n frame
same_value (Err e) a b same is = is
