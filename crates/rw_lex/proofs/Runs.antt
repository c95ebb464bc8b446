-- The longest run at the front of bytes is found, and nothing else is.
use Rattle.std.proofs.Common.{◌≡◌, ℕ, ◌+◌, ◌≤◌, true, false, not, cond, ◌&&◌, List, [], ◌∷◌, ◌++◌, length, take, drop, refl, sym, ap, ◌∙◌, arith}
use Rattle.std.specs.List.{prefix_len, list_all}
use Rattle.rw_lex.specs.declared.bytes.Run.{Run}
use Rattle.rw_lex.specs.Bytes.{is_in, stops}
use Rattle.rw_lex.proofs.Tools.{both, is_not, take_one, drop_one}

-- a run of this kind that can't be made longer: all bytes are of the kind, and the rest doesn't begin with one
pub record IsRun (kind : Run) (piece rest : List ℕ) : Type 0 where
  pub all : list_all (is_in kind) piece ≡ true
  pub stop : stops kind rest ≡ true

-- a run is found again before what follows
pub run_again : (kind : Run) (piece rest : List ℕ) → IsRun kind piece rest → prefix_len (is_in kind) (piece ++ rest) ≡ length piece
run_again kind [] [] r = refl
run_again kind [] (b ∷ rest) r = ap (λ v. cond v (1 + prefix_len (is_in kind) rest) 0) (is_not _ r.stop)
run_again kind (b ∷ piece) rest r =
    let h = both (is_in kind b) (list_all (is_in kind) piece) r.all in
    let e : prefix_len (is_in kind) (piece ++ rest) ≡ length piece = run_again kind piece rest (record { all = h.1; stop = r.stop }) in
    ap (λ v. cond v (1 + prefix_len (is_in kind) (piece ++ rest)) 0) h.0 ∙ omega (arith, e)

all_there : (kind : Run) (bs : List ℕ) → list_all (is_in kind) (take (prefix_len (is_in kind) bs) bs) ≡ true
all_there kind [] = refl
all_there kind (b ∷ bs) =
    elim (is_in kind b) as (λ v. v ≡ is_in kind b → list_all (is_in kind) (take (cond v (1 + prefix_len (is_in kind) bs) 0) (b ∷ bs)) ≡ true) [
      | true ↦ (λ e. ap (list_all (is_in kind)) (take_one b (prefix_len (is_in kind) bs) bs) ∙ ap (λ z. z && list_all (is_in kind) (take (prefix_len (is_in kind) bs) bs)) (sym e) ∙ all_there kind bs)
      | false ↦ (λ e. refl)
    ] refl

stop_there : (kind : Run) (bs : List ℕ) → stops kind (drop (prefix_len (is_in kind) bs) bs) ≡ true
stop_there kind [] = refl
stop_there kind (b ∷ bs) =
    elim (is_in kind b) as (λ v. v ≡ is_in kind b → stops kind (drop (cond v (1 + prefix_len (is_in kind) bs) 0) (b ∷ bs)) ≡ true) [
      | true ↦ (λ e. ap (stops kind) (drop_one b (prefix_len (is_in kind) bs) bs) ∙ stop_there kind bs)
      | false ↦ (λ e. ap not (sym e))
    ] refl

-- what is found is a run
pub run_there : (kind : Run) (bs : List ℕ) → IsRun kind (take (prefix_len (is_in kind) bs) bs) (drop (prefix_len (is_in kind) bs) bs)
run_there kind bs = record { all = all_there kind bs; stop = stop_there kind bs }

-- at least the bytes that are of the kind are found
pub run_within : (kind : Run) (piece more : List ℕ) → list_all (is_in kind) piece ≡ true → length piece ≤ prefix_len (is_in kind) (piece ++ more)
run_within kind [] more h = omega arith
run_within kind (b ∷ piece) more h =
    let k = both (is_in kind b) (list_all (is_in kind) piece) h in
    let e : prefix_len (is_in kind) (b ∷ (piece ++ more)) ≡ 1 + prefix_len (is_in kind) (piece ++ more) = ap (λ v. cond v (1 + prefix_len (is_in kind) (piece ++ more)) 0) k.0 in
    let w = run_within kind piece more k.1 in
    omega arith
