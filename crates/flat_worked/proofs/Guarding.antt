-- The toggle is guarded; a loop has no ranks.
use Rattle.std.proofs.Common.{◌≡◌, ℕ, zero, suc, ◌≤◌, ◌<◌, List, [], ◌∷◌, Some, inl, inr, refl, subst, arith}
use Rattle.std.specs.List.{AllByRecursion}
use Rattle.rw_core.specs.Values.{Val, Vals, val, none, more}
use Rattle.rw_core.specs.Systems.{leaf}
use Rattle.rw_core_flat.specs.Programs.{FlatFunction, function_at}
use Rattle.rw_guard_rules.specs.Signals.{signals_here, signals_left, signals_call, Guarded, calls_in, CallsEnd}
use Rattle.rw_guard_rules.specs.Rules.{one_step}
use Rattle.rw_guard_rules.proofs.Ranks.{no_cycle}
use Rattle.rw_core_flat.specs.WellTyped.{device, of_data, doing, Sign, sign_of, DataTypes, FieldsFit, AllFit, Matched, Typed, is_local, is_con, is_case, is_call, is_bind, is_signal, no_typed, more_typed, no_lets_typed, no_rows_typed, more_rows_typed, body_typed, FunctionTyped, leaf_typed}
use Rattle.rw_guard_laws.specs.Guarded.{IsGuarded}
use Rattle.flat_worked.specs.Toggle.{fields, rows, flip, toggle, start, functions, signs, loop}

pub two : (tag : ℕ) (ds : List ℕ) → fields 0 tag ≡ Some ds → tag ≤ 1
two zero ds e = omega arith
two (suc zero) ds e = omega arith
two (suc (suc tag)) ds e = absurd (cc)

abbrev pub types : DataTypes
types = record { fields = fields; truth = 0; unit = 1; truths = two; units = refl }

extra : (ds : List ℕ) (v : Val) (vs : Vals) → Some [] ≡ Some ds → FieldsFit types ds (more v vs) → ⊥
extra ds v vs e k = subst (λ ds. FieldsFit types ds (more v vs)) (let s : ds ≡ [] = cc in s) k

covered : (vs : List Val) → AllFit types (0 ∷ []) vs → Matched types functions signs rows vs
covered [] h = absurd h
covered (val zero none ∷ []) h = inl ([], refl, tt)
covered (val zero (more v vs) ∷ []) h = absurd (extra (h.0).0 v vs (h.0).1 (h.0).2)
covered (val (suc zero) none ∷ []) h = inr (inl ([], refl, tt))
covered (val (suc zero) (more v vs) ∷ []) h = absurd (extra (h.0).0 v vs (h.0).1 (h.0).2)
covered (val (suc (suc tag)) vs ∷ []) h = absurd (let e = (h.0).1 in cc)
covered (v ∷ w ∷ vs) h = absurd (h.1)

flip_typed : Typed types functions signs (0 ∷ []) flip.body (of_data 0)
flip_typed = is_case (0 ∷ []) (more_typed (is_local refl) no_typed)
    (more_rows_typed [] (0 ∷ []) refl no_lets_typed (body_typed (is_con [] refl no_typed)) (more_rows_typed [] (0 ∷ []) refl no_lets_typed (body_typed (is_con [] refl no_typed)) no_rows_typed)) covered

toggle_typed : Typed types functions signs (0 ∷ []) toggle.body (doing (device 0 0) [] 1)
toggle_typed = is_bind 0 (is_signal (is_local refl)) (is_call (0 ∷ []) refl (more_typed (is_call (0 ∷ []) refl (more_typed (is_local refl) no_typed)) no_typed))

start_typed : Typed types functions signs [] start.body (doing (device 0 0) [] 1)
start_typed = is_call (0 ∷ []) refl (more_typed (is_con [] refl no_typed) no_typed)

by_number : (i : ℕ) (s : Sign) → signs i ≡ Some s → FunctionTyped types functions signs i s
by_number zero s e = let k : sign_of flip ≡ s = cc in subst (FunctionTyped types functions signs 0) k (record { function = flip; found = refl; counted = refl; typed = flip_typed })
by_number (suc zero) s e = let k : sign_of toggle ≡ s = cc in subst (FunctionTyped types functions signs 1) k (record { function = toggle; found = refl; counted = refl; typed = toggle_typed })
by_number (suc (suc zero)) s e = let k : sign_of start ≡ s = cc in subst (FunctionTyped types functions signs 2) k (record { function = start; found = refl; counted = refl; typed = start_typed })
by_number (suc (suc (suc i))) s e = absurd (cc)

-- `start` has rank 1, as its call is open, and all others have rank 0
abbrev rank : ℕ → ℕ
rank (suc (suc zero)) = 1
rank i = 0

bounded : (i : ℕ) → rank i ≤ 1
bounded zero = omega arith
bounded (suc zero) = omega arith
bounded (suc (suc zero)) = omega arith
bounded (suc (suc (suc i))) = omega arith

abbrev Falls : ℕ → FlatFunction → Type 0
Falls n f = AllByRecursion (λ c. (Guarded functions c.path → ⊥) → rank c.callee < n) (calls_in [] f.body)

falls : (i : ℕ) (f : FlatFunction) → function_at i functions ≡ Some f → Falls (rank i) f
falls zero f e = let k : flip ≡ f = cc in subst (Falls 0) k tt
falls (suc zero) f e = let k : toggle ≡ f = cc in subst (Falls 0) k ((λ free. absurd (free (inl signals_here))), ((λ free. absurd (free (inl signals_here))), tt))
falls (suc (suc zero)) f e = let k : start ≡ f = cc in subst (Falls 1) k ((λ free. omega arith), tt)
falls (suc (suc (suc i))) f e = absurd (cc)

pub guarded : IsGuarded types functions signs (leaf 2) 0 0
guarded = record {
  functions = by_number;
  system_typed = leaf_typed 1 refl;
  leaves = signals_call start refl (signals_call toggle refl (signals_left signals_here));
  ends = record { rank = rank; most = 1; bounded = bounded; falls = falls };
}

pub never_ends : CallsEnd (loop ∷ []) → ⊥
never_ends ends = no_cycle (loop ∷ []) ends 0 (one_step (loop, refl, inl (refl, λ g. g)))
