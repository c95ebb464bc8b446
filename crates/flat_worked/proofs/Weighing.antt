-- The toggle's functions that must signal, its weights and its depths.
use Rattle.std.proofs.Common.{◌≡◌, ◌+◌, ℕ, zero, suc, true, [], Some, refl, subst}
use Rattle.rw_core_flat.specs.Programs.{FlatFunction, function_at}
use Rattle.rw_guard_rules.specs.Signals.{Signals, signals_here, signals_left, signals_call, signals_let, calls_in}
use Rattle.rw_guard_rules.specs.Rules.{signals_by, IsMustSignal, nodes, weight_of_calls, depth, IsWeighed}
use Rattle.flat_worked.specs.TypedToggle.{functions, flat_start, flat_device, flat_flip, signalling, weights, depths}

abbrev Weighs : ℕ → FlatFunction → Type 0
Weighs n f = n ≡ (nodes f.body + weight_of_calls signalling weights (calls_in [] f.body))

abbrev IsDeep : ℕ → FlatFunction → Type 0
IsDeep n f = n ≡ depth signalling depths [] f.body

by_number : (P : ℕ → FlatFunction → Type 0) → P 0 flat_start → P 1 flat_device → P 2 flat_flip → (i : ℕ) (f : FlatFunction) → function_at i functions ≡ Some f → P i f
by_number P a b c zero f e = let k : flat_start ≡ f = cc in subst (P 0) k a
by_number P a b c (suc zero) f e = let k : flat_device ≡ f = cc in subst (P 1) k b
by_number P a b c (suc (suc zero)) f e = let k : flat_flip ≡ f = cc in subst (P 2) k c
by_number P a b c (suc (suc (suc i))) f e = absurd (cc)

pub weighed : IsWeighed functions signalling weights depths
weighed = record {
  weight = by_number (λ i f. Weighs (weights i) f) refl refl refl;
  deep = by_number (λ i f. IsDeep (depths i) f) refl refl refl;
}

derived : (i : ℕ) → signalling i ≡ true → (f : FlatFunction) × (function_at i functions ≡ Some f) × Signals functions f.body
derived zero e = (flat_start, refl, signals_let (signals_call flat_device refl (signals_let (signals_left signals_here))))
derived (suc zero) e = (flat_device, refl, signals_let (signals_left signals_here))
derived (suc (suc i)) e = absurd (cc)

pub must_signal : IsMustSignal functions signalling
must_signal = record {
  closed = by_number (λ i f. signals_by signalling f.body ≡ true → signalling i ≡ true) (λ e. refl) (λ e. refl) (λ e. e);
  derived = derived;
}
