-- Calls end: within a budget above a measure, of the inputs left and the rank, each call has an answer.
use Rattle.std.proofs.Common.{◌≡◌, ℕ, zero, suc, ◌+◌, ◌≤◌, ◌<◌, nat_eq, Bool, true, false, if◌then◌else◌, List, [], ◌∷◌, length, Option, Some, None, inr, arith, sym, ◌∙◌, subst}
use Rattle.rw_core.specs.Values.{Val, val, none}
use Rattle.rw_core.specs.Options.{◌>>=◌}
use Rattle.rw_core_flat.specs.Terms.{FlatTerm, built_term, no_terms}
use Rattle.rw_core_flat.specs.Meaning.{Mode, valued, Answer, a_value, as_value, meaning}
use Rattle.rw_core_flat.specs.Programs.{FlatFunction, function_at, call_within}
use Rattle.std.specs.List.{AllByRecursion}
use Rattle.rw_guard_rules.specs.Signals.{Signals, calls_in, CallsEnd}
use Rattle.rw_core_flat.specs.WellTyped.{Kind, of_data, Sign, DataTypes, Fits, AllFit, Typed, FunctionTyped}
use Rattle.rw_guard_laws.proofs.Parts.{every_map, all_long, same_held, same_number}
use Rattle.rw_guard_laws.proofs.Answering.{left, Asked, Gives, value_of}
use Rattle.rw_guard_laws.proofs.Total.{BodySignals, term}

-- the calls, one within another, that so many inputs leave room for
abbrev pub room : ℕ → ℕ → ℕ
room most zero = 0
room most (suc n) = suc most + room most n

pub room_less : (most m n : ℕ) → m < n → room most m + suc most ≤ room most n
room_less most m zero h = absurd (omega arith)
room_less most zero (suc n) h = omega arith
room_less most (suc m) (suc n) h = let k = room_less most m n (omega arith) in omega arith

pub room_le : (most m n : ℕ) → m ≤ n → room most m ≤ room most n
room_le most zero n h = omega arith
room_le most (suc m) zero h = absurd (omega arith)
room_le most (suc m) (suc n) h = let k = room_le most m n (omega arith) in omega arith

every_all : {A : Type 0} (P : A → Type 0) → ((a : A) → P a) → (xs : List A) → AllByRecursion P xs
every_all P f [] = tt
every_all P f (x ∷ xs) = (f x, every_all P f xs)

module _ (types : DataTypes) (flat_functions : List FlatFunction) (signs : ℕ → Option Sign) (functions : (k : ℕ) (s : Sign) → signs k ≡ Some s → FunctionTyped types flat_functions signs k s) (ends : CallsEnd flat_functions) where
  abbrev pub May : ℕ → ℕ → ℕ → Type 0
  May b m i = room ends.most m + ends.rank i < b

  may_less : (b m k i : ℕ) → m ≤ k → May b k i → May b m i
  may_less b m k i e h = let l = room_le ends.most m k e in omega (arith, h)

  -- a call, by the function that it is of
  called : (k : Kind) (n : ℕ) (S T : Type 0) (x : Option FlatFunction) (f : FlatFunction) (vs : List Val) (body : FlatFunction → Option Answer) → (S → T) → x ≡ Some f → nat_eq (length vs) (length f.params) ≡ true → Gives types k n T (body f)
      → Gives types k n S (x >>= λ f. if nat_eq (length vs) (length f.params) then body f else None)
  called k n S T x f vs body why e c g = record { answer = g.answer; gives = rw (e, c) g.gives; fits = g.fits; fewer = λ s. g.fewer (why s) }

  true_body : (b : ℕ) (f : FlatFunction) (c : Bool) (type : ℕ) → f.body ≡ built_term type 1 no_terms → (a : Answer) → (if c then meaning (call_within flat_functions b) f.body valued [] else None) ≡ Some a → a ≡ a_value (val 1 none)
  true_body b f true type e a h = let k : meaning (call_within flat_functions b) (built_term type 1 no_terms) valued [] ≡ Some a = subst (λ z. meaning (call_within flat_functions b) z valued [] ≡ Some a) e h in sym (cc)
  true_body b f false type e a h = absurd (cc)

  true_calls : (b i : ℕ) (f : FlatFunction) → function_at i flat_functions ≡ Some f → (type : ℕ) × (f.body ≡ built_term type 1 no_terms) → (a : Answer) → call_within flat_functions b valued i [] ≡ Some a → a ≡ a_value (val 1 none)
  unfolding call_within
  true_calls zero i f e g a h = absurd (cc)
  true_calls (suc b) i f e g a h = true_body b f (nat_eq 0 (length f.params)) g.0 g.1 a (rw e at h)

  body_of : (i : ℕ) (f : FlatFunction) → function_at i flat_functions ≡ Some f → BodySignals flat_functions i → Signals flat_functions f.body
  body_of i f e s = subst (λ z. Signals flat_functions z.body) (same_held (function_at i flat_functions) s.0 f s.1 e) s.2

  pub call_goes : (b i : ℕ) (s : Sign) → signs i ≡ Some s → (vs : List Val) → AllFit types s.params vs → (mode : Mode) → Asked types s.kind mode → May b (left mode) i
      → Gives types s.kind (left mode) (BodySignals flat_functions i) (call_within flat_functions b mode i vs)
  unfolding call_within
  call_goes zero i s e vs w mode a h = absurd (omega arith)
  call_goes (suc b) i s e vs w mode a h =
      let f = functions i s e in
      called s.kind (left mode) (BodySignals flat_functions i) (Signals flat_functions f.function.body) (function_at i flat_functions) f.function vs (λ f. meaning (call_within flat_functions b) f.body mode vs) (body_of i f.function f.found) f.found
      (same_number (length vs) (length f.function.params) (all_long types s.params vs w ∙ sym f.counted))
      (term types flat_functions signs (call_within flat_functions b) (May b) (may_less b) (call_goes b) (true_calls b) (left mode)
      (λ m j less. let l = room_less ends.most m (left mode) less in let k = ends.bounded j in omega (arith, h))
      f.typed [] (every_map _ _ (λ c o free. let k = o free in omega (arith, h)) (calls_in [] f.function.body) (ends.falls i f.function f.found)) vs w mode a (inr (omega arith, λ g. g)))

  -- a term of its own, with room for all calls
  pub term_goes : (b : ℕ) {g : List ℕ} {t : FlatTerm} {k : Kind} → Typed types flat_functions signs g t k → (env : List Val) → AllFit types g env → (mode : Mode) → Asked types k mode → room ends.most (left mode) + ends.most < b
      → Gives types k (left mode) (Signals flat_functions t) (meaning (call_within flat_functions b) t mode env)
  term_goes b {t = t} ty env w mode a h =
      term types flat_functions signs (call_within flat_functions b) (May b) (may_less b) (call_goes b) (true_calls b) (left mode)
      (λ m j less. let l = room_less ends.most m (left mode) less in let k = ends.bounded j in omega (arith, h))
      ty [] (every_all _ (λ c free. let k = ends.bounded c.callee in omega (arith, h)) (calls_in [] t)) env w mode a (inr (omega arith, λ g. g))

  pub value_goes : (b : ℕ) {g : List ℕ} {t : FlatTerm} {d : ℕ} → Typed types flat_functions signs g t (of_data d) → (env : List Val) → AllFit types g env → ends.most < b
      → (v : Val) × ((meaning (call_within flat_functions b) t valued env >>= as_value) ≡ Some v) × Fits types d v
  value_goes b {t = t} {d = d} ty env w h = value_of types d 0 (Signals flat_functions t) (meaning (call_within flat_functions b) t valued env) (term_goes b ty env w valued tt (omega arith))
