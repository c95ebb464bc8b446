-- Functions in their places, and systems.
use Rattle.std.proofs.Common.{◌≡◌, ◌∙◌, refl, ap, subst, arith, ℕ, zero, suc, ◌+◌, ◌-◌, ◌≤◌, nat_eq, Bool, true, false, if◌then◌else◌, List, [], ◌∷◌, ◌++◌, map, length, slice_get, Option, Some, None}
use Rattle.std.proofs.lemmas.Bool.Decides.{nat_tests}
use Rattle.rw_core.specs.Values.{Val}
use Rattle.rw_core.specs.Options.{◌>>=◌, Grows}
use Rattle.rw_core.specs.Traces.{End, waits, finished, shown}
use Rattle.rw_core.specs.Systems.{System, leaf, side_by_side, fed_back, Follows, system_outputs}
use Rattle.rw_core.proofs.Options.{grows_same}
use Rattle.rw_core.proofs.Systems.{system_follows}
use Rattle.rw_core_flat.specs.Meaning.{valued, tracing, Answer, a_value, as_value, as_trace}
use Rattle.rw_core_flat.specs.Programs.{FlatFunction, function_at, call_within, read_by, outputs_within, FlatDenotes}
use Rattle.rw_core_flat.proofs.Growing.{call_grows, outputs_grow}
use Rattle.rw_core_layered.specs.Pures.{PureTerm, Calling, value}
use Rattle.rw_core_layered.specs.Calls.{Function, no_calls, and_function, calls_from, calls_of}
use Rattle.rw_core_layered.specs.Devices.{Device, DeviceTrace, traced, device_at, trace_within}
use Rattle.rw_core_layered.specs.Layered.{LayeredProgram, read_devices, layered_within, LayeredDenotes}
use Rattle.rw_core_layered.specs.Embedding.{function_of_pure, function_of_device, flat_functions, behind_pures}
use Rattle.rw_core_layered_laws.proofs.By.{By, by_grow, by_if}
use Rattle.rw_core_layered_laws.proofs.Terms.{value_flat, without_layers, as_answer, device_flat}

equal_numbers : (m n : ℕ) → nat_eq m n ≡ true → m ≡ n
equal_numbers m n e = grind (arith, nat_tests)

module _ (functions : List FlatFunction) where
  -- these pure functions stand from a number on
  abbrev Placed : ℕ → List (Function PureTerm) → Type 0
  Placed n fs = (k : ℕ) (f : Function PureTerm) → slice_get fs k ≡ Some f → function_at (n + k) functions ≡ Some (function_of_pure f)

  placed_first : (n : ℕ) (f : Function PureTerm) (fs : List (Function PureTerm)) → Placed n (f ∷ fs) → function_at n functions ≡ Some (function_of_pure f)
  placed_first n f fs h = let e : n + 0 ≡ n = omega arith in subst (λ z. function_at z functions ≡ Some (function_of_pure f)) e (h 0 f refl)

  placed_rest : (n : ℕ) (f : Function PureTerm) (fs : List (Function PureTerm)) → Placed n (f ∷ fs) → Placed (suc n) fs
  placed_rest n f fs h k g e = let s : n + suc k ≡ suc n + k = omega arith in subst (λ z. function_at z functions ≡ Some (function_of_pure g)) s (h (suc k) g e)

  abbrev AreCalled : ℕ → Calling → Type 0
  AreCalled budget calls = (i : ℕ) (vs : List Val) → By a_value (calls i vs) (call_within functions budget valued i vs)

  one_later : (budget i : ℕ) (vs : List Val) (x : Option Val) → By a_value x (call_within functions budget valued i vs) → By a_value x (call_within functions (suc budget) valued i vs)
  one_later budget i vs x h =
      let e : 1 + budget ≡ suc budget = omega arith in
      subst (λ z. By a_value x (call_within functions z valued i vs)) e (by_grow a_value x _ _ h (call_grows functions 1 budget valued i vs))

  one_more : (budget n : ℕ) (calls : Calling) (f : Function PureTerm) → AreCalled budget calls → function_at n functions ≡ Some (function_of_pure f) → AreCalled (suc budget) (and_function value calls n f)
  unfolding call_within
  one_more budget n calls f h e i vs = by_number (nat_eq i n) refl
    where
      here : i ≡ n → By a_value (if nat_eq (length vs) (length f.params) then value calls f.body vs else None) (call_within functions (suc budget) valued i vs)
      here s = rw (s, e) (by_if a_value (nat_eq (length vs) (length f.params)) _ _ (value_flat calls (call_within functions budget) h f.body vs))

      by_number : (c : Bool) → nat_eq i n ≡ c → By a_value (if c then (if nat_eq (length vs) (length f.params) then value calls f.body vs else None) else calls i vs) (call_within functions (suc budget) valued i vs)
      by_number true x = here (equal_numbers i n x)
      by_number false x = one_later budget i vs (calls i vs) (h i vs)

  all_called : (fs : List (Function PureTerm)) (budget n : ℕ) (calls : Calling) → AreCalled budget calls → Placed n fs → AreCalled (budget + length fs) (calls_from value calls n fs)
  all_called [] budget n calls h p = let e : budget ≡ budget + 0 = omega arith in subst (λ z. AreCalled z calls) e h
  all_called (f ∷ fs) budget n calls h p =
      let e : suc budget + length fs ≡ budget + suc (length fs) = omega arith in
      subst (λ z. AreCalled z (calls_from value (and_function value calls n f) (suc n) fs)) e
      (all_called fs (suc budget) (suc n) (and_function value calls n f) (one_more budget n calls f h (placed_first n f fs p)) (placed_rest n f fs p))

  -- devices, over pure functions that are called within a budget
  module _ (pures : Calling) (enough first : ℕ) (h : AreCalled enough pures) (devices : List Device)
      (p : (i : ℕ) (d : Device) → device_at i devices ≡ Some d → function_at (first + i) functions ≡ Some (function_of_device first d)) where
    grown : (budget : ℕ) → AreCalled (budget + enough) pures
    grown budget i vs = by_grow a_value (pures i vs) _ _ (h i vs) (call_grows functions budget enough valued i vs)

    abbrev AreTraced : ℕ → Type 0
    AreTraced budget = (i : ℕ) (vs inputs : List Val) → By as_answer (trace_within pures devices budget i vs inputs) (call_within functions (budget + enough) (tracing [] inputs) (first + i) vs)

    abbrev body_traced : ℕ → List Val → List Val → Device → Option DeviceTrace
    body_traced budget vs inputs d = if nat_eq (length vs) (length d.params) then traced pures (trace_within pures devices budget) d.body vs inputs else None

    one_traced : (budget i : ℕ) (vs inputs : List Val) (d : Device) → AreTraced budget → function_at (first + i) functions ≡ Some (function_of_device first d)
        → By as_answer (body_traced budget vs inputs d) (call_within functions (suc (budget + enough)) (tracing [] inputs) (first + i) vs)
    unfolding call_within
    one_traced budget i vs inputs d k e =
        rw e (by_if as_answer (nat_eq (length vs) (length d.params)) _ _ (device_flat pures (call_within functions (budget + enough)) (grown budget) first (trace_within pures devices budget) k d.body vs inputs))

    if_there : (budget i : ℕ) (vs inputs : List Val) → AreTraced budget → (x : Option Device) → device_at i devices ≡ x
        → By as_answer (x >>= body_traced budget vs inputs) (call_within functions (suc (budget + enough)) (tracing [] inputs) (first + i) vs)
    if_there budget i vs inputs k None e = tt
    if_there budget i vs inputs k (Some d) e = one_traced budget i vs inputs d k (p i d e)

    pub trace_flat : (budget : ℕ) → AreTraced budget
    unfolding trace_within
    trace_flat zero i vs inputs = tt
    trace_flat (suc budget) i vs inputs =
        let e : suc (budget + enough) ≡ suc budget + enough = omega arith in
        subst (λ z. By as_answer (device_at i devices >>= body_traced budget vs inputs) (call_within functions z (tracing [] inputs) (first + i) vs)) e
        (if_there budget i vs inputs (trace_flat budget) (device_at i devices) refl)

    -- == Systems ==

    shown_alike : (n : ℕ) (end : End Val (Unit {0})) (outputs : List Val) → shown n end outputs ≡ shown n (without_layers end) outputs
    shown_alike n waits outputs = refl
    shown_alike n (finished v s left) outputs = refl

    shown_flat : (n : ℕ) (x : Option DeviceTrace) (y : Option Answer) → By as_answer x y → Grows (x >>= λ t. shown n t.end t.outputs) ((y >>= as_trace) >>= λ t. shown n t.end t.outputs)
    shown_flat n None y e = tt
    shown_flat n (Some t) y e = rw e (grows_same_shown n t)
      where
        grows_same_shown : (n : ℕ) (t : DeviceTrace) → Grows (shown n t.end t.outputs) (shown n (without_layers t.end) t.outputs)
        grows_same_shown n t = subst (λ z. Grows (shown n t.end t.outputs) z) (shown_alike n t.end t.outputs) (grows_same (shown n t.end t.outputs))

    value_grows : (x : Option Val) (y : Option Answer) → By a_value x y → Grows x (y >>= as_value)
    value_grows None y e = tt
    value_grows (Some v) y e = rw e refl

    follows : (budget : ℕ) (s : System ℕ ℕ) → Follows (read_devices pures (trace_within pures devices budget)) (read_by (call_within functions (budget + enough))) s (behind_pures first s)
    follows budget (leaf i) = λ inputs. shown_flat (length inputs) _ _ (trace_flat budget i [] inputs)
    follows budget (side_by_side d e) = (follows budget d, follows budget e)
    follows budget (fed_back f g d) = (λ v. value_grows _ _ (grown budget f (v ∷ [])), λ v w. value_grows _ _ (grown budget g (v ∷ w ∷ [])), follows budget d)

    pub system_flat : (budget : ℕ) (s : System ℕ ℕ) (inputs outputs : List Val) → system_outputs (read_devices pures (trace_within pures devices budget)) s inputs ≡ Some outputs
        → outputs_within functions (behind_pures first s) (budget + enough) inputs ≡ Some outputs
    system_flat budget s inputs outputs e =
        kept _ _ outputs (system_follows (read_devices pures (trace_within pures devices budget)) (read_by (call_within functions (budget + enough))) s (behind_pures first s) (follows budget s) inputs) e
      where
        kept : (x y : Option (List Val)) (o : List Val) → Grows x y → x ≡ Some o → y ≡ Some o
        kept None y o g e = absurd (cc)
        kept (Some a) y o g e = cc

-- == Programs ==

pures_at : (fs : List (Function PureTerm)) (more : List FlatFunction) (k : ℕ) (f : Function PureTerm) → slice_get fs k ≡ Some f → function_at k (map function_of_pure fs ++ more) ≡ Some (function_of_pure f)
pures_at [] more zero f e = absurd (cc)
pures_at [] more (suc k) f e = absurd (cc)
pures_at (g ∷ fs) more zero f e = let s : g ≡ f = cc in ap (λ z. Some (function_of_pure z)) s
pures_at (g ∷ fs) more (suc k) f e = pures_at fs more k f e

device_found : (first : ℕ) (ds : List Device) (i : ℕ) (d : Device) → device_at i ds ≡ Some d → function_at i (map (function_of_device first) ds) ≡ Some (function_of_device first d)
device_found first [] i d e = absurd (cc)
device_found first (c ∷ ds) zero d e = let s : c ≡ d = cc in ap (λ z. Some (function_of_device first z)) s
device_found first (c ∷ ds) (suc i) d e = device_found first ds i d e

behind_at : (fs : List (Function PureTerm)) (more : List FlatFunction) (i : ℕ) → function_at (length fs + i) (map function_of_pure fs ++ more) ≡ function_at i more
behind_at [] more i = let e : 0 + i ≡ i = omega arith in ap (λ z. function_at z more) e
behind_at (f ∷ fs) more i = let e : suc (length fs) + i ≡ suc (length fs + i) = omega arith in ap (λ z. function_at z (function_of_pure f ∷ map function_of_pure fs ++ more)) e ∙ behind_at fs more i

module _ (p : LayeredProgram) where
  abbrev all : List FlatFunction
  all = flat_functions p.pures p.devices

  pures_called : AreCalled all (length p.pures) (calls_of value p.pures)
  pures_called =
      let e : 0 + length p.pures ≡ length p.pures = omega arith in
      subst (λ z. AreCalled all z (calls_of value p.pures)) e (all_called all p.pures 0 0 no_calls (λ i vs. tt) placed)
    where
      placed : Placed all 0 p.pures
      placed k f h = let e : k ≡ 0 + k = omega arith in subst (λ z. function_at z all ≡ Some (function_of_pure f)) e (pures_at p.pures (map (function_of_device (length p.pures)) p.devices) k f h)

  devices_there : (i : ℕ) (d : Device) → device_at i p.devices ≡ Some d → function_at (length p.pures + i) all ≡ Some (function_of_device (length p.pures) d)
  devices_there i d e = behind_at p.pures (map (function_of_device (length p.pures)) p.devices) i ∙ device_found (length p.pures) p.devices i d e

  within : (budget : ℕ) (inputs outputs : List Val) → layered_within p budget inputs ≡ Some outputs → outputs_within all (behind_pures (length p.pures) p.system) (budget + length p.pures) inputs ≡ Some outputs
  within budget inputs outputs e =
      system_flat all (calls_of value p.pures) (length p.pures) (length p.pures) pures_called p.devices devices_there budget p.system inputs outputs e

  pub denotes_flat : (inputs outputs : List Val) → LayeredDenotes p inputs outputs → FlatDenotes all (behind_pures (length p.pures) p.system) inputs outputs
  denotes_flat inputs outputs d = record { from = d.from + length p.pures; holds = λ n l. lasting n l }
    where
      kept : (x y : Option (List Val)) (o : List Val) → Grows x y → x ≡ Some o → y ≡ Some o
      kept None y o g e = absurd (cc)
      kept (Some a) y o g e = cc

      lasting : (n : ℕ) → d.from + length p.pures ≤ n → outputs_within all (behind_pures (length p.pures) p.system) n inputs ≡ Some outputs
      lasting n l =
          let e : n - (d.from + length p.pures) + (d.from + length p.pures) ≡ n = omega arith in
          let refl_from : d.from ≤ d.from = omega arith in
          subst (λ z. outputs_within all (behind_pures (length p.pures) p.system) z inputs ≡ Some outputs) e
          (kept _ _ outputs (outputs_grow all (behind_pures (length p.pures) p.system) (n - (d.from + length p.pures)) (d.from + length p.pures) inputs) (within d.from inputs outputs (d.holds d.from refl_from)))
