-- A tree of the explicit form whose names are in order gives a well-formed machine.
use Rattle.std.proofs.Common.{◌≡◌, ℕ, zero, suc, ◌+◌, ◌<◌, ◌≤◌, ◌^◌, Bool, true, false, not, ◌||◌, cond, List, [], ◌∷◌, map, length, Option, Some, None, refl, sym, ◌∙◌, ap, subst, arith}
use Rattle.std.specs.Prelude.{slice_index, All, is_some, unwrap_or, find, bytes_eq, codes}
use Rattle.std.specs.List.{list_any, list_all, position_or_len}
use Rattle.std.specs.Option.{option_map}
use Rattle.std.proofs.lemmas.List.{length-map}
use Rattle.std.proofs.lemmas.List.Elements.{All-nil, All-cons, All-head, All-tail, All-map}
use Rattle.register_machine.specs.declared.machine.Machine.{Machine}
use Rattle.register_machine.specs.declared.machine.State.{State}
use Rattle.register_machine.specs.Machine.{IsState, IsMachine}
use Rattle.explicit_form.specs.declared.form.Data.{Data}
use Rattle.explicit_form.specs.declared.form.Arm.{Arm}
use Rattle.explicit_form.specs.declared.form.Function.{Function}
use Rattle.explicit_form.specs.declared.form.Form.{Form}
use Rattle.explicit_form.specs.Words.{Word}
use Rattle.explicit_form.specs.Grammar.{IsForm}
use Rattle.explicit_form.specs.Fit.{is_among, place_of, constructors_of, inputs_of, outputs_of, names_of, fits_names, fits_arm, entry_of, entry_for, entries_from, fits_function, is_fit, state_of, machine_of}
use Rattle.explicit_form.proofs.Exact.{both, some_is}
use Rattle.explicit_form.proofs.Sizes.{HasFew, form_few}

-- ---- lists
first_step : (b rest : Bool) (n m : ℕ) → (b || rest) ≡ true → (rest ≡ true → n < m) → cond (not b) (1 + n) 0 < suc m
first_step true rest n m e h = omega arith
first_step false rest n m e h = let k = h e in omega arith

-- the first element that passes has a place, if there is one
first_below : {X : Type 0} (p : X → Bool) (xs : List X) → list_any p xs ≡ true → position_or_len p xs < length xs
first_below p [] e = absurd (cc)
first_below p (x ∷ xs) e = first_step (p x) (list_any p xs) (position_or_len p xs) (length xs) e (first_below p xs)

-- what passes a test that each element passes
pub all_pass : {X : Type 0} (p : X → Bool) (P : X → Type 0) → ((x : X) → p x ≡ true → P x) → (xs : List X) → list_all p xs ≡ true → All P xs
all_pass p P h [] e = All-nil P
all_pass p P h (x ∷ xs) e = let b = both (p x) (list_all p xs) e in All-cons P x xs (h x b.0) (all_pass p P h xs b.1)

found_step : {X : Type 0} (P : X → Type 0) (b : Bool) (x y : X) (o : Option X) → P x → (o ≡ Some y → P y) → cond b (Some x) o ≡ Some y → P y
found_step P true x y o p h e = subst P (some_is x y e) p
found_step P false x y o p h e = h e

-- what is found is one of the elements
found_is : {X : Type 0} (P : X → Type 0) (p : X → Bool) (xs : List X) (y : X) → All P xs → find p xs ≡ Some y → P y
found_is P p [] y h e = absurd (cc)
found_is P p (x ∷ xs) y h e = found_step P (p x) x y (find p xs) (All-head P x xs h) (found_is P p xs y (All-tail P x xs h)) e

-- ---- entries
mapped_is : {X Y : Type 0} (f : X → Y) (P : Y → Type 0) (o : Option X) → ((x : X) → o ≡ Some x → P (f x)) → (d : Y) → is_some (option_map f o) ≡ true → P (unwrap_or (option_map f o) d)
mapped_is f P None h d e = absurd (cc)
mapped_is f P (Some x) h d e = h x refl

entry_below : (n input : ℕ) (entries : List (ℕ × ℕ)) → All (λ e. e.1 < n) entries → is_some (entry_for input entries) ≡ true → unwrap_or (entry_for input entries) 0 < n
entry_below n input entries h e = mapped_is (λ (e : ℕ × ℕ). e.1) (λ t. t < n) _ (λ x f. found_is (λ e. e.1 < n) _ entries x h f) 0 e

entries_length : (first n : ℕ) (entries : List (ℕ × ℕ)) → length (entries_from first n entries) ≡ n
entries_length first zero entries = refl
entries_length first (suc n) entries = ap suc (entries_length (first + 1) n entries)

entries_below : (bound first n : ℕ) (entries : List (ℕ × ℕ)) → All (λ e. e.1 < bound) entries → list_all is_some (entries_from first n entries) ≡ true
    → (i : ℕ) → i < n → slice_index (map (λ o. unwrap_or o 0) (entries_from first n entries)) i < bound
entries_below bound first zero entries h e i l = absurd (omega arith)
entries_below bound first (suc n) entries h e zero l = entry_below bound first entries h (both (is_some (entry_for first entries)) _ e).0
entries_below bound first (suc n) entries h e (suc i) l = entries_below bound (first + 1) n entries h (both (is_some (entry_for first entries)) _ e).1 i (omega arith)

-- ---- names
place_below : (names : List (List ℕ)) (name : List ℕ) → is_among name names ≡ true → place_of names name < length names
place_below names name e = first_below (bytes_eq name) names e

-- an alternative that is in order goes on with a function that there is
arm_below : (inputs names : List (List ℕ)) (arm : Arm) → fits_arm inputs names arm ≡ true → place_of names arm.target < length names
arm_below inputs names arm e = place_below names arm.target (both (is_among arm.constructor inputs) (is_among arm.target names) e).1

arms_below : (inputs names : List (List ℕ)) (arms : List Arm) → list_all (fits_arm inputs names) arms ≡ true → All (λ e. e.1 < length names) (map (entry_of inputs names) arms)
arms_below inputs names arms e =
    All-map (λ (e : ℕ × ℕ). e.1 < length names) (entry_of inputs names) arms (all_pass (fits_arm inputs names) (λ arm. place_of names arm.target < length names) (arm_below inputs names) arms e)

-- ---- types
-- a list that is neither empty nor too long for a number of 32 bits
abbrev IsCountable : List (List ℕ) → Type 0
IsCountable cs = (0 < length cs) × (length cs < 2 ^ 32)

few_countable : (n : ℕ) (declared : Data) → n < 2 ^ 31 → HasFew n declared → IsCountable declared.constructors
few_countable n declared l h = (h.0, omega (arith, l, h.1))

declared_countable : (n : ℕ) (datas : List Data) (p : Data → Bool) → n < 2 ^ 31 → All (HasFew n) datas → is_some (option_map (λ d. d.constructors) (find p datas)) ≡ true
    → IsCountable (unwrap_or (option_map (λ d. d.constructors) (find p datas)) [])
declared_countable n datas p l h e =
    mapped_is (λ (d : Data). d.constructors) IsCountable (find p datas) (λ d f. few_countable n d l (found_is (HasFew n) p datas d h f)) [] e

countable_step : (b : Bool) (cs : List (List ℕ)) (o : Option (List (List ℕ))) → IsCountable cs → (is_some o ≡ true → IsCountable (unwrap_or o [])) → is_some (cond b (Some cs) o) ≡ true
    → IsCountable (unwrap_or (cond b (Some cs) o) [])
countable_step true cs o c h e = c
countable_step false cs o c h e = h e

two_countable : (a b : List ℕ) → IsCountable (a ∷ b ∷ [])
two_countable a b = (omega arith, omega arith)

-- a type that there is has constructors, fewer than 2^32
type_countable : (n : ℕ) (datas : List Data) (name : List ℕ) → n < 2 ^ 31 → All (HasFew n) datas → is_some (constructors_of datas name) ≡ true → IsCountable (unwrap_or (constructors_of datas name) [])
type_countable n datas name l h e =
    countable_step (bytes_eq name (codes "Bool")) (codes "False" ∷ codes "True" ∷ []) _ (two_countable (codes "False") (codes "True")) (declared_countable n datas (λ d. bytes_eq d.name name) l h) e

-- ---- states
-- a state that shows one of so many outputs, and has a next one of so many states for each of so many inputs
record IsStateOf (outputs inputs states : ℕ) (state : State) : Type 0 where
  shows : state.shown < outputs
  each : length state.next ≡ inputs
  goes : (i : ℕ) → i < inputs → slice_index state.next i < states

-- what is used of a function's being in order
pub record FunctionFits (inputs outputs names : List (List ℕ)) (f : Function) : Type 0 where
  pub shown : is_among f.shown outputs ≡ true
  pub arms : list_all (fits_arm inputs names) f.arms ≡ true
  pub entries : list_all is_some (entries_from 0 (length inputs) (map (entry_of inputs names) f.arms)) ≡ true

pub function_fits : (inputs outputs names : List (List ℕ)) (f : Function) → fits_function inputs outputs names f ≡ true → FunctionFits inputs outputs names f
function_fits inputs outputs names f e =
    let complete = both _ _ e in
    let arms = both _ _ complete.0 in
    let shown = both _ _ arms.0 in
    record { shown = shown.1; arms = arms.1; entries = (both _ _ complete.1).1 }

function_state : (inputs outputs names : List (List ℕ)) (f : Function) → FunctionFits inputs outputs names f → IsStateOf (length outputs) (length inputs) (length names) (state_of inputs outputs names f)
function_state inputs outputs names f h =
    let entries = map (entry_of inputs names) f.arms in
    record {
      shows = place_below outputs f.shown h.shown;
      each = length-map (entries_from 0 (length inputs) entries) (λ o. unwrap_or o 0) ∙ entries_length 0 (length inputs) entries;
      goes = entries_below (length names) 0 (length inputs) entries (arms_below inputs names f.arms h.arms) h.entries;
    }

states_fit : (inputs outputs names : List (List ℕ)) (functions : List Function) → list_all (fits_function inputs outputs names) functions ≡ true
    → All (IsStateOf (length outputs) (length inputs) (length names)) (map (state_of inputs outputs names) functions)
states_fit inputs outputs names functions e =
    All-map (IsStateOf (length outputs) (length inputs) (length names)) (state_of inputs outputs names) functions
    (all_pass (fits_function inputs outputs names) (λ f. IsStateOf (length outputs) (length inputs) (length names) (state_of inputs outputs names f)) (λ f h. function_state inputs outputs names f (function_fits inputs outputs names f h)) functions e)

-- ---- the machine
-- what is used of a tree's being in order
pub record FormFits (form : Form) : Type 0 where
  pub few : length (names_of form.functions) ≤ 1024
  pub input : is_some (constructors_of form.datas form.ports.input) ≡ true
  pub output : is_some (constructors_of form.datas form.ports.output) ≡ true
  pub start : is_among form.start (names_of form.functions) ≡ true
  pub functions : list_all (fits_function (inputs_of form) (outputs_of form) (names_of form.functions)) form.functions ≡ true

names_few : (names : List (List ℕ)) → fits_names names ≡ true → length names ≤ 1024
names_few names e = grind (arith, e)

pub form_fits : (form : Form) → is_fit form ≡ true → FormFits form
form_fits form e =
    let functions = both _ _ e in
    let start = both _ _ functions.0 in
    let output = both _ _ start.0 in
    let input = both _ _ output.0 in
    let names = both _ _ input.0 in
    record { few = names_few (names_of form.functions) names.1; input = input.1; output = output.1; start = start.1; functions = functions.1 }

-- there are as many states as functions, and so as names
states_count : (form : Form) → length (machine_of form).states ≡ length (names_of form.functions)
states_count form = length-map form.functions (state_of (inputs_of form) (outputs_of form) (names_of form.functions)) ∙ sym (length-map form.functions (λ f. f.name))

state_is : (m : Machine) (n s : ℕ) → length m.states ≡ n → All (IsStateOf m.outputs m.inputs n) m.states → s < length m.states → IsState m s
state_is m n s e h l =
    let state = h s (record { shown = 0; next = [] }) l in
    record { shown = state.shows; inputs = state.each; next = λ i k. let below = state.goes i k in omega (arith, e, below) }

-- the machine of a tree that was read and is in order is well formed
pub machine_fits : (words : List Word) (form : Form) → IsForm words form → length words < 2 ^ 31 → is_fit form ≡ true → IsMachine (machine_of form)
machine_fits words form reads short e =
    let fits = form_fits form e in
    let sizes = form_few words form reads in
    let inputs = type_countable (length words) form.datas form.ports.input short sizes fits.input in
    let outputs = type_countable (length words) form.datas form.ports.output short sizes fits.output in
    let count = states_count form in
    let reset = place_below (names_of form.functions) form.start fits.start in
    record {
      some_inputs = inputs.0;
      few_inputs = inputs.1;
      some_outputs = outputs.0;
      few_outputs = outputs.1;
      few_states = omega (arith, count, fits.few);
      reset = omega (arith, count, reset);
      states = λ s l. state_is (machine_of form) (length (names_of form.functions)) s count (states_fit (inputs_of form) (outputs_of form) (names_of form.functions) form.functions fits.functions) l;
    }
