-- What a source shows, by its names, is what its machine shows, by their places.
use Rattle.std.proofs.Common.{◌≡◌, ℕ, suc, ◌+◌, ◌<◌, Bool, true, false, not, ◌||◌, cond, List, [], ◌∷◌, map, length, Option, Some, None, refl, sym, ◌∙◌, ap, subst, arith, get_or, nat_eq}
use Rattle.std.specs.Prelude.{slice_index, All, is_some, unwrap_or, find, bytes_eq}
use Rattle.std.specs.List.{list_all}
use Rattle.std.specs.Option.{option_map}
use Rattle.std.specs.Cmp.Lexicographic.{same_text}
use Rattle.std.proofs.lemmas.Cmp.{nat_list_eq_equiv}
use Rattle.std.proofs.lemmas.List.Elements.{All-nil, All-cons, All-head, All-tail}
use Rattle.std.proofs.lemmas.List.Sums.{passes_at_first}
use Rattle.std.proofs.Math.ListN.{get_or-map}
use Rattle.register_machine.specs.declared.machine.Machine.{Machine}
use Rattle.register_machine.specs.declared.machine.State.{State}
use Rattle.register_machine.specs.Machine as machines
use Rattle.register_machine.specs.Machine.{machine_outputs, shown_in, next_of}
use Rattle.explicit_form.specs.declared.form.Arm.{Arm}
use Rattle.explicit_form.specs.declared.form.Function.{Function}
use Rattle.explicit_form.specs.declared.form.Form.{Form}
use Rattle.explicit_form.specs.Fit.{is_among, place_of, inputs_of, outputs_of, names_of, fits_arm, entry_of, entry_for, entries_from, fits_function, state_of, machine_of}
use Rattle.explicit_form.specs.Outputs.{function_named, target_for, outputs_from, form_outputs}
use Rattle.explicit_form.specs.Right.{AreInputs}
use Rattle.explicit_form.proofs.Exact.{both}
use Rattle.explicit_form.proofs.Slots.{place_within, entry_at, length-entries}
use Rattle.explicit_form.proofs.Machines.{all_pass, FunctionFits, function_fits, FormFits}

-- ---- what is found by a name
finds_step : {A B : Type 0} (g : A → B) (b rest : Bool) (n : ℕ) (x d : A) (e : B) (ys : List B) (o : Option A) → (b || rest) ≡ true → (rest ≡ true → get_or ys n e ≡ g (unwrap_or o d))
    → get_or (g x ∷ ys) (cond (not b) (1 + n) 0) e ≡ g (unwrap_or (cond b (Some x) o) d)
finds_step g true rest n x d e ys o t h = refl
finds_step g false rest n x d e ys o t h = let next : 1 + n ≡ suc n = omega arith in ap (λ (k : ℕ). get_or (g x ∷ ys) k e) next ∙ h t

-- what stands at the place of a name is what is found by it
finds : {A B : Type 0} (named : A → List ℕ) (g : A → B) (name : List ℕ) (xs : List A) (d : A) (e : B) → is_among name (map named xs) ≡ true
    → get_or (map g xs) (place_of (map named xs) name) e ≡ g (unwrap_or (find (λ x. bytes_eq name (named x)) xs) d)
finds named g name [] d e h = absurd (cc)
finds named g name (x ∷ xs) d e h =
    finds_step g (bytes_eq name (named x)) (is_among name (map named xs)) (place_of (map named xs) name) x d e (map g xs) (find (λ x. bytes_eq name (named x)) xs) h (finds named g name xs d e)

fits_step : {A : Type 0} (P : A → Type 0) (b rest : Bool) (x d : A) (o : Option A) → (b || rest) ≡ true → P x → (rest ≡ true → P (unwrap_or o d)) → P (unwrap_or (cond b (Some x) o) d)
fits_step P true rest x d o t here h = here
fits_step P false rest x d o t here h = h t

-- and it is as each element is
found_fits : {A : Type 0} (P : A → Type 0) (named : A → List ℕ) (name : List ℕ) (xs : List A) (d : A) → All P xs → is_among name (map named xs) ≡ true
    → P (unwrap_or (find (λ x. bytes_eq name (named x)) xs) d)
found_fits P named name [] d all h = absurd (cc)
found_fits P named name (x ∷ xs) d all h =
    fits_step P (bytes_eq name (named x)) (is_among name (map named xs)) x d (find (λ x. bytes_eq name (named x)) xs) h (All-head P x xs all) (found_fits P named name xs d (All-tail P x xs all))

-- ---- names of one place are one name
at_place : (names : List (List ℕ)) (name : List ℕ) → is_among name names ≡ true → name ≡ get_or names (place_of names name) []
at_place names name h = same_text name (get_or names (place_of names name) []) (sym (passes_at_first (bytes_eq name) names [] (place_within (bytes_eq name) names h)))

one_place : (names : List (List ℕ)) (x y : List ℕ) → is_among x names ≡ true → is_among y names ≡ true → place_of names x ≡ place_of names y → x ≡ y
one_place names x y a b e = at_place names x a ∙ ap (λ (k : ℕ). get_or names k []) e ∙ sym (at_place names y b)

same_bool : (b c : Bool) → (b ≡ true → c ≡ true) → (c ≡ true → b ≡ true) → b ≡ c
same_bool true c f g = sym (f refl)
same_bool false true f g = g refl
same_bool false false f g = refl

nat_same : (m n : ℕ) → nat_eq m n ≡ true → m ≡ n
nat_same m n e = grind arith

nat_self : (n : ℕ) → nat_eq n n ≡ true
nat_self n = grind arith

same_place : (names : List (List ℕ)) (x y : List ℕ) → is_among x names ≡ true → is_among y names ≡ true → nat_eq (place_of names x) (place_of names y) ≡ bytes_eq x y
same_place names x y a b =
    same_bool (nat_eq (place_of names x) (place_of names y)) (bytes_eq x y)
    (λ e. subst (λ (z : List ℕ). bytes_eq x z ≡ true) (one_place names x y a b (nat_same (place_of names x) (place_of names y) e)) (nat_list_eq_equiv.refl x))
    (λ e. subst (λ (z : List ℕ). nat_eq (place_of names x) (place_of names z) ≡ true) (same_text x y (sym e)) (nat_self (place_of names x)))

-- ---- alternatives
-- an entry, if there is one, is the place of the alternative's function, which there is
abbrev GoesTo : List (List ℕ) → Option ℕ → Option (List ℕ) → Type 0
GoesTo names entry target = (unwrap_or entry 0 ≡ place_of names (unwrap_or target [])) × (is_among (unwrap_or target []) names ≡ true)

goes_step : (names : List (List ℕ)) (b c : Bool) (e : ℕ × ℕ) (a : Arm) (o : Option (ℕ × ℕ)) (r : Option Arm) → c ≡ b → e.1 ≡ place_of names a.target → is_among a.target names ≡ true
    → (is_some (option_map (λ e. e.1) o) ≡ true → GoesTo names (option_map (λ e. e.1) o) (option_map (λ a. a.target) r))
    → is_some (option_map (λ e. e.1) (cond c (Some e) o)) ≡ true → GoesTo names (option_map (λ e. e.1) (cond c (Some e) o)) (option_map (λ a. a.target) (cond b (Some a) r))
goes_step names true true e a o r same is among h s = (is, among)
goes_step names false false e a o r same is among h s = h s
goes_step names true false e a o r same is among h s = absurd (cc)
goes_step names false true e a o r same is among h s = absurd (cc)

goes : (inputs names : List (List ℕ)) (input : List ℕ) (arms : List Arm) → is_among input inputs ≡ true → list_all (fits_arm inputs names) arms ≡ true
    → is_some (entry_for (place_of inputs input) (map (entry_of inputs names) arms)) ≡ true
    → GoesTo names (entry_for (place_of inputs input) (map (entry_of inputs names) arms)) (option_map (λ a. a.target) (find (λ a. bytes_eq input a.constructor) arms))
goes inputs names input [] i fit s = absurd (cc)
goes inputs names input (a ∷ arms) i fit s =
    let each = both (fits_arm inputs names a) (list_all (fits_arm inputs names) arms) fit in
    let arm = both (is_among a.constructor inputs) (is_among a.target names) each.0 in
    goes_step names (bytes_eq input a.constructor) (nat_eq (place_of inputs input) (place_of inputs a.constructor)) (entry_of inputs names a) a
    (find (λ e. nat_eq (place_of inputs input) e.0) (map (entry_of inputs names) arms)) (find (λ a. bytes_eq input a.constructor) arms)
    (same_place inputs input a.constructor i arm.0) refl arm.1 (goes inputs names input arms i each.1) s

-- ---- one step
module _ (form : Form) (fits : FormFits form) where
  abbrev ins : List (List ℕ)
  ins = inputs_of form

  abbrev outs : List (List ℕ)
  outs = outputs_of form

  abbrev names : List (List ℕ)
  names = names_of form.functions

  abbrev m : Machine
  m = machine_of form

  abbrev nobody : Function
  nobody = record { name = []; shown = []; bound = []; arms = [] }

  abbrev stateless : State
  stateless = record { shown = 0; next = [] }

  abbrev at : List ℕ → Function
  at name = function_named form.functions name

  at_fits : (name : List ℕ) → is_among name names ≡ true → FunctionFits ins outs names (at name)
  at_fits name h =
      found_fits (FunctionFits ins outs names) (λ f. f.name) name form.functions nobody
      (all_pass (fits_function ins outs names) (FunctionFits ins outs names) (function_fits ins outs names) form.functions fits.functions) h

  state_is : (name : List ℕ) → is_among name names ≡ true → get_or m.states (place_of names name) stateless ≡ state_of ins outs names (at name)
  state_is name h = finds (λ (f : Function). f.name) (state_of ins outs names) name form.functions nobody stateless h

  shown_is : (name : List ℕ) → is_among name names ≡ true → shown_in m (place_of names name) ≡ place_of outs (at name).shown
  shown_is name h = ap (λ (s : State). s.shown) (state_is name h)

  abbrev entries : Function → List (ℕ × ℕ)
  entries f = map (entry_of ins names) f.arms

  slot_is : (f : Function) (input : List ℕ) → is_among input ins ≡ true → get_or (entries_from 0 (length ins) (entries f)) (place_of ins input) None ≡ entry_for (place_of ins input) (entries f)
  slot_is f input i = entry_at 0 (length ins) (place_of ins input) (place_of ins input) (entries f) (place_within (bytes_eq input) ins i) (omega arith)

  next_slot : (name input : List ℕ) → is_among name names ≡ true → is_among input ins ≡ true → next_of m (place_of names name) (place_of ins input) ≡ unwrap_or (entry_for (place_of ins input) (entries (at name))) 0
  next_slot name input h i =
      ap (λ (s : State). slice_index s.next (place_of ins input)) (state_is name h)
      ∙ get_or-map (λ (o : Option ℕ). unwrap_or o 0) (entries_from 0 (length ins) (entries (at name))) (place_of ins input) None
      ∙ ap (λ (o : Option ℕ). unwrap_or o 0) (slot_is (at name) input i)

  slot_filled : (f : Function) (input : List ℕ) → FunctionFits ins outs names f → is_among input ins ≡ true → is_some (entry_for (place_of ins input) (entries f)) ≡ true
  slot_filled f input fit i =
      let all = all_pass is_some (λ (o : Option ℕ). is_some o ≡ true) (λ o e. e) (entries_from 0 (length ins) (entries f)) fit.entries in
      let within : place_of ins input < length (entries_from 0 (length ins) (entries f)) = omega (arith, place_within (bytes_eq input) ins i, length-entries 0 (length ins) (entries f)) in
      subst (λ (o : Option ℕ). is_some o ≡ true) (slot_is f input i) (all (place_of ins input) None within)

  next_is : (name input : List ℕ) → is_among name names ≡ true → is_among input ins ≡ true
      → (next_of m (place_of names name) (place_of ins input) ≡ place_of names (target_for input (at name))) × (is_among (target_for input (at name)) names ≡ true)
  next_is name input h i =
      let fit = at_fits name h in
      let there = goes ins names input (at name).arms i fit.arms (slot_filled (at name) input fit i) in
      (next_slot name input h i ∙ there.0, there.1)

  -- ---- all steps
  outputs_are : (name : List ℕ) (inputs : List (List ℕ)) → is_among name names ≡ true → AreInputs form inputs
      → map (place_of outs) (outputs_from form.functions name inputs) ≡ machines.outputs_from m (place_of names name) (map (place_of ins) inputs)
  outputs_are name [] h all = ap (λ (k : ℕ). k ∷ []) (sym (shown_is name h))
  outputs_are name (input ∷ inputs) h all =
      let next = next_is name input h (All-head (λ i. is_among i ins ≡ true) input inputs all) in
      let later = map (place_of ins) inputs in
      ap (λ (k : ℕ). k ∷ map (place_of outs) (outputs_from form.functions (target_for input (at name)) inputs)) (sym (shown_is name h))
      ∙ ap (λ (ks : List ℕ). shown_in m (place_of names name) ∷ ks)
      (outputs_are (target_for input (at name)) inputs next.1 (All-tail (λ i. is_among i ins ≡ true) input inputs all) ∙ ap (λ (s : ℕ). machines.outputs_from m s later) (sym next.0))

  outputs_among : (name : List ℕ) (inputs : List (List ℕ)) → is_among name names ≡ true → AreInputs form inputs → All (λ o. is_among o outs ≡ true) (outputs_from form.functions name inputs)
  outputs_among name [] h all = All-cons (λ o. is_among o outs ≡ true) (at name).shown [] (at_fits name h).shown (All-nil (λ o. is_among o outs ≡ true))
  outputs_among name (input ∷ inputs) h all =
      let next = next_is name input h (All-head (λ i. is_among i ins ≡ true) input inputs all) in
      All-cons (λ o. is_among o outs ≡ true) (at name).shown (outputs_from form.functions (target_for input (at name)) inputs) (at_fits name h).shown
      (outputs_among (target_for input (at name)) inputs next.1 (All-tail (λ i. is_among i ins ≡ true) input inputs all))

  -- the places of a source's outputs are its machine's outputs
  pub form_outputs-places : (inputs : List (List ℕ)) → AreInputs form inputs → map (place_of outs) (form_outputs form inputs) ≡ machine_outputs m (map (place_of ins) inputs)
  form_outputs-places inputs all = outputs_are form.start inputs fits.start all

  -- and a source's outputs are constructors of the output type
  pub form_outputs-among : (inputs : List (List ℕ)) → AreInputs form inputs → All (λ o. is_among o outs ≡ true) (form_outputs form inputs)
  form_outputs-among inputs all = outputs_among form.start inputs fits.start all
