-- When the names of a tree of the explicit form are in order, and the machine that it then is.
use Rattle.std.specs.Prelude.{ℕ, zero, suc, ◌+◌, Bool, true, not, ◌&&◌, nat_eq, nat_le, List, [], ◌∷◌, ◌++◌, length, map, Option, Some, is_some, unwrap_or, bytes_eq, codes, find, if◌then◌else◌}
use Rattle.std.specs.List.{list_any, list_all, flat_map, position_or_len}
use Rattle.std.specs.Option.{option_map}
use Rattle.explicit_form.specs.declared.form.Data.{Data}
use Rattle.explicit_form.specs.declared.form.Arm.{Arm}
use Rattle.explicit_form.specs.declared.form.Function.{Function}
use Rattle.explicit_form.specs.declared.form.Form.{Form}
use Rattle.register_machine.specs.declared.machine.Machine.{Machine}
use Rattle.register_machine.specs.declared.machine.State.{State}

-- the name is one of these
abbrev pub is_among : List ℕ → List (List ℕ) → Bool
is_among name names = list_any (bytes_eq name) names

-- each is new: it stands neither among those seen before nor earlier in the list
abbrev pub are_new : {A : Type 0} → (A → A → Bool) → List A → List A → Bool
are_new same seen [] = true
are_new same seen (x ∷ xs) = not (list_any (same x) seen) && are_new same (seen ++ x ∷ []) xs

-- names of which none is taken and no two are equal
abbrev pub are_free : List (List ℕ) → List (List ℕ) → Bool
are_free = are_new bytes_eq

-- the place of a name among distinct ones, from 0
abbrev pub place_of : List (List ℕ) → List ℕ → ℕ
place_of names name = position_or_len (bytes_eq name) names

-- the types that no source of the explicit form declares
abbrev pub taken_types : List (List ℕ)
taken_types = codes "Bool" ∷ codes "Maybe" ∷ codes "Either" ∷ codes "I" ∷ codes "ReT" ∷ codes "StateT" ∷ []

-- the prelude's constructors
abbrev pub taken_constructors : List (List ℕ)
taken_constructors = codes "False" ∷ codes "True" ∷ codes "Nothing" ∷ codes "Just" ∷ codes "Left" ∷ codes "Right" ∷ []

-- `start`, and the variables of the prelude and the operations
abbrev pub taken_functions : List (List ℕ)
taken_functions =
    codes "start" ∷ codes "id" ∷ codes "const" ∷ codes "flip" ∷ codes "not" ∷ codes "otherwise" ∷ codes "fst" ∷ codes "snd" ∷ codes "curry" ∷ codes "uncurry" ∷ codes "maybe" ∷ codes "either" ∷ codes "when"
    ∷ codes "return" ∷ codes "get" ∷ codes "put" ∷ codes "lift" ∷ codes "signal" ∷ codes "extrude" ∷ codes "par" ∷ codes "refold" ∷ []

-- a type's constructors, in the order of its declaration, if it is `Bool` or declared
abbrev pub constructors_of : List Data → List ℕ → Option (List (List ℕ))
constructors_of datas name =
    if bytes_eq name (codes "Bool") then Some (codes "False" ∷ codes "True" ∷ []) else option_map (λ d. d.constructors) (find (λ d. bytes_eq d.name name) datas)

-- the constructors of the input type
abbrev pub inputs_of : Form → List (List ℕ)
inputs_of form = unwrap_or (constructors_of form.datas form.ports.input) []

-- the constructors of the output type
abbrev pub outputs_of : Form → List (List ℕ)
outputs_of form = unwrap_or (constructors_of form.datas form.ports.output) []

-- the names of the functions
abbrev pub names_of : List Function → List (List ℕ)
names_of = map (λ f. f.name)

-- declared types and constructors are free and distinct
abbrev pub fits_datas : List Data → Bool
fits_datas datas = are_free taken_types (map (λ d. d.name) datas) && are_free taken_constructors (flat_map (λ d. d.constructors) datas)

-- at most 1,024 functions, whose names are free and distinct
abbrev pub fits_names : List (List ℕ) → Bool
fits_names names = nat_le (length names) 1024 && are_free taken_functions names

-- an alternative is for an input and goes on with a function: its input and that function, by their places
abbrev pub entry_of : (inputs names : List (List ℕ)) → Arm → ℕ × ℕ
entry_of inputs names arm = (place_of inputs arm.constructor, place_of names arm.target)

abbrev pub fits_arm : (inputs names : List (List ℕ)) → Arm → Bool
fits_arm inputs names arm = is_among arm.constructor inputs && is_among arm.target names

-- what the entry for an input leads to
abbrev pub entry_for : ℕ → List (ℕ × ℕ) → Option ℕ
entry_for input entries = option_map (λ e. e.1) (find (λ e. nat_eq input e.0) entries)

-- the entries for the inputs from this one on
abbrev pub entries_from : ℕ → ℕ → List (ℕ × ℕ) → List (Option ℕ)
entries_from first zero entries = []
entries_from first (suc n) entries = entry_for first entries ∷ entries_from (first + 1) n entries

-- each of so many inputs has an entry, and only one
abbrev pub are_complete : ℕ → List (ℕ × ℕ) → Bool
are_complete n entries = are_new nat_eq [] (map (λ e. e.0) entries) && list_all is_some (entries_from 0 n entries)

-- the alternatives name each input exactly once, and nothing else; the variable hides no function; what is shown is an output
abbrev pub fits_function : (inputs outputs names : List (List ℕ)) → Function → Bool
fits_function inputs outputs names f =
    not (is_among f.bound (codes "start" ∷ names)) && is_among f.shown outputs && list_all (fits_arm inputs names) f.arms && are_complete (length inputs) (map (entry_of inputs names) f.arms)

-- the names of the whole are in order
abbrev pub is_fit : Form → Bool
is_fit form =
    let names = names_of form.functions in
    fits_datas form.datas && fits_names names && is_some (constructors_of form.datas form.ports.input) && is_some (constructors_of form.datas form.ports.output)
    && is_among form.start names && list_all (fits_function (inputs_of form) (outputs_of form) names) form.functions

-- a function as a state: the place of what it shows, and for each input the place of the function that goes on
abbrev pub state_of : (inputs outputs names : List (List ℕ)) → Function → State
state_of inputs outputs names f = record {
  shown = place_of outputs f.shown;
  next = map (λ o. unwrap_or o 0) (entries_from 0 (length inputs) (map (entry_of inputs names) f.arms));
}

-- the machine of a source: its functions are the states, in the order of the source
abbrev pub machine_of : Form → Machine
machine_of form =
    let names = names_of form.functions in
    record {
      inputs = length (inputs_of form);
      outputs = length (outputs_of form);
      reset = place_of names form.start;
      states = map (state_of (inputs_of form) (outputs_of form) names) form.functions;
    }
