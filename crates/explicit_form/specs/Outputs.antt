-- What a source of the explicit form shows, by its names, and how a constructor stands on wires.
use Rattle.std.specs.Prelude.{ℕ, List, [], ◌∷◌, map, unwrap_or, bytes_eq, find}
use Rattle.std.specs.Option.{option_map}
use Rattle.rw_core.specs.declared.types.DataTy.{DataTy}
use Rattle.rw_core.specs.Values.{val, none}
use Rattle.rw_core.specs.Bits.{width_of, encoding}
use Rattle.vh_tree.specs.Bits.{Bits}
use Rattle.register_machine.specs.Codes.{wire_bit}
use Rattle.explicit_form.specs.declared.form.Function.{Function}
use Rattle.explicit_form.specs.declared.form.Form.{Form}
use Rattle.explicit_form.specs.Fit.{place_of}

-- the function of this name, if there is one
abbrev pub function_named : List Function → List ℕ → Function
function_named functions name = unwrap_or (find (λ f. bytes_eq name f.name) functions) (record { name = []; shown = []; bound = []; arms = [] })

-- the name of the function that goes on after an input: that of the input's alternative
abbrev pub target_for : List ℕ → Function → List ℕ
target_for input f = unwrap_or (option_map (λ a. a.target) (find (λ a. bytes_eq input a.constructor) f.arms)) []

-- the outputs from the function of this name on: what it shows, and then, after each input, what the next one shows
abbrev pub outputs_from : List Function → List ℕ → List (List ℕ) → List (List ℕ)
outputs_from functions name [] = (function_named functions name).shown ∷ []
outputs_from functions name (input ∷ inputs) =
    (function_named functions name).shown ∷ outputs_from functions (target_for input (function_named functions name)) inputs

-- the outputs of a source, from the function that `start` names on; inputs and outputs are constructors, by name
abbrev pub form_outputs : Form → List (List ℕ) → List (List ℕ)
form_outputs form inputs = outputs_from form.functions form.start inputs

-- a data type with these constructors, none of which has fields
abbrev pub plain_type : List (List ℕ) → DataTy
plain_type constructors = record { constructors = map (λ _. []) constructors }

-- its width in bits
abbrev pub plain_width : List (List ℕ) → ℕ
plain_width constructors = width_of (plain_type constructors ∷ []) 0

-- the encoding of one of its constructors, on wires
abbrev pub encoded : List (List ℕ) → List ℕ → Bits
encoded constructors name = map wire_bit (encoding (plain_type constructors ∷ []) 0 (val (place_of constructors name) none))
