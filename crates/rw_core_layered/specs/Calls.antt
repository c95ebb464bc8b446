-- Functions in call order: each calls earlier ones alone, so what calls give is a recursion on the list of functions, without a budget. B stands for
-- bodies, which differ from language to language.
use Rattle.std.specs.Prelude.{ℕ, suc, nat_eq, List, [], ◌∷◌, length, Option, None, if◌then◌else◌}
use Rattle.rw_core.specs.Values.{Val}
use Rattle.rw_core_layered.specs.Pures.{Calling}

-- a function: the types of its parameters and of its value, and its body
pub record Function (B : Type 0) : Type 0 where
  pub params : List ℕ
  pub result : ℕ
  pub body : B

abbrev pub no_calls : Calling
no_calls i vs = None

module _ {B : Type 0} (meaning : Calling → B → List Val → Option Val) where
  -- one function more, whose number is n: its body calls those before it, and it has all its arguments
  abbrev pub and_function : Calling → ℕ → Function B → Calling
  and_function calls n f i vs = if nat_eq i n then (if nat_eq (length vs) (length f.params) then meaning calls f.body vs else None) else calls i vs

  -- these functions behind the first n, of which this is what calls give
  abbrev pub calls_from : Calling → ℕ → List (Function B) → Calling
  calls_from calls n [] = calls
  calls_from calls n (f ∷ fs) = calls_from (and_function calls n f) (suc n) fs

  abbrev pub calls_of : List (Function B) → Calling
  calls_of functions = calls_from no_calls 0 functions
