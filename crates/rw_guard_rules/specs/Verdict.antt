-- The rules E19 to E25 on a flat program: where each is broken; and the verdict, which is the first that is broken, at its first place. Each is
-- read where those before it are kept.
use Rattle.std.specs.Prelude.{◌≡◌, ℕ, suc, ◌+◌, ◌<◌, Bool, true, false, List, [], ◌∷◌, ◌++◌, Option, Some, None, ◌⊎◌}
use Rattle.rw_base.specs.declared.place.Place.{Place}
use Rattle.rw_base.specs.declared.rule.Rule.{Rule}
use Rattle.rw_base.specs.declared.rule.Rule.TheVariants.{E19, E20, E21, E22, E23, E24, E25}
use Rattle.rw_base.specs.declared.fail.Refusal.{Refusal}
use Rattle.rw_scope_rules.specs.Names.{is_before}
use Rattle.rw_core.specs.Bits.{width_of}
use Rattle.rw_core.specs.Systems.{System, leaf, side_by_side, fed_back, EachLeaf}
use Rattle.rw_core_flat.specs.Terms.{FlatTerm, local_term, built_term, case_term, let_term, call_term, mark_term, return_term, get_term, put_term, lift_term, bind_term, signal_term, extrude_term, FlatTerms, no_terms, more_terms}
use Rattle.rw_core_flat.specs.Terms.{FlatLets, no_lets, more_lets, FlatRows, no_rows, more_rows, FlatArms, body_arm, no_arms, more_arms}
use Rattle.rw_core_flat.specs.Programs.{FunctionKind, pure, state, device, FlatFunction, FlatProgram, function_at}
use Rattle.rw_guard_rules.specs.Signals.{Signals, IsTail}
use Rattle.rw_guard_rules.specs.Rules.{AnyByRecursion, Calls, Leads, OnAnyPath, UnguardedDevice, IsMustSignal, IsWeighed}

-- == The first rule, and its first place ==

-- this rule is the first that is broken, and the place is its first one; or it is kept, and what comes after it is the answer
abbrev pub broken_or : Rule → (Place → Type 0) → (Option Refusal → Type 0) → Option Refusal → Type 0
broken_or rule IsBrokenAt After None = ((p : Place) → IsBrokenAt p → ⊥) × After None
broken_or rule IsBrokenAt After (Some r) =
    ((r.rule ≡ rule) × IsBrokenAt r.place × ((p : Place) → IsBrokenAt p → is_before p r.place ≡ false)) ⊎ (((p : Place) → IsBrokenAt p → ⊥) × After (Some r))

-- no rule is left
abbrev pub IsKept : Option Refusal → Type 0
IsKept found = found ≡ None

-- == Types ==

abbrev pub most_width : ℕ
most_width = 1024

abbrev pub most_weight : ℕ
most_weight = 524288

abbrev pub most_depth : ℕ
most_depth = 2048

-- the type of what a call of this function gives, as a list
abbrev pub result_in : Option FlatFunction → List ℕ
result_in None = []
result_in (Some f) = f.result ∷ []

-- the data types of the constructors and calls of a term. The type of any other part is one of these, or that of a variable: of a parameter, of a part
-- of what is matched, which is no wider than that, or of what a bind gives, which is again one of these or stands with the function itself
module _ (functions : List FlatFunction) where
  abbrev mutual
    pub types_in : FlatTerm → List ℕ
    types_in (local_term k) = []
    types_in (built_term type place ts) = type ∷ types_in_all ts
    types_in (case_term ts rows) = types_in_all ts ++ types_in_rows rows
    types_in (let_term lets t) = types_in_lets lets ++ types_in t
    types_in (call_term i ts) = result_in (function_at i functions) ++ types_in_all ts
    types_in (mark_term t) = types_in t
    types_in (return_term t) = types_in t
    types_in get_term = []
    types_in (put_term t) = types_in t
    types_in (lift_term t) = types_in t
    types_in (bind_term t u) = types_in t ++ types_in u
    types_in (signal_term t) = types_in t
    types_in (extrude_term d s) = types_in d ++ types_in s

    pub types_in_all : FlatTerms → List ℕ
    types_in_all no_terms = []
    types_in_all (more_terms t ts) = types_in t ++ types_in_all ts

    pub types_in_lets : FlatLets → List ℕ
    types_in_lets no_lets = []
    types_in_lets (more_lets p t others) = types_in t ++ types_in_lets others

    pub types_in_rows : FlatRows → List ℕ
    types_in_rows no_rows = []
    types_in_rows (more_rows ps lets arms others) = types_in_lets lets ++ (types_in_arms arms ++ types_in_rows others)

    pub types_in_arms : FlatArms → List ℕ
    types_in_arms (body_arm t) = types_in t
    types_in_arms no_arms = []
    types_in_arms (more_arms g t others) = types_in g ++ (types_in t ++ types_in_arms others)

-- the types of states, inputs and outputs
abbrev pub types_of_kind : FunctionKind → List ℕ
types_of_kind pure = []
types_of_kind (state layers) = layers
types_of_kind (device i o layers) = i ∷ o ∷ layers

-- the data types of a function
abbrev pub types_of : List FlatFunction → FlatFunction → List ℕ
types_of functions f = f.params ++ f.result ∷ types_of_kind f.kind ++ types_in functions f.body

-- == Where the rules are broken ==

abbrev pub is_device : FunctionKind → Bool
is_device (device i o layers) = true
is_device _ = false

abbrev pub is_device_in : Option FlatFunction → Bool
is_device_in None = false
is_device_in (Some f) = is_device f.kind

-- the number of the first leaf of a system
abbrev pub first_leaf : System ℕ ℕ → ℕ
first_leaf (leaf i) = i
first_leaf (side_by_side d e) = first_leaf d
first_leaf (fed_back f g d) = first_leaf d

abbrev pub place_in : Option FlatFunction → Place
place_in None = record { line = 0; column = 0 }
place_in (Some f) = f.place

-- the weights of all functions together, from this number on
abbrev pub total_from : (ℕ → ℕ) → ℕ → List FlatFunction → ℕ
total_from weights n [] = 0
total_from weights n (f ∷ fs) = weights n + total_from weights (suc n) fs

module _ (program : FlatProgram) where
  -- whether the function with this number is a device
  abbrev pub devices : ℕ → Bool
  devices i = is_device_in (function_at i program.functions)

  -- the place of `start` is that of the function of its first leaf
  abbrev pub start_place : Place
  start_place = place_in (function_at (first_leaf program.system) program.functions)

  -- at the place of a function, by its number
  abbrev pub AtFunctions : (ℕ → FlatFunction → Type 0) → Place → Type 0
  AtFunctions IsBroken place = (i : ℕ) × (f : FlatFunction) × (function_at i program.functions ≡ Some f) × (f.place ≡ place) × IsBroken i f

  abbrev pub AtStart : Type 0 → Place → Type 0
  AtStart IsBroken place = (place ≡ start_place) × IsBroken

  -- E19: a function or a state action lies on a cycle of calls
  abbrev pub Recurses : Place → Type 0
  Recurses = AtFunctions (λ i f. (is_device f.kind ≡ false) × Leads (Calls program.functions OnAnyPath) i i)

  -- E20: a call of a device that isn't in tail position lies on a cycle of calls, at who calls
  abbrev pub RecursesInside : Place → Type 0
  RecursesInside = AtFunctions (λ i f. (j : ℕ) × (devices j ≡ true) × Calls program.functions (λ path. IsTail path → ⊥) i j × ((i ≡ j) ⊎ Leads (Calls program.functions OnAnyPath) j i))

  -- E21: unguarded calls of devices form a cycle
  abbrev pub LoopsSilently : Place → Type 0
  LoopsSilently = AtFunctions (λ i f. Leads (UnguardedDevice program.functions devices) i i)

  -- E22: a leaf isn't must-signal
  abbrev pub MayReturn : Place → Type 0
  MayReturn = AtStart (EachLeaf (λ k. Signals program.functions (call_term k no_terms)) program.system → ⊥)

  abbrev pub IsWide : ℕ → Type 0
  IsWide type = most_width < width_of program.types type

  -- E23: a data type of a function, or the input or output of `start`, is too wide
  abbrev pub IsTooWide : Place → Type 0
  IsTooWide place = AtFunctions (λ i f. AnyByRecursion IsWide (types_of program.functions f)) place ⊎ AtStart (IsWide program.input ⊎ IsWide program.output) place

  -- weights and depths of the functions: there is one of each, where E19 and E21 are kept
  abbrev pub ByWeights : ((ℕ → ℕ) → (ℕ → ℕ) → Type 0) → Type 0
  ByWeights P = (set : ℕ → Bool) × (weights : ℕ → ℕ) × (depths : ℕ → ℕ) × IsMustSignal program.functions set × IsWeighed program.functions set weights depths × P weights depths

  -- E24: the functions weigh too much together
  abbrev pub IsTooHeavy : Place → Type 0
  IsTooHeavy = AtStart (ByWeights (λ weights depths. most_weight < total_from weights 0 program.functions))

  -- E25: a function is too deep
  abbrev pub IsTooDeep : Place → Type 0
  IsTooDeep = AtFunctions (λ i f. ByWeights (λ weights depths. most_depth < depths i))

  -- == The verdict ==

  -- the first of the rules E19 to E25 that the program breaks, at its first place; or none
  abbrev pub GuardsAs : Option Refusal → Type 0
  GuardsAs =
      broken_or E19 Recurses
      (broken_or E20 RecursesInside
      (broken_or E21 LoopsSilently
      (broken_or E22 MayReturn
      (broken_or E23 IsTooWide
      (broken_or E24 IsTooHeavy
      (broken_or E25 IsTooDeep IsKept))))))
