-- Well-typed flat terms, with data types as numbers.
use Rattle.std.specs.Prelude.{◌≡◌, ℕ, zero, suc, ◌≤◌, List, [], ◌∷◌, ◌++◌, length, Option, Some, None, ◌⊎◌, slice_get}
use Rattle.rw_core.specs.declared.types.DataTy.{DataTy}
use Rattle.rw_core.specs.Bits.{constructors_of}
use Rattle.rw_core.specs.Values.{Val, Vals, val, none, more}
use Rattle.rw_core.specs.Options.{◌>>=◌}
use Rattle.rw_meaning.specs.Options.{taken}
use Rattle.rw_core_flat.specs.Terms.{FlatPattern, any_pattern, bound_pattern, built_pattern, FlatPatterns, no_patterns, more_patterns}
use Rattle.rw_core_flat.specs.Terms.{FlatTerm, local_term, built_term, case_term, let_term, call_term, mark_term, return_term, get_term, put_term, lift_term, bind_term, signal_term, extrude_term, FlatTerms, no_terms, more_terms}
use Rattle.rw_core_flat.specs.Terms.{FlatLets, no_lets, more_lets, FlatRows, no_rows, more_rows, FlatArms, body_arm, no_arms, more_arms}
use Rattle.rw_core_flat.specs.Meaning.{matched, row_matched}
use Rattle.rw_core_flat.specs.Programs.{FunctionKind, FlatFunction, function_at}
use Rattle.rw_core_flat.specs.Programs as programs
use Rattle.rw_core.specs.Systems.{System, leaf, side_by_side, fed_back}

-- what monad: a state monad, or a device with these types of inputs and outputs
pub data Monad : Type 0 where
  state : Monad
  device : ℕ → ℕ → Monad

-- a value of a data type; or a computation over these layers with this result
pub data Kind : Type 0 where
  of_data : ℕ → Kind
  doing : Monad → List ℕ → ℕ → Kind

pub record Sign : Type 0 where
  pub params : List ℕ
  pub kind : Kind

-- what a function says of itself
abbrev pub computed : FunctionKind → ℕ → Kind
computed programs.pure result = of_data result
computed (programs.state layers) result = doing state layers result
computed (programs.device i o layers) result = doing (device i o) layers result

abbrev pub sign_of : FlatFunction → Sign
sign_of f = record { params = f.params; kind = computed f.kind f.result }

abbrev pub signs_of : List FlatFunction → ℕ → Option Sign
signs_of functions i = do f ← function_at i functions; Some (sign_of f)

-- data types: the fields of each constructor; the types of tests and of unit
pub record DataTypes : Type 0 where
  pub fields : ℕ → ℕ → Option (List ℕ)
  pub truth : ℕ
  pub unit : ℕ
  pub truths : (tag : ℕ) (ds : List ℕ) → fields truth tag ≡ Some ds → tag ≤ 1
  pub units : fields unit 0 ≡ Some []

-- the types of the fields of a constructor in a table
abbrev pub fields_in : List DataTy → ℕ → ℕ → Option (List ℕ)
fields_in table d tag = slice_get (constructors_of table d) tag

-- these are the types of a table
abbrev pub AreInTable : DataTypes → List DataTy → Type 0
AreInTable types table = (d tag : ℕ) → types.fields d tag ≡ fields_in table d tag

abbrev pub type_at : ℕ → List ℕ → Option ℕ
type_at k [] = None
type_at zero (d ∷ ds) = Some d
type_at (suc k) (d ∷ ds) = type_at k ds

module _ (types : DataTypes) where
  -- values of a type
  abbrev mutual
    pub Fits : ℕ → Val → Type 0
    Fits d (val tag vs) = (ds : List ℕ) × (types.fields d tag ≡ Some ds) × FieldsFit ds vs

    pub FieldsFit : List ℕ → Vals → Type 0
    FieldsFit [] none = Unit {0}
    FieldsFit [] (more v vs) = ⊥
    FieldsFit (d ∷ ds) none = ⊥
    FieldsFit (d ∷ ds) (more v vs) = Fits d v × FieldsFit ds vs

  abbrev pub AllFit : List ℕ → List Val → Type 0
  AllFit [] [] = Unit {0}
  AllFit [] (v ∷ vs) = ⊥
  AllFit (d ∷ ds) [] = ⊥
  AllFit (d ∷ ds) (v ∷ vs) = Fits d v × AllFit ds vs

  -- the types of a pattern's variables
  abbrev mutual
    pub pattern_types : FlatPattern → ℕ → Option (List ℕ)
    pattern_types any_pattern d = Some []
    pattern_types bound_pattern d = Some (d ∷ [])
    pattern_types (built_pattern place ps) d = do ds ← types.fields d place; patterns_types ps ds

    pub patterns_types : FlatPatterns → List ℕ → Option (List ℕ)
    patterns_types no_patterns [] = Some []
    patterns_types no_patterns (d ∷ ds) = None
    patterns_types (more_patterns p ps) [] = None
    patterns_types (more_patterns p ps) (d ∷ ds) = do xs ← pattern_types p d; ys ← patterns_types ps ds; Some (xs ++ ys)

module _ (types : DataTypes) (flat_functions : List FlatFunction) (signs : ℕ → Option Sign) where
  -- `True`, or a call of a function whose body is `True`
  abbrev pub IsTrueTerm : FlatTerm → Type 0
  IsTrueTerm (built_term type place no_terms) = place ≡ 1
  IsTrueTerm (call_term i no_terms) = (f : FlatFunction) × (function_at i flat_functions ≡ Some f) × ((type : ℕ) × (f.body ≡ built_term type 1 no_terms))
  IsTrueTerm (mark_term t) = IsTrueTerm t
  IsTrueTerm _ = ⊥

  -- no guard, or one that is true
  abbrev pub EndsOpen : FlatArms → Type 0
  EndsOpen (body_arm t) = Unit {0}
  EndsOpen no_arms = ⊥
  EndsOpen (more_arms g t others) = IsTrueTerm g ⊎ EndsOpen others

  -- a row matches these values, and isn't passed over
  abbrev pub Matched : FlatRows → List Val → Type 0
  Matched no_rows vs = ⊥
  Matched (more_rows ps lets arms others) vs = ((xs : List Val) × (row_matched ps vs ≡ taken xs) × EndsOpen arms) ⊎ Matched others vs

  mutual
    pub data Typed : List ℕ → FlatTerm → Kind → Type 0 where
      is_local : {g : List ℕ} {k d : ℕ} → type_at k g ≡ Some d → Typed g (local_term k) (of_data d)
      is_con : {g : List ℕ} {place d : ℕ} {ts : FlatTerms} (ds : List ℕ) → types.fields d place ≡ Some ds → AllTyped g ts ds → Typed g (built_term d place ts) (of_data d)
      is_case : {g : List ℕ} {ts : FlatTerms} {rows : FlatRows} {k : Kind} (ds : List ℕ) → AllTyped g ts ds → RowsTyped g ds rows k → ((vs : List Val) → AllFit types ds vs → Matched rows vs) → Typed g (case_term ts rows) k
      is_let : {g : List ℕ} {lets : FlatLets} {t : FlatTerm} {k : Kind} (inner : List ℕ) → LetsTyped g lets inner → Typed inner t k → Typed g (let_term lets t) k
      is_call : {g : List ℕ} {i : ℕ} {ts : FlatTerms} {k : Kind} (ds : List ℕ) → signs i ≡ Some (record { params = ds; kind = k }) → AllTyped g ts ds → Typed g (call_term i ts) k
      is_mark : {g : List ℕ} {t : FlatTerm} {k : Kind} → Typed g t k → Typed g (mark_term t) k
      is_return : {g : List ℕ} {t : FlatTerm} {m : Monad} {layers : List ℕ} {d : ℕ} → Typed g t (of_data d) → Typed g (return_term t) (doing m layers d)
      is_get : {g : List ℕ} {s : ℕ} {layers : List ℕ} → Typed g get_term (doing state (s ∷ layers) s)
      is_put : {g : List ℕ} {t : FlatTerm} {s : ℕ} {layers : List ℕ} {d : ℕ} → Typed g t (of_data s) → d ≡ types.unit → Typed g (put_term t) (doing state (s ∷ layers) d)
      lifts_state : {g : List ℕ} {t : FlatTerm} {s : ℕ} {layers : List ℕ} {d : ℕ} → Typed g t (doing state layers d) → Typed g (lift_term t) (doing state (s ∷ layers) d)
      lifts_device : {g : List ℕ} {t : FlatTerm} {i o : ℕ} {layers : List ℕ} {d : ℕ} → Typed g t (doing state layers d) → Typed g (lift_term t) (doing (device i o) layers d)
      is_bind : {g : List ℕ} {t u : FlatTerm} {m : Monad} {layers : List ℕ} {d : ℕ} (b : ℕ) → Typed g t (doing m layers b) → Typed (g ++ b ∷ []) u (doing m layers d) → Typed g (bind_term t u) (doing m layers d)
      is_signal : {g : List ℕ} {t : FlatTerm} {i o : ℕ} {layers : List ℕ} → Typed g t (of_data o) → Typed g (signal_term t) (doing (device i o) layers i)
      is_extrude : {g : List ℕ} {t u : FlatTerm} {i o : ℕ} {layers : List ℕ} {d : ℕ} (s : ℕ) → Typed g t (doing (device i o) (s ∷ layers) d) → Typed g u (of_data s) → Typed g (extrude_term t u) (doing (device i o) layers d)

    pub data AllTyped : List ℕ → FlatTerms → List ℕ → Type 0 where
      no_typed : {g : List ℕ} → AllTyped g no_terms []
      more_typed : {g : List ℕ} {t : FlatTerm} {ts : FlatTerms} {d : ℕ} {ds : List ℕ} → Typed g t (of_data d) → AllTyped g ts ds → AllTyped g (more_terms t ts) (d ∷ ds)

    -- bindings, and the types of all that is bound after them; their patterns match each value
    pub data LetsTyped : List ℕ → FlatLets → List ℕ → Type 0 where
      no_lets_typed : {g : List ℕ} → LetsTyped g no_lets g
      more_lets_typed : {g : List ℕ} {p : FlatPattern} {t : FlatTerm} {others : FlatLets} {inner : List ℕ} (d : ℕ) (ds : List ℕ) → Typed g t (of_data d) → pattern_types types p d ≡ Some ds
          → ((v : Val) → Fits types d v → (xs : List Val) × (matched p v ≡ taken xs)) → LetsTyped (g ++ ds) others inner → LetsTyped g (more_lets p t others) inner

    pub data RowsTyped : List ℕ → List ℕ → FlatRows → Kind → Type 0 where
      no_rows_typed : {g ds : List ℕ} {k : Kind} → RowsTyped g ds no_rows k
      more_rows_typed : {g ds : List ℕ} {ps : FlatPatterns} {lets : FlatLets} {arms : FlatArms} {others : FlatRows} {k : Kind} (es inner : List ℕ) → patterns_types types ps ds ≡ Some es → LetsTyped (g ++ es) lets inner → ArmsTyped inner arms k
          → RowsTyped g ds others k → RowsTyped g ds (more_rows ps lets arms others) k

    pub data ArmsTyped : List ℕ → FlatArms → Kind → Type 0 where
      body_typed : {g : List ℕ} {t : FlatTerm} {k : Kind} → Typed g t k → ArmsTyped g (body_arm t) k
      no_arms_typed : {g : List ℕ} {k : Kind} → ArmsTyped g no_arms k
      more_arms_typed : {g : List ℕ} {c t : FlatTerm} {others : FlatArms} {k : Kind} → Typed g c (of_data types.truth) → Typed g t k → ArmsTyped g others k → ArmsTyped g (more_arms c t others) k

  -- a function for each signature
  pub record FunctionTyped (i : ℕ) (s : Sign) : Type 0 where
    pub function : FlatFunction
    pub found : function_at i flat_functions ≡ Some function
    pub counted : length function.params ≡ length s.params
    pub typed : Typed s.params function.body s.kind

  -- a system with these types of inputs and outputs
  pub data SystemTyped : System ℕ ℕ → ℕ → ℕ → Type 0 where
    leaf_typed : {k i o : ℕ} (d : ℕ) → signs k ≡ Some (record { params = []; kind = doing (device i o) [] d }) → SystemTyped (leaf k) i o
    pair_typed : {a b : System ℕ ℕ} {i o : ℕ} (i' i'' o' o'' : ℕ) → ((tag : ℕ) (ds : List ℕ) → types.fields i tag ≡ Some ds → ds ≡ i' ∷ i'' ∷ []) → types.fields o 0 ≡ Some (o' ∷ o'' ∷ [])
        → SystemTyped a i' o' → SystemTyped b i'' o'' → SystemTyped (side_by_side a b) i o
    fed_back_typed : {f g : ℕ} {a : System ℕ ℕ} {i o : ℕ} (i' o' : ℕ) → signs f ≡ Some (record { params = o' ∷ []; kind = of_data o }) → signs g ≡ Some (record { params = o' ∷ i ∷ []; kind = of_data i' })
        → SystemTyped a i' o' → SystemTyped (fed_back f g a) i o
