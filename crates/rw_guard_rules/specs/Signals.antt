-- What a must-signal term is; the calls that a term holds, each with its path; guarded calls and calls in tail position; and ranks.
use Rattle.std.specs.List.{AllByRecursion}
use Rattle.std.specs.Prelude.{◌≡◌, ℕ, ◌≤◌, ◌<◌, List, [], ◌∷◌, ◌++◌, Some, ◌⊎◌}
use Rattle.rw_core_flat.specs.Terms.{FlatTerm, local_term, built_term, case_term, let_term, call_term, mark_term, return_term, get_term, put_term, lift_term, bind_term, signal_term, extrude_term, FlatTerms, no_terms, more_terms}
use Rattle.rw_core_flat.specs.Terms.{FlatPatterns, FlatLets, no_lets, more_lets, FlatRows, no_rows, more_rows, FlatArms, body_arm, no_arms, more_arms}
use Rattle.rw_core_flat.specs.Programs.{FlatFunction, function_at}

-- == Must-signal: the least set that is closed under these rules ==

module _ (functions : List FlatFunction) where
  mutual
    pub data Signals : FlatTerm → Type 0 where
      signals_here : {t : FlatTerm} → Signals (signal_term t)
      signals_left : {t u : FlatTerm} → Signals t → Signals (bind_term t u)
      signals_right : {t u : FlatTerm} → Signals u → Signals (bind_term t u)
      signals_case : {ts : FlatTerms} {rows : FlatRows} → RowsSignal rows → Signals (case_term ts rows)
      signals_let : {lets : FlatLets} {t : FlatTerm} → Signals t → Signals (let_term lets t)
      signals_mark : {t : FlatTerm} → Signals t → Signals (mark_term t)
      signals_call : {i : ℕ} {ts : FlatTerms} (f : FlatFunction) → function_at i functions ≡ Some f → Signals f.body → Signals (call_term i ts)
      signals_extrude : {d s : FlatTerm} → Signals d → Signals (extrude_term d s)

    -- all bodies do
    pub data RowsSignal : FlatRows → Type 0 where
      no_row_left : RowsSignal no_rows
      each_row : {ps : FlatPatterns} {lets : FlatLets} {arms : FlatArms} {others : FlatRows} → ArmsSignal arms → RowsSignal others → RowsSignal (more_rows ps lets arms others)

    pub data ArmsSignal : FlatArms → Type 0 where
      the_body : {t : FlatTerm} → Signals t → ArmsSignal (body_arm t)
      no_arm_left : ArmsSignal no_arms
      each_arm : {g t : FlatTerm} {others : FlatArms} → Signals t → ArmsSignal others → ArmsSignal (more_arms g t others)

-- == The calls that a term holds ==

-- a step from a part outwards: from the right part of a bind, whose left part is given; from another part in tail position; or from any other part
pub data Step : Type 0 where
  right_of : FlatTerm → Step
  inward : Step
  aside : Step

-- a call: its path, from the call outwards to the whole body, and who is called
pub record Held : Type 0 where
  pub path : List Step
  pub callee : ℕ

abbrev mutual
  pub calls_in : List Step → FlatTerm → List Held
  calls_in path (local_term k) = []
  calls_in path (built_term type place ts) = calls_in_all (aside ∷ path) ts
  calls_in path (case_term ts rows) = calls_in_all (aside ∷ path) ts ++ calls_in_rows path rows
  calls_in path (let_term lets t) = calls_in_lets (aside ∷ path) lets ++ calls_in (inward ∷ path) t
  calls_in path (call_term i ts) = record { path = path; callee = i } ∷ calls_in_all (aside ∷ path) ts
  calls_in path (mark_term t) = calls_in (inward ∷ path) t
  calls_in path (return_term t) = calls_in (aside ∷ path) t
  calls_in path get_term = []
  calls_in path (put_term t) = calls_in (aside ∷ path) t
  calls_in path (lift_term t) = calls_in (aside ∷ path) t
  calls_in path (bind_term t u) = calls_in (aside ∷ path) t ++ calls_in (right_of t ∷ path) u
  calls_in path (signal_term t) = calls_in (aside ∷ path) t
  calls_in path (extrude_term d s) = calls_in (aside ∷ path) d ++ calls_in (aside ∷ path) s

  pub calls_in_all : List Step → FlatTerms → List Held
  calls_in_all path no_terms = []
  calls_in_all path (more_terms t ts) = calls_in path t ++ calls_in_all path ts

  pub calls_in_lets : List Step → FlatLets → List Held
  calls_in_lets path no_lets = []
  calls_in_lets path (more_lets p t others) = calls_in path t ++ calls_in_lets path others

  pub calls_in_rows : List Step → FlatRows → List Held
  calls_in_rows path no_rows = []
  calls_in_rows path (more_rows ps lets arms others) = calls_in_lets (aside ∷ path) lets ++ (calls_in_arms path arms ++ calls_in_rows path others)

  pub calls_in_arms : List Step → FlatArms → List Held
  calls_in_arms path (body_arm t) = calls_in (inward ∷ path) t
  calls_in_arms path no_arms = []
  calls_in_arms path (more_arms g t others) = calls_in (aside ∷ path) g ++ (calls_in (inward ∷ path) t ++ calls_in_arms path others)

-- on its path a guarded call stands in the right part of a bind whose left part is must-signal
abbrev pub Guarded : List FlatFunction → List Step → Type 0
Guarded functions [] = ⊥
Guarded functions (right_of t ∷ path) = Signals functions t ⊎ Guarded functions path
Guarded functions (inward ∷ path) = Guarded functions path
Guarded functions (aside ∷ path) = Guarded functions path

-- a path of steps that keep the tail position
abbrev pub IsTail : List Step → Type 0
IsTail [] = Unit {0}
IsTail (right_of t ∷ path) = IsTail path
IsTail (inward ∷ path) = IsTail path
IsTail (aside ∷ path) = ⊥

-- == Ranks ==

-- numbers for the functions, so that each unguarded call goes to a smaller one
pub record CallsEnd (functions : List FlatFunction) : Type 0 where
  pub rank : ℕ → ℕ
  pub most : ℕ
  pub bounded : (i : ℕ) → rank i ≤ most
  pub falls : (i : ℕ) (f : FlatFunction) → function_at i functions ≡ Some f → AllByRecursion (λ c. (Guarded functions c.path → ⊥) → rank c.callee < rank i) (calls_in [] f.body)
