-- The rules of guarded programs, each over the calls that bodies hold; must-signal as a set of functions; weight and depth.
use Rattle.std.specs.List.{list_any}
use Rattle.std.specs.Prelude.{◌≡◌, ℕ, ◌+◌, max, List, [], ◌∷◌, Option, Some, None, Bool, true, false, ◌&&◌, ◌||◌, if◌then◌else◌, ◌⊎◌}
use Rattle.rw_core_flat.specs.Terms.{FlatTerm, local_term, built_term, case_term, let_term, call_term, mark_term, return_term, get_term, put_term, lift_term, bind_term, signal_term, extrude_term, FlatTerms, no_terms, more_terms}
use Rattle.rw_core_flat.specs.Terms.{FlatPattern, any_pattern, bound_pattern, built_pattern, FlatPatterns, no_patterns, more_patterns, FlatLets, no_lets, more_lets, FlatRows, no_rows, more_rows, FlatArms, body_arm, no_arms, more_arms}
use Rattle.rw_core_flat.specs.Programs.{FlatFunction, function_at}
use Rattle.rw_guard_rules.specs.Signals.{Signals, Step, right_of, inward, aside, Held, calls_in, Guarded, IsTail}

-- == Calls among functions ==

abbrev pub AnyByRecursion : {A : Type 0} → (A → Type 0) → List A → Type 0
AnyByRecursion P [] = ⊥
AnyByRecursion P (x ∷ xs) = P x ⊎ AnyByRecursion P xs

-- the body of `i` holds a call of `j` on such a path
abbrev pub Calls : List FlatFunction → (List Step → Type 0) → ℕ → ℕ → Type 0
Calls functions P i j = (f : FlatFunction) × (function_at i functions ≡ Some f) × AnyByRecursion (λ c. (c.callee ≡ j) × P c.path) (calls_in [] f.body)

-- from `i` to `j` by one step or more
pub data Leads (R : ℕ → ℕ → Type 0) : ℕ → ℕ → Type 0 where
  one_step : {i j : ℕ} → R i j → Leads R i j
  more_steps : {i k : ℕ} (j : ℕ) → R i j → Leads R j k → Leads R i k

abbrev pub OnAnyPath : List Step → Type 0
OnAnyPath path = Unit {0}

abbrev pub Unguarded : List FlatFunction → List Step → Type 0
Unguarded functions path = Guarded functions path → ⊥

-- an unguarded call of a device
abbrev pub UnguardedDevice : List FlatFunction → (ℕ → Bool) → ℕ → ℕ → Type 0
UnguardedDevice functions devices i j = (devices j ≡ true) × Calls functions (Unguarded functions) i j

pub record KeepsRules (functions : List FlatFunction) (devices : ℕ → Bool) : Type 0 where
  -- a pure or state function lies on no cycle of calls
  pub plain_end : (i : ℕ) → devices i ≡ false → Leads (Calls functions OnAnyPath) i i → ⊥
  -- a call of a device that isn't in tail position lies on no cycle of calls
  pub tails : (i j : ℕ) → devices j ≡ true → Calls functions (λ path. IsTail path → ⊥) i j → (i ≡ j) ⊎ Leads (Calls functions OnAnyPath) j i → ⊥
  -- unguarded calls of devices form no cycle
  pub guards : (i : ℕ) → Leads (UnguardedDevice functions devices) i i → ⊥

-- == Must-signal, as a set of functions ==

module _ (set : ℕ → Bool) where
  abbrev mutual
    pub signals_by : FlatTerm → Bool
    signals_by (local_term k) = false
    signals_by (built_term type place ts) = false
    signals_by (case_term ts rows) = rows_signal_by rows
    signals_by (let_term lets t) = signals_by t
    signals_by (call_term i ts) = set i
    signals_by (mark_term t) = signals_by t
    signals_by (return_term t) = false
    signals_by get_term = false
    signals_by (put_term t) = false
    signals_by (lift_term t) = false
    signals_by (bind_term t u) = signals_by t || signals_by u
    signals_by (signal_term t) = true
    signals_by (extrude_term d s) = signals_by d

    pub rows_signal_by : FlatRows → Bool
    rows_signal_by no_rows = true
    rows_signal_by (more_rows ps lets arms others) = arms_signal_by arms && rows_signal_by others

    pub arms_signal_by : FlatArms → Bool
    arms_signal_by (body_arm t) = signals_by t
    arms_signal_by no_arms = true
    arms_signal_by (more_arms g t others) = signals_by t && arms_signal_by others

  abbrev pub guarded_by : List Step → Bool
  guarded_by [] = false
  guarded_by (right_of t ∷ path) = signals_by t || guarded_by path
  guarded_by (inward ∷ path) = guarded_by path
  guarded_by (aside ∷ path) = guarded_by path

-- closed under the rules; and the least such set, which is what a worklist gives
abbrev pub IsClosed : List FlatFunction → (ℕ → Bool) → Type 0
IsClosed functions set = (i : ℕ) (f : FlatFunction) → function_at i functions ≡ Some f → signals_by set f.body ≡ true → set i ≡ true

pub record IsMustSignal (functions : List FlatFunction) (set : ℕ → Bool) : Type 0 where
  pub closed : IsClosed functions set
  pub derived : (i : ℕ) → set i ≡ true → (f : FlatFunction) × (function_at i functions ≡ Some f) × Signals functions f.body

-- == Weight ==

abbrev mutual
  pub pattern_nodes : FlatPattern → ℕ
  pattern_nodes any_pattern = 1
  pattern_nodes bound_pattern = 1
  pattern_nodes (built_pattern place ps) = 1 + patterns_nodes ps

  pub patterns_nodes : FlatPatterns → ℕ
  patterns_nodes no_patterns = 0
  patterns_nodes (more_patterns p ps) = pattern_nodes p + patterns_nodes ps

-- a variable that is bound is no node; another pattern is the row of a case
abbrev pub bound_nodes : FlatPattern → ℕ
bound_nodes any_pattern = 1
bound_nodes bound_pattern = 0
bound_nodes (built_pattern place ps) = 1 + patterns_nodes ps

abbrev mutual
  pub nodes : FlatTerm → ℕ
  nodes (local_term k) = 1
  nodes (built_term type place ts) = 1 + nodes_all ts
  nodes (case_term ts rows) = 1 + (nodes_all ts + nodes_rows rows)
  nodes (let_term lets t) = nodes_lets lets + nodes t
  nodes (call_term i ts) = 1 + nodes_all ts
  nodes (mark_term t) = 1 + nodes t
  nodes (return_term t) = 1 + nodes t
  nodes get_term = 1
  nodes (put_term t) = 1 + nodes t
  nodes (lift_term t) = 1 + nodes t
  nodes (bind_term t u) = 1 + (nodes t + nodes u)
  nodes (signal_term t) = 1 + nodes t
  nodes (extrude_term d s) = 1 + (nodes d + nodes s)

  pub nodes_all : FlatTerms → ℕ
  nodes_all no_terms = 0
  nodes_all (more_terms t ts) = nodes t + nodes_all ts

  pub nodes_lets : FlatLets → ℕ
  nodes_lets no_lets = 0
  nodes_lets (more_lets p t others) = 1 + (bound_nodes p + (nodes t + nodes_lets others))

  pub nodes_rows : FlatRows → ℕ
  nodes_rows no_rows = 0
  nodes_rows (more_rows ps lets arms others) = patterns_nodes ps + (nodes_lets lets + (nodes_arms arms + nodes_rows others))

  pub nodes_arms : FlatArms → ℕ
  nodes_arms (body_arm t) = nodes t
  nodes_arms no_arms = 0
  nodes_arms (more_arms g t others) = nodes g + (nodes t + nodes_arms others)

-- a guarded call counts one, another one as much as who is called
abbrev pub weight_of_calls : (ℕ → Bool) → (ℕ → ℕ) → List Held → ℕ
weight_of_calls set weights [] = 0
weight_of_calls set weights (c ∷ cs) = (if guarded_by set c.path then 1 else weights c.callee) + weight_of_calls set weights cs

-- == Depth ==

module _ (set : ℕ → Bool) (depths : ℕ → ℕ) where
  abbrev mutual
    pub depth : List Step → FlatTerm → ℕ
    depth path (local_term k) = 1
    depth path (built_term type place ts) = 1 + depth_all (aside ∷ path) ts
    depth path (case_term ts rows) = 1 + max (depth_all (aside ∷ path) ts) (depth_rows path rows)
    depth path (let_term lets t) = depth_lets path (depth (inward ∷ path) t) lets
    depth path (call_term i ts) = 1 + max (depth_all (aside ∷ path) ts) (if guarded_by set path then 1 else depths i)
    depth path (mark_term t) = 1 + depth (inward ∷ path) t
    depth path (return_term t) = 1 + depth (aside ∷ path) t
    depth path get_term = 1
    depth path (put_term t) = 1 + depth (aside ∷ path) t
    depth path (lift_term t) = 1 + depth (aside ∷ path) t
    depth path (bind_term t u) = 1 + max (depth (aside ∷ path) t) (depth (right_of t ∷ path) u)
    depth path (signal_term t) = 1 + depth (aside ∷ path) t
    depth path (extrude_term d s) = 1 + max (depth (aside ∷ path) d) (depth (aside ∷ path) s)

    pub depth_all : List Step → FlatTerms → ℕ
    depth_all path no_terms = 0
    depth_all path (more_terms t ts) = max (depth path t) (depth_all path ts)

    -- each binding stands around those after it and the inmost part
    pub depth_lets : List Step → ℕ → FlatLets → ℕ
    depth_lets path inmost no_lets = inmost
    depth_lets path inmost (more_lets p t others) = 1 + max (depth (aside ∷ path) t) (depth_lets path inmost others)

    pub depth_rows : List Step → FlatRows → ℕ
    depth_rows path no_rows = 0
    depth_rows path (more_rows ps lets arms others) = max (depth_lets path (depth_arms path arms) lets) (depth_rows path others)

    pub depth_arms : List Step → FlatArms → ℕ
    depth_arms path (body_arm t) = depth (inward ∷ path) t
    depth_arms path no_arms = 0
    depth_arms path (more_arms g t others) = max (depth (aside ∷ path) g) (max (depth (inward ∷ path) t) (depth_arms path others))

-- weights and depths of the functions: those that meet their equations, of which there is one by the ranks
pub record IsWeighed (functions : List FlatFunction) (set : ℕ → Bool) (weights depths : ℕ → ℕ) : Type 0 where
  pub weight : (i : ℕ) (f : FlatFunction) → function_at i functions ≡ Some f → weights i ≡ nodes f.body + weight_of_calls set weights (calls_in [] f.body)
  pub deep : (i : ℕ) (f : FlatFunction) → function_at i functions ≡ Some f → depths i ≡ depth set depths [] f.body

-- == Who waits for whom ==

-- who is called without a guard
abbrev pub open_callees : (ℕ → Bool) → List Held → List ℕ
open_callees set [] = []
open_callees set (c ∷ cs) = if guarded_by set c.path then open_callees set cs else c.callee ∷ open_callees set cs

abbrev pub callees_of : (ℕ → Bool) → Option FlatFunction → List ℕ
callees_of set None = []
callees_of set (Some f) = open_callees set (calls_in [] f.body)

-- the functions that the one with this number calls without a guard
abbrev pub graph_of : List FlatFunction → (ℕ → Bool) → ℕ → List ℕ
graph_of functions set i = callees_of set (function_at i functions)

-- each of the set waits for one of it
abbrev pub Stuck : (ℕ → List ℕ) → (ℕ → Bool) → Type 0
Stuck waits set = (i : ℕ) → set i ≡ true → list_any set (waits i) ≡ true
