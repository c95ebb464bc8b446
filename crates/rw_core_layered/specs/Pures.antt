-- Pure terms, and their values: by recursion on the term, over what calls give. A variable is the number of its binder on the way to its place.
use Rattle.std.specs.Prelude.{ℕ, List, [], ◌∷◌, ◌++◌, Option, Some}
use Rattle.rw_core.specs.Values.{Val, val, vals}
use Rattle.rw_core.specs.Options.{◌>>=◌}
use Rattle.rw_meaning.specs.Options.{Tried, stuck, passed_over, and_try, or_try, tried, what_is_taken}
use Rattle.rw_core_flat.specs.Terms.{FlatPattern, FlatPatterns}
use Rattle.rw_core_flat.specs.Meaning.{if_holds, matched, row_matched, value_at}

mutual
  pub data PureTerm : Type 0 where
    -- a variable
    pure_local : ℕ → PureTerm
    -- a data type, by its number in the table, and a constructor of it, by its place, with all its fields
    pure_con : ℕ → ℕ → PureTerms → PureTerm
    -- values matched against rows, of which the first that is taken counts
    pure_case : PureTerms → PureRows → PureTerm
    pure_let : PureLets → PureTerm → PureTerm
    -- a pure function, by its number, with all its arguments
    pure_call : ℕ → PureTerms → PureTerm

  pub data PureTerms : Type 0 where
    no_pures : PureTerms
    more_pures : PureTerm → PureTerms → PureTerms

  -- bindings in order: each value is matched against its pattern, whose variables the later ones see
  pub data PureLets : Type 0 where
    no_pure_lets : PureLets
    more_pure_lets : FlatPattern → PureTerm → PureLets → PureLets

  -- rows: patterns, what is bound before the guards, and the arms
  pub data PureRows : Type 0 where
    no_pure_rows : PureRows
    more_pure_rows : FlatPatterns → PureLets → PureArms → PureRows → PureRows

  -- a body; or guards with their bodies, after which the row is passed over
  pub data PureArms : Type 0 where
    pure_body : PureTerm → PureArms
    no_pure_arms : PureArms
    more_pure_arms : PureTerm → PureTerm → PureArms → PureArms

-- what calls give: by the number of the function, and its arguments
abbrev pub Calling : Type 0
Calling = ℕ → List Val → Option Val

-- an environment has the values of all variables
module _ (calls : Calling) where
  abbrev mutual
    pub value : PureTerm → List Val → Option Val
    value (pure_local k) env = value_at k env
    value (pure_con type place ts) env = do vs ← values ts env; Some (val place (vals vs))
    value (pure_case ts rows) env = do vs ← values ts env; what_is_taken (rows_value rows env vs)
    value (pure_let lets t) env = do inner ← bound lets env; value t inner
    value (pure_call i ts) env = do vs ← values ts env; calls i vs

    pub values : PureTerms → List Val → Option (List Val)
    values no_pures env = Some []
    values (more_pures t ts) env = do v ← value t env; vs ← values ts env; Some (v ∷ vs)

    -- the environment after bindings
    pub bound : PureLets → List Val → Option (List Val)
    bound no_pure_lets env = Some env
    bound (more_pure_lets p t others) env = do v ← value t env; xs ← what_is_taken (matched p v); bound others (env ++ xs)

    -- the first row that is taken
    pub rows_value : PureRows → List Val → List Val → Tried Val
    rows_value no_pure_rows env vs = passed_over
    rows_value (more_pure_rows ps lets arms others) env vs =
        or_try (and_try (row_matched ps vs) (λ xs. and_try (tried (bound lets (env ++ xs))) (λ inner. arms_value arms inner))) (rows_value others env vs)

    pub arms_value : PureArms → List Val → Tried Val
    arms_value (pure_body t) env = tried (value t env)
    arms_value no_pure_arms env = passed_over
    arms_value (more_pure_arms g t others) env = and_try (tried (value g env)) (λ v. if_holds v (tried (value t env)) (arms_value others env) stuck)
