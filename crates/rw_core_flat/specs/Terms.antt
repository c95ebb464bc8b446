-- Terms of the flat program: first order, in which each variable is the number of its binder on the way to its place. The parameters come first,
-- then what binds stand around it, from outside inwards.
use Rattle.std.specs.Prelude.{ℕ}

mutual
  -- a pattern: anything, anything under a variable, or a constructor, by its place in its declaration. Variables are numbered from left to right
  pub data FlatPattern : Type 0 where
    any_pattern : FlatPattern
    bound_pattern : FlatPattern
    built_pattern : ℕ → FlatPatterns → FlatPattern

  pub data FlatPatterns : Type 0 where
    no_patterns : FlatPatterns
    more_patterns : FlatPattern → FlatPatterns → FlatPatterns

mutual
  pub data FlatTerm : Type 0 where
    -- a variable
    local_term : ℕ → FlatTerm
    -- a data type, by its number in the table, and a constructor of it, by its place, with all its fields; a tuple has place 0
    built_term : ℕ → ℕ → FlatTerms → FlatTerm
    -- values matched against rows, of which the first that is taken counts
    case_term : FlatTerms → FlatRows → FlatTerm
    let_term : FlatLets → FlatTerm → FlatTerm
    -- a flat function, by its number, with all its arguments
    call_term : ℕ → FlatTerms → FlatTerm
    -- what stood in place of a call that was expanded
    mark_term : FlatTerm → FlatTerm
    -- the operations; the variable of a bind is bound in its second part
    return_term : FlatTerm → FlatTerm
    get_term : FlatTerm
    put_term : FlatTerm → FlatTerm
    lift_term : FlatTerm → FlatTerm
    bind_term : FlatTerm → FlatTerm → FlatTerm
    signal_term : FlatTerm → FlatTerm
    extrude_term : FlatTerm → FlatTerm → FlatTerm

  pub data FlatTerms : Type 0 where
    no_terms : FlatTerms
    more_terms : FlatTerm → FlatTerms → FlatTerms

  -- bindings in order: each value is matched against its pattern, whose variables the later ones see
  pub data FlatLets : Type 0 where
    no_lets : FlatLets
    more_lets : FlatPattern → FlatTerm → FlatLets → FlatLets

  -- rows: patterns, what is bound before the guards, and the arms
  pub data FlatRows : Type 0 where
    no_rows : FlatRows
    more_rows : FlatPatterns → FlatLets → FlatArms → FlatRows → FlatRows

  -- a body; or guards with their bodies, after which the row is passed over
  pub data FlatArms : Type 0 where
    body_arm : FlatTerm → FlatArms
    no_arms : FlatArms
    more_arms : FlatTerm → FlatTerm → FlatArms → FlatArms
