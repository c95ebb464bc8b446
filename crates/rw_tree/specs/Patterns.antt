-- Patterns as plain data (Haskell 2010 Report, section 3.17).
use Rattle.std.specs.Prelude.{ℕ, List, [], ◌∷◌, map}
use Rattle.rw_tree.specs.declared.pattern.Pat.{Pat, fold-Pat}
use Rattle.rw_tree.specs.declared.pattern.Pat.TheOpen.{Pat-F}

mutual
  -- a pattern, with something of type X at each node
  pub data Pattern (X : Type 0) : Type 0 where
    wildcard : X → Pattern X
    variable_pattern : X → List ℕ → Pattern X
    constructor_pattern : X → List ℕ → Patterns X → Pattern X
    tuple_pattern : X → Patterns X → Pattern X

  -- a list of them
  pub data Patterns (X : Type 0) : Type 0 where
    no_patterns : Patterns X
    more_patterns : Pattern X → Patterns X → Patterns X

-- a list of patterns as the parts of a pattern
abbrev pub pattern_parts : {X : Type 0} → List (Pattern X) → Patterns X
pattern_parts [] = no_patterns
pattern_parts (p ∷ ps) = more_patterns p (pattern_parts ps)

-- one level of a pattern, with each part already in its plain form
abbrev pub pattern_step : {A X : Type 0} → (A → X) → Pat-F A (Pattern X) → Pattern X
pattern_step see (Pat-F.Wild a) = wildcard (see a)
pattern_step see (Pat-F.Var a name) = variable_pattern (see a) name
pattern_step see (Pat-F.Con a name parts) = constructor_pattern (see a) name (pattern_parts parts)
pattern_step see (Pat-F.Tuple a parts) = tuple_pattern (see a) (pattern_parts parts)

-- the plain form of a pattern, with what is seen of each annotation
abbrev pub pattern : {A X : Type 0} → (A → X) → Pat A → Pattern X
pattern {A} {X} see = fold-Pat A (Pattern X) (pattern_step see)

-- the plain forms of a list of them
abbrev pub patterns : {A X : Type 0} → (A → X) → List (Pat A) → List (Pattern X)
patterns see pats = map (pattern see) pats
