-- What names stand for while an expression flattens, and the patterns, columns and groups of that; over any annotation of the nodes that tells what a name is
-- bound to.
use Rattle.std.specs.Prelude.{◌≡◌, ℕ, zero, suc, ◌+◌, ◌-◌, nat_le, List, [], ◌∷◌, length, Option, Some, None, if◌then◌else◌}
use Rattle.rw_scope_rules.specs.declared.binding.Binding.{Binding}
use Rattle.rw_scope_rules.specs.declared.binding.Binding.TheVariants.{Constructor as Constructs}
use Rattle.rw_scope_rules.specs.Bindings.{binding_variables}
use Rattle.rw_tree.specs.Patterns.{Pattern, wildcard, variable_pattern, constructor_pattern, tuple_pattern, Patterns, no_patterns, more_patterns}
use Rattle.rw_tree.specs.Trees.{Expression, Expressions, no_expressions, more_expressions, alternative, Alternatives, alternative_parts}
use Rattle.rw_tree.specs.Trees.{LocalBinding, local_signature, local_function, local_pattern, LocalBindings, no_bindings, more_bindings}
use Rattle.rw_tree.specs.Declarations.{Declaration, function_declaration}
use Rattle.rw_core_flat.specs.Terms.{FlatPattern, any_pattern, bound_pattern, built_pattern, FlatPatterns, no_patterns as no_flat_patterns, more_patterns as more_flat_patterns}
use Rattle.rw_core_flat.specs.Terms.{local_term, FlatTerms, no_terms, more_terms}

-- == What a name stands for ==

mutual
  -- a flat variable, by its number; an expression in an environment; clauses in an environment, which are put in place of each use; or nothing yet, as
  -- a name of a let group has before its binding is placed
  pub data Meant (X : Type 0) : Type 0 where
    flat : ℕ → Meant X
    suspended : Meants X → Expression X → Meant X
    local_use : Meants X → Alternatives X → Meant X
    unplaced : Meant X

  -- an environment, by the number of the name; also the arguments that an expression is applied to
  pub data Meants (X : Type 0) : Type 0 where
    no_meants : Meants X
    more_meants : Meant X → Meants X → Meants X

module _ {X : Type 0} where
  abbrev pub meant_at : ℕ → Meants X → Option (Meant X)
  meant_at k no_meants = None
  meant_at zero (more_meants m ms) = Some m
  meant_at (suc k) (more_meants m ms) = meant_at k ms

  abbrev pub joined_meants : Meants X → Meants X → Meants X
  joined_meants no_meants others = others
  joined_meants (more_meants m ms) others = more_meants m (joined_meants ms others)

  abbrev pub meant_count : Meants X → ℕ
  meant_count no_meants = 0
  meant_count (more_meants m ms) = suc (meant_count ms)

  -- the name with this number stands for this from now on
  abbrev pub placed : ℕ → Meant X → Meants X → Meants X
  placed k m no_meants = no_meants
  placed zero m (more_meants n ms) = more_meants m ms
  placed (suc k) m (more_meants n ms) = more_meants n (placed k m ms)

  abbrev pub all_unplaced : ℕ → Meants X
  all_unplaced zero = no_meants
  all_unplaced (suc n) = more_meants unplaced (all_unplaced n)

  -- parts of an expression as arguments
  abbrev pub suspended_parts : Meants X → Expressions X → Meants X
  suspended_parts env no_expressions = no_meants
  suspended_parts env (more_expressions e es) = more_meants (suspended env e) (suspended_parts env es)

  -- flat variables from this number on, so many of them
  abbrev pub flats : ℕ → ℕ → Meants X
  flats d zero = no_meants
  flats d (suc n) = more_meants (flat d) (flats (suc d) n)

  abbrev pub first_meants : ℕ → Meants X → Meants X
  first_meants zero ms = no_meants
  first_meants (suc n) no_meants = no_meants
  first_meants (suc n) (more_meants m ms) = more_meants m (first_meants n ms)

  abbrev pub later_meants : ℕ → Meants X → Meants X
  later_meants zero ms = ms
  later_meants (suc n) no_meants = no_meants
  later_meants (suc n) (more_meants m ms) = later_meants n ms

-- == Patterns ==

module _ {X : Type 0} (binding : X → Option Binding) where
  mutual
    -- a flat pattern for a pattern with so many variables
    pub data IsPattern : Pattern X → FlatPattern → ℕ → Type 0 where
      is_any : {a : X} → IsPattern (wildcard a) any_pattern 0
      is_variable : {a : X} {x : List ℕ} → IsPattern (variable_pattern a x) bound_pattern 1
      is_built : {a : X} {c : List ℕ} {parts : Patterns X} {pats : FlatPatterns} {n declared place : ℕ} → binding a ≡ Some (Constructs declared place) → ArePatterns parts pats n
          → IsPattern (constructor_pattern a c parts) (built_pattern place pats) n
      is_tuple : {a : X} {parts : Patterns X} {pats : FlatPatterns} {n : ℕ} → ArePatterns parts pats n → IsPattern (tuple_pattern a parts) (built_pattern 0 pats) n

    pub data ArePatterns : Patterns X → FlatPatterns → ℕ → Type 0 where
      none_are : ArePatterns no_patterns no_flat_patterns 0
      more_are : {p : Pattern X} {ps : Patterns X} {q : FlatPattern} {qs : FlatPatterns} {n m k : ℕ} → IsPattern p q n → ArePatterns ps qs m → k ≡ n + m
          → ArePatterns (more_patterns p ps) (more_flat_patterns q qs) k

-- the columns of rows: a value that is matched, or an argument that a variable of a row stands for
pub data Columns (X : Type 0) : Type 0 where
  no_columns : Columns X
  value_column : Columns X → Columns X
  other_column : Meant X → Columns X → Columns X

module _ {X : Type 0} (binding : X → Option Binding) where
  -- the patterns of a row in these columns, where the next flat variable has this number: what is matched, what the row's variables stand for, and the next number after them
  pub data AreColumns : ℕ → Columns X → List (Pattern X) → FlatPatterns → Meants X → ℕ → Type 0 where
    none_in : {d : ℕ} → AreColumns d no_columns [] no_flat_patterns no_meants d
    matched_in : {d n e : ℕ} {cols : Columns X} {p : Pattern X} {ps : List (Pattern X)} {q : FlatPattern} {qs : FlatPatterns} {ms : Meants X} → IsPattern binding p q n → AreColumns (n + d) cols ps qs ms e
        → AreColumns d (value_column cols) (p ∷ ps) (more_flat_patterns q qs) (joined_meants (flats d n) ms) e
    named_in : {d e : ℕ} {m : Meant X} {cols : Columns X} {a : X} {x : List ℕ} {ps : List (Pattern X)} {qs : FlatPatterns} {ms : Meants X} → AreColumns d cols ps qs ms e
        → AreColumns d (other_column m cols) (variable_pattern a x ∷ ps) qs (more_meants m ms) e
    ignored_in : {d e : ℕ} {m : Meant X} {cols : Columns X} {a : X} {ps : List (Pattern X)} {qs : FlatPatterns} {ms : Meants X} → AreColumns d cols ps qs ms e
        → AreColumns d (other_column m cols) (wildcard a ∷ ps) qs ms e

module _ {X : Type 0} where
  -- the columns of parameters, and the terms that are matched there
  pub data AreMatched : Meants X → Columns X → FlatTerms → Type 0 where
    none_matched : AreMatched no_meants no_columns no_terms
    flat_matched : {y : ℕ} {ms : Meants X} {cols : Columns X} {ts : FlatTerms} → AreMatched ms cols ts → AreMatched (more_meants (flat y) ms) (value_column cols) (more_terms (local_term y) ts)
    other_matched : {e : Expression X} {E ms : Meants X} {cols : Columns X} {ts : FlatTerms} → AreMatched ms cols ts → AreMatched (more_meants (suspended E e) ms) (other_column (suspended E e) cols) ts

  -- patterns that are variables, as many as there are parameters
  pub data AreVariables : List (Pattern X) → Meants X → Type 0 where
    none_variable : AreVariables [] no_meants
    more_variable : {a : X} {x : List ℕ} {ps : List (Pattern X)} {m : Meant X} {ms : Meants X} → AreVariables ps ms → AreVariables (variable_pattern a x ∷ ps) (more_meants m ms)

-- == Groups ==

module _ {X : Type 0} where
  -- the clauses of the name with this number in a let group, if it is a function's
  abbrev pub clauses_at : LocalBindings X → ℕ → Option (Alternatives X)
  clauses_at no_bindings k = None
  clauses_at (more_bindings (local_signature a x type) others) k = clauses_at others k
  clauses_at (more_bindings (local_function a x clauses) others) zero = Some clauses
  clauses_at (more_bindings (local_function a x clauses) others) (suc k) = clauses_at others k
  clauses_at (more_bindings (local_pattern a (alternative b pats body wheres)) others) k =
      if nat_le (suc k) (length (binding_variables (local_pattern a (alternative b pats body wheres)))) then None
      else clauses_at others (k - length (binding_variables (local_pattern a (alternative b pats body wheres))))

  -- a binding that stands in a let group, its first name under this number
  pub data StandsIn : LocalBindings X → ℕ → LocalBinding X → Type 0 where
    stands_here : {b : LocalBinding X} {bs : LocalBindings X} → StandsIn (more_bindings b bs) 0 b
    stands_later : {b c : LocalBinding X} {bs : LocalBindings X} {k m : ℕ} → StandsIn bs k b → m ≡ length (binding_variables c) + k → StandsIn (more_bindings c bs) m b

  -- names from this number on stand for these from now on
  abbrev pub placed_all : ℕ → Meants X → Meants X → Meants X
  placed_all k no_meants ms = ms
  placed_all k (more_meants x xs) ms = placed_all (suc k) xs (placed k x ms)

  -- the clauses of a declaration
  abbrev pub declared_clauses : Declaration X → Option (Alternatives X)
  declared_clauses (function_declaration a x clauses) = Some (alternative_parts clauses)
  declared_clauses _ = None
