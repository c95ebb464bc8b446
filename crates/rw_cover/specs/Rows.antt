-- The rows of patterns that clauses give, and which of them count (Haskell 2010 Report, sections 3.13, 3.17 and 4.4.3.1).
use Rattle.std.specs.Prelude.{ℕ, List, [], ◌∷◌, map, length, get_or, Bool, true, false, ◌&&◌, nat_eq, Option, Some, if◌then◌else◌, codes}
use Rattle.std.specs.List.{flat_map}
use Rattle.rw_scope_rules.specs.declared.binding.Binding.{Binding}
use Rattle.rw_scope_rules.specs.declared.binding.Binding.TheVariants.{Declared, Constructor as Constructs}
use Rattle.rw_scope_rules.specs.declared.binding.Bound.{Bound}
use Rattle.rw_cover.specs.declared.known.Known.{Known}
use Rattle.rw_tree.specs.Patterns.{Pattern, wildcard, variable_pattern, constructor_pattern, tuple_pattern, Patterns}
use Rattle.rw_tree.specs.Patterns.{no_patterns as no_tree_patterns, more_patterns as more_tree_patterns}
use Rattle.rw_tree.specs.Trees.{Expression, variable, constructor}
use Rattle.rw_tree.specs.Trees.{Alternative, alternative, RightSide, plain_side, guarded_side, GuardedBody, guarded_body, GuardedBodies, no_bodies, more_bodies}
use Rattle.rw_tree.specs.Declarations.{Declaration, data_declaration}
use Rattle.rw_scope_rules.specs.Names.{first_named}
use Rattle.rw_scope_rules.specs.Bindings.{tops_of}
use Rattle.rw_cover_matrix.specs.Matching.{PlainPattern, anything, constructed, PlainPatterns, no_patterns, more_patterns}

-- == What the declarations say ==

-- how many constructors a declaration has
abbrev pub constructor_count : {X : Type 0} → Declaration X → ℕ
constructor_count (data_declaration a x params constructors) = length constructors
constructor_count _ = 0

-- by the number of the declaration
abbrev pub counts_of : {X : Type 0} → List (Declaration X) → List ℕ
counts_of decls = map constructor_count decls

-- what the names `otherwise` and `True` are bound to at top level: the prelude, which stands first, declares them
abbrev pub otherwise_of : {X : Type 0} → List (Declaration X) → Option Binding
otherwise_of decls = first_named (codes "otherwise") (tops_of decls).variables

abbrev pub truth_of : {X : Type 0} → List (Declaration X) → Option Binding
truth_of decls = first_named (codes "True") (tops_of decls).constructors

-- == Patterns ==

-- a constructor, by what its name is bound to: its place, and how many its declaration has. In a scoped tree it is bound to one
abbrev pub built_by : List ℕ → Option Binding → PlainPatterns → PlainPattern
built_by counts (Some (Constructs decl place)) parts = constructed place (get_or counts decl 0) parts
built_by counts _ parts = anything

-- a pattern of a bound tree without its names. A tuple is the one constructor of its type
abbrev mutual
  pub matrix_pattern : List ℕ → Pattern Bound → PlainPattern
  matrix_pattern counts (wildcard a) = anything
  matrix_pattern counts (variable_pattern a x) = anything
  matrix_pattern counts (constructor_pattern a c parts) = built_by counts a.bound (matrix_parts counts parts)
  matrix_pattern counts (tuple_pattern a parts) = constructed 0 1 (matrix_parts counts parts)

  pub matrix_parts : List ℕ → Patterns Bound → PlainPatterns
  matrix_parts counts no_tree_patterns = no_patterns
  matrix_parts counts (more_tree_patterns p ps) = more_patterns (matrix_pattern counts p) (matrix_parts counts ps)

abbrev pub matrix_row : List ℕ → List (Pattern Bound) → List PlainPattern
matrix_row counts pats = map (matrix_pattern counts) pats

-- == Which rows count ==

-- whether a name is bound to this function or constructor
abbrev pub is_bound_to : Option Binding → Option Binding → Bool
is_bound_to (Some (Declared m)) (Some (Declared n)) = nat_eq m n
is_bound_to (Some (Constructs m j)) (Some (Constructs n k)) = nat_eq m n && nat_eq j k
is_bound_to _ _ = false

-- what is known to hold: what `otherwise` and `True` are bound to
abbrev pub known_of : {X : Type 0} → List (Declaration X) → Known
known_of decls = record { otherwise = otherwise_of decls; truth = truth_of decls }

-- whether a guard is known to hold
abbrev pub always_holds : Known → Expression Bound → Bool
always_holds known (variable a x) = is_bound_to a.bound known.otherwise
always_holds known (constructor a c) = is_bound_to a.bound known.truth
always_holds known _ = false

abbrev pub test_of : {X : Type 0} → GuardedBody X → Expression X
test_of (guarded_body test body) = test

-- whether the last of some guards is known to hold
abbrev pub last_holds : Known → GuardedBodies Bound → Bool
last_holds known no_bodies = false
last_holds known (more_bodies b no_bodies) = always_holds known (test_of b)
last_holds known (more_bodies b (more_bodies c bs)) = last_holds known (more_bodies c bs)

-- whether a right side is taken whenever the patterns match: it has no guards, or the last one is known to hold
abbrev pub is_total : Known → RightSide Bound → Bool
is_total known (plain_side body) = true
is_total known (guarded_side bodies) = last_holds known bodies

-- the row of a clause or alternative, if it counts
abbrev pub counted_row : List ℕ → Known → Alternative Bound → List (List PlainPattern)
counted_row counts known (alternative a pats side wheres) = if is_total known side then matrix_row counts pats ∷ [] else []

abbrev pub counted_rows : List ℕ → Known → List (Alternative Bound) → List (List PlainPattern)
counted_rows counts known clauses = flat_map (counted_row counts known) clauses
