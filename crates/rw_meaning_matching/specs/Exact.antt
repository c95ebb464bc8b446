-- Patterns that fit a shape exactly, part by part, as typing has them (Haskell 2010 Report, section 3.17.1: a constructor pattern has
-- as many parts as the constructor has fields).
use Rattle.std.specs.Prelude.{ℕ, ◌<◌, List, [], ◌∷◌, Option, Some, None}
use Rattle.rw_scope_rules.specs.declared.binding.Binding.{Binding}
use Rattle.rw_scope_rules.specs.declared.binding.Binding.TheVariants.{Constructor as Constructs}
use Rattle.rw_scope_rules.specs.declared.binding.Bound.{Bound}
use Rattle.rw_tree.specs.Patterns.{Pattern, wildcard, variable_pattern, constructor_pattern, tuple_pattern, Patterns, no_patterns, more_patterns}
use Rattle.rw_types_rules.specs.Relabelled.{relabelled_pattern, relabelled_row}
use Rattle.rw_types_rules.specs.TypedTrees.{TypedNode}
use Rattle.rw_cover_matrix.specs.Values.{Shape, data_of, Shapes, no_shapes, more_shapes, one_choice, choices_count, fields_of}

-- a name is bound to a constructor, of whose place this holds
abbrev pub IsConstructorAt : Option Binding → (ℕ → Type 0) → Type 0
IsConstructorAt (Some (Constructs n place)) P = P place
IsConstructorAt _ P = ⊥

-- a name is bound to a constructor, if to anything
abbrev pub MayNameConstructor : Option Binding → Type 0
MayNameConstructor None = Unit {0}
MayNameConstructor (Some (Constructs n place)) = Unit {0}
MayNameConstructor _ = ⊥

-- in a pattern, each name of a constructor is bound to a constructor, if to anything, as `bound_program` binds it. A typed pattern has no name that is
-- bound to nothing
abbrev mutual
  pub NamesConstructors : Pattern Bound → Type 0
  NamesConstructors (wildcard a) = Unit {0}
  NamesConstructors (variable_pattern a x) = Unit {0}
  NamesConstructors (constructor_pattern a c parts) = MayNameConstructor a.bound × PartsNameConstructors parts
  NamesConstructors (tuple_pattern a parts) = PartsNameConstructors parts

  pub PartsNameConstructors : Patterns Bound → Type 0
  PartsNameConstructors no_patterns = Unit {0}
  PartsNameConstructors (more_patterns p ps) = NamesConstructors p × PartsNameConstructors ps

-- a constructor's pattern is one of the type's own constructors, with a part for each of its fields; a tuple's has a part for each of its own
abbrev mutual
  pub IsExactly : Pattern Bound → Shape → Type 0
  IsExactly (wildcard a) shape = Unit {0}
  IsExactly (variable_pattern a x) shape = Unit {0}
  IsExactly (constructor_pattern a c parts) (data_of choices) =
      IsConstructorAt a.bound (λ place. (place < choices_count choices) × AreExactly parts (fields_of place choices))
  IsExactly (tuple_pattern a parts) (data_of (one_choice columns)) = AreExactly parts columns
  IsExactly _ _ = ⊥

  pub AreExactly : Patterns Bound → Shapes → Type 0
  AreExactly no_patterns no_shapes = Unit {0}
  AreExactly (more_patterns p ps) (more_shapes shape columns) = IsExactly p shape × AreExactly ps columns
  AreExactly _ _ = ⊥

-- the patterns of a row fit the first of some columns
abbrev pub IsExactRow : List (Pattern Bound) → Shapes → Type 0
IsExactRow [] columns = Unit {0}
IsExactRow (p ∷ ps) no_shapes = ⊥
IsExactRow (p ∷ ps) (more_shapes shape columns) = IsExactly p shape × IsExactRow ps columns

-- a typed pattern, and a row of them, before they were typed
abbrev pub erased_pattern : Pattern TypedNode → Pattern Bound
erased_pattern p = relabelled_pattern (λ a. a.node) p

abbrev pub erased_row : List (Pattern TypedNode) → List (Pattern Bound)
erased_row pats = relabelled_row (λ a. a.node) pats
