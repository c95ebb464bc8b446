-- Values as evaluation and as the coverage matrix see them, and what stands for a value of the matrix (Haskell 2010 Report, section 3.17.2).
use Rattle.std.specs.Prelude.{List}
use Rattle.rw_scope_rules.specs.declared.binding.Bound.{Bound}
use Rattle.rw_tree.specs.Declarations.{Declaration}
use Rattle.rw_core.specs.Values.{Val, Vals, val, none, more}
use Rattle.rw_cover_matrix.specs.Values.{Shapes, no_shapes, more_shapes, Value, opaque_value, built, Values, no_values, more_values, IsValue}
use Rattle.rw_meaning.specs.Results.{datum, Thunk, Thunks, nothing, and_then}
use Rattle.rw_meaning.specs.Evaluation.{force}
use Rattle.rw_meaning.specs.Steps.{Gives}

-- a value of closed data as a value of the matrix
abbrev mutual
  pub matrix_value : Val → Value
  matrix_value (val place fields) = built place (matrix_values fields)

  pub matrix_values : Vals → Values
  matrix_values none = no_values
  matrix_values (more v vs) = more_values (matrix_value v) (matrix_values vs)

module _ (program : List (Declaration Bound)) where
  -- What is kept stands for a value of the matrix: it gives its constructor, with fields that stand for the value's, one by one. Of what can't be
  -- matched, as functions and computations, nothing is asked: it is never evaluated by matching
  abbrev mutual
    pub StandsFor : Thunk → Value → Type 0
    StandsFor t opaque_value = Unit {0}
    StandsFor t (built place fields) = (ts : Thunks) × Gives program (force t) (datum place ts) × StandForEach ts fields

    pub StandForEach : Thunks → Values → Type 0
    StandForEach nothing no_values = Unit {0}
    StandForEach (and_then t ts) (more_values v vs) = StandsFor t v × StandForEach ts vs
    StandForEach _ _ = ⊥

-- values of the first of some columns: as many as there are, and no more than columns
abbrev pub AreFirstValues : Values → Shapes → Type 0
AreFirstValues no_values columns = Unit {0}
AreFirstValues (more_values v vs) no_shapes = ⊥
AreFirstValues (more_values v vs) (more_shapes shape columns) = IsValue v shape × AreFirstValues vs columns

abbrev pub values_joined : Values → Values → Values
values_joined no_values others = others
values_joined (more_values v vs) others = more_values v (values_joined vs others)
