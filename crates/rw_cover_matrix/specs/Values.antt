-- Types and values as far as matching sees them (Haskell 2010 Report, sections 3.17.2 and 4.2.1, less recursive data
-- types and undefined values).
use Rattle.std.specs.Prelude.{ℕ, suc, zero, ◌<◌}

mutual
  -- a closed type: of its values either nothing can be matched, as of functions and computations, or it is data
  pub data Shape : Type 0 where
    opaque : Shape
    data_of : Choices → Shape

  -- the types of fields, or of columns
  pub data Shapes : Type 0 where
    no_shapes : Shapes
    more_shapes : Shape → Shapes → Shapes

  -- the constructors of a data type in order, at least one, each with the types of its fields
  pub data Choices : Type 0 where
    one_choice : Shapes → Choices
    more_choices : Shapes → Choices → Choices

mutual
  -- a value: one that can't be matched, or a constructor, by its place from 0, with its fields
  pub data Value : Type 0 where
    opaque_value : Value
    built : ℕ → Values → Value

  pub data Values : Type 0 where
    no_values : Values
    more_values : Value → Values → Values

-- how many constructors there are
abbrev pub choices_count : Choices → ℕ
choices_count (one_choice fields) = 1
choices_count (more_choices fields others) = suc (choices_count others)

-- the types of the fields of the constructor with this place
abbrev pub fields_of : ℕ → Choices → Shapes
fields_of place (one_choice fields) = fields
fields_of zero (more_choices fields others) = fields
fields_of (suc place) (more_choices fields others) = fields_of place others

-- the values of a type
abbrev mutual
  pub IsValue : Value → Shape → Type 0
  IsValue opaque_value opaque = Unit {0}
  IsValue opaque_value (data_of choices) = ⊥
  IsValue (built place fields) opaque = ⊥
  IsValue (built place fields) (data_of choices) = (place < choices_count choices) × AreValues fields (fields_of place choices)

  pub AreValues : Values → Shapes → Type 0
  AreValues no_values no_shapes = Unit {0}
  AreValues no_values (more_shapes shape columns) = ⊥
  AreValues (more_values value given) no_shapes = ⊥
  AreValues (more_values value given) (more_shapes shape columns) = IsValue value shape × AreValues given columns
