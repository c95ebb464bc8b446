-- The type of a whole device as it is written: `ReT i o I ()` with closed data i and o (Haskell 2010 Report, section 4.1.2).
use Rattle.std.specs.Prelude.{List, [], ◌∷◌, ◌++◌, Bool, true, false, not, ◌&&◌, codes}
use Rattle.rw_tree.specs.Types.{WrittenType, variable_type, constructor_type, applied_type, function_type, tuple_type, WrittenTypes, no_types, more_types}
use Rattle.rw_scope_rules.specs.Names.{Bytes, same_name, is_among}
use Rattle.rw_scope_rules.specs.Scope.{monad_names}

-- Parentheses round a type are nothing: `(ReT i o I) ()` is what `ReT i o I ()` is.

-- what is applied, when all arguments are taken off
abbrev pub head_of : WrittenType → WrittenType
head_of (applied_type head parts) = head_of head
head_of (variable_type x) = variable_type x
head_of (constructor_type c) = constructor_type c
head_of (function_type from to) = function_type from to
head_of (tuple_type parts) = tuple_type parts

-- some types, one after the other
abbrev pub listed : WrittenTypes → List WrittenType
listed no_types = []
listed (more_types t ts) = t ∷ listed ts

-- all that it is applied to
abbrev pub arguments_of : WrittenType → List WrittenType
arguments_of (applied_type head parts) = arguments_of head ++ listed parts
arguments_of _ = []

-- closed data: data types and tuples alone. No type variable stands in it, no arrow, and no monad
abbrev mutual
  pub is_closed_data : WrittenType → Bool
  is_closed_data (variable_type x) = false
  is_closed_data (constructor_type c) = not (is_among c monad_names)
  is_closed_data (applied_type head parts) = is_closed_data head && are_closed_data parts
  is_closed_data (function_type from to) = false
  is_closed_data (tuple_type parts) = are_closed_data parts

  pub are_closed_data : WrittenTypes → Bool
  are_closed_data no_types = true
  are_closed_data (more_types t ts) = is_closed_data t && are_closed_data ts

-- the constructor of types with this name
abbrev pub is_constructor : Bytes → WrittenType → Bool
is_constructor c (constructor_type x) = same_name x c
is_constructor c _ = false

-- the type of nothing but ()
abbrev pub is_unit : WrittenType → Bool
is_unit (tuple_type no_types) = true
is_unit _ = false

-- closed data, closed data, I and ()
abbrev pub are_of_device : List WrittenType → Bool
are_of_device (i ∷ o ∷ m ∷ a ∷ []) = is_closed_data i && (is_closed_data o && (is_constructor (codes "I") m && is_unit a))
are_of_device _ = false

-- ReT i o I ()
abbrev pub is_device : WrittenType → Bool
is_device t = is_constructor (codes "ReT") (head_of t) && are_of_device (arguments_of t)
