-- Types as a source writes them, as plain data (Haskell 2010 Report, section 4.1.2).
use Rattle.std.specs.Prelude.{ℕ, List, [], ◌∷◌, map}
use Rattle.rw_tree.specs.declared.types.Written.{Written, fold-Written}
use Rattle.rw_tree.specs.declared.types.Written.TheOpen.{Written-F}

mutual
  -- a type as written
  pub data WrittenType : Type 0 where
    variable_type : List ℕ → WrittenType
    constructor_type : List ℕ → WrittenType
    applied_type : WrittenType → WrittenTypes → WrittenType
    function_type : WrittenType → WrittenType → WrittenType
    tuple_type : WrittenTypes → WrittenType

  -- a list of them
  pub data WrittenTypes : Type 0 where
    no_types : WrittenTypes
    more_types : WrittenType → WrittenTypes → WrittenTypes

-- a list of types as the parts of a type
abbrev pub type_parts : List WrittenType → WrittenTypes
type_parts [] = no_types
type_parts (t ∷ ts) = more_types t (type_parts ts)

-- one level of a type, with each part already in its plain form
abbrev pub written_step : Written-F WrittenType → WrittenType
written_step (Written-F.Var name) = variable_type name
written_step (Written-F.Con name) = constructor_type name
written_step (Written-F.Apply head parts) = applied_type head (type_parts parts)
written_step (Written-F.Fun from to) = function_type from to
written_step (Written-F.Tuple parts) = tuple_type (type_parts parts)

-- the plain form of a type as written
abbrev pub written : Written → WrittenType
written = fold-Written WrittenType written_step

-- the plain forms of a list of them
abbrev pub writtens : List Written → List WrittenType
writtens types = map written types
