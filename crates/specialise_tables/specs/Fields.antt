-- The types of fields, by the numbers of the declarations of data types, and a world in which constructors have these.
use Rattle.std.specs.Prelude.{List, [], map}
use Rattle.rw_types_solving.specs.Types.{Ty, plains}
use Rattle.rw_types_rules.specs.Words.{unit_type}
use Rattle.rw_types_rules.specs.Schemes.{Scheme, World}
use Rattle.specialise_tables.specs.declared.fields.Constructors.{Constructors}

-- for each constructor of each data type the types of its fields, with variables
abbrev pub seen_fields : List Constructors → List (List (List Ty))
seen_fields data_types = map (λ made. map (λ fields. plains fields.now) made.fields.items) data_types

abbrev pub taking : List Ty → Scheme
taking fields = record { kinds = []; takes = fields; gives = unit_type }

-- what tables need of a world
abbrev pub world_with : List (List (List Ty)) → World
world_with fields = record { types = []; declared = []; constructed = map (map taking) fields }

-- the types of fields in a world
abbrev pub fields_in : World → List (List (List Ty))
fields_in world = map (map (λ s. s.takes)) world.constructed
