-- Declarations and programs as plain data (Haskell 2010 Report, chapters 4 and 5).
use Rattle.std.specs.Prelude.{ℕ, List, map}
use Rattle.rw_tree.specs.declared.decl.Constructor.{Constructor}
use Rattle.rw_tree.specs.declared.decl.Side.{Side}
use Rattle.rw_tree.specs.declared.decl.Decl.{Decl}
use Rattle.rw_tree.specs.declared.decl.Decl.TheVariants.{Import, Data, Fixity, Sig, Fun}
use Rattle.rw_tree.specs.declared.program.Program.{Program}
use Rattle.rw_tree.specs.Types.{WrittenType, written, writtens}
use Rattle.rw_tree.specs.Trees.{Alternative, alternative_of}

-- a constructor of a data type: its name and the types of its fields
pub record PlainConstructor : Type 0 where
  pub constructor_name : List ℕ
  pub field_types : List WrittenType

-- a declaration, with something of type X at each node
pub data Declaration (X : Type 0) : Type 0 where
  import_declaration : X → List ℕ → Declaration X
  data_declaration : X → List ℕ → List (List ℕ) → List PlainConstructor → Declaration X
  fixity_declaration : X → Side → ℕ → List (List ℕ) → Declaration X
  signature_declaration : X → List (List ℕ) → WrittenType → Declaration X
  function_declaration : X → List ℕ → List (Alternative X) → Declaration X

-- a program: its declarations, in order
pub record PlainProgram (X : Type 0) : Type 0 where
  pub declarations : List (Declaration X)

-- the plain form of a constructor
abbrev pub plain_constructor : Constructor → PlainConstructor
plain_constructor made = record { constructor_name = made.name; field_types = writtens made.fields }

-- the plain form of a declaration, with what is seen of each annotation
abbrev pub declaration : {A X : Type 0} → (A → X) → Decl A → Declaration X
declaration see (Import a name) = import_declaration (see a) name
declaration see (Data a made) = data_declaration (see a) made.name made.params (map plain_constructor made.constructors)
declaration see (Fixity a side strength names) = fixity_declaration (see a) side strength names
declaration see (Sig a names type) = signature_declaration (see a) names (written type)
declaration see (Fun a name clauses) = function_declaration (see a) name (map (alternative_of see) clauses)

-- the plain form of a program, with what is seen of each annotation
abbrev pub plain_program : {A X : Type 0} → (A → X) → Program A → PlainProgram X
plain_program see program = record { declarations = map (declaration see) program.decls }
