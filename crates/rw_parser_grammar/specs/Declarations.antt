-- The grammar of declarations (Haskell 2010 Report, sections 4.1 to 4.4, 5.2, 5.3 and 10.5), a constructor for each alternative.
use Rattle.std.specs.Prelude.{◌≡◌, ℕ, ◌-◌, ◌&&◌, nat_eq, nat_le, true, List, [], ◌∷◌, ◌++◌, codes, Option, Some, None, if◌then◌else◌}
use Rattle.std.specs.Str.{bytes_eq}
use Rattle.rw_base.specs.declared.place.Span.{Span}
use Rattle.rw_tree.specs.declared.types.Written.{Written}
use Rattle.rw_tree.specs.declared.clause.Alt.{Alt}
use Rattle.rw_tree.specs.declared.decl.Side.{Side}
use Rattle.rw_tree.specs.declared.decl.Side.TheVariants as side
use Rattle.rw_tree.specs.declared.decl.Constructor.{Constructor}
use Rattle.rw_tree.specs.declared.decl.Decl.{Decl}
use Rattle.rw_tree.specs.declared.decl.Decl.TheVariants as d
use Rattle.rw_parser_grammar.specs.declared.item.Item.{Item}
use Rattle.rw_parser_grammar.specs.declared.item.Item.TheVariants as i
use Rattle.rw_parser_grammar.specs.declared.lexeme.Mark.{Mark}
use Rattle.rw_parser_grammar.specs.declared.lexeme.Mark.TheVariants as m
use Rattle.rw_parser_grammar.specs.declared.lexeme.Spot.{Spot}
use Rattle.rw_parser_grammar.specs.declared.lexeme.Lexeme.{Lexeme}
use Rattle.rw_parser_grammar.specs.declared.lexeme.Lexeme.TheVariants as t
use Rattle.rw_parser_grammar.specs.Lexemes.{span_at, span_of}
use Rattle.rw_parser_grammar.specs.Lists.{IsSeparated, IsMany}
use Rattle.rw_parser_grammar.specs.Names.{IsVariableName, IsOperator}
use Rattle.rw_parser_grammar.specs.Types.{IsAtype}

-- ---- modules and imports

-- names joined by a point (46)
abbrev pub pointed : List (List ℕ) → List ℕ
pointed [] = []
pointed (name ∷ []) = name
pointed (name ∷ next ∷ names) = name ++ 46 ∷ pointed (next ∷ names)

-- modname ::= Con (`.` Con)*: its parts
pub data IsModuleParts : List Lexeme → List (List ℕ) → List Lexeme → Type 0 where
  last_part : (w : Spot) (name : List ℕ) (rest : List Lexeme) → IsModuleParts (t.Constructor w name ∷ rest) (name ∷ []) rest
  more_parts : (v w : Spot) (name point : List ℕ) (ts rest : List Lexeme) (names : List (List ℕ)) → bytes_eq point (codes ".") ≡ true → IsModuleParts ts names rest
      → IsModuleParts (t.Constructor v name ∷ t.Operator w point ∷ ts) (name ∷ names) rest

-- (vname | Con)
pub data IsEntityName : List Lexeme → List ℕ → List Lexeme → Type 0 where
  a_variable_name : (ts rest : List Lexeme) (w : Spot) (name : List ℕ) → IsVariableName ts (w, name) rest → IsEntityName ts name rest
  a_constructor_name : (w : Spot) (name : List ℕ) (rest : List Lexeme) → IsEntityName (t.Constructor w name ∷ rest) name rest

-- [`(` `..` `)` | `(` [names] `)`], where names ::= (vname | Con) (`,` (vname | Con))*
pub data IsParts : List Lexeme → List (List ℕ) → List Lexeme → Type 0 where
  no_parts : (ts : List Lexeme) → IsParts ts [] ts
  all_parts : (u v w : Spot) (rest : List Lexeme) → IsParts (t.Mark u m.Opens ∷ t.Mark v m.Dots ∷ t.Mark w m.Closes ∷ rest) [] rest
  empty_parts : (v w : Spot) (rest : List Lexeme) → IsParts (t.Mark v m.Opens ∷ t.Mark w m.Closes ∷ rest) [] rest
  some_parts : (v w : Spot) (ts rest : List Lexeme) (names : List (List ℕ)) → IsSeparated m.Comma IsEntityName ts names (t.Mark w m.Closes ∷ rest) → IsParts (t.Mark v m.Opens ∷ ts) names rest

-- export ::= vname | Con parts | `module` modname: its name, which no tree keeps
pub data IsExport : List Lexeme → List ℕ → List Lexeme → Type 0 where
  an_exported_variable : (ts rest : List Lexeme) (w : Spot) (name : List ℕ) → IsVariableName ts (w, name) rest → IsExport ts name rest
  an_exported_type : (w : Spot) (name : List ℕ) (ts rest : List Lexeme) (parts : List (List ℕ)) → IsParts ts parts rest → IsExport (t.Constructor w name ∷ ts) name rest
  an_exported_module : (w : Spot) (ts rest : List Lexeme) (names : List (List ℕ)) → IsModuleParts ts names rest → IsExport (t.Mark w m.Module ∷ ts) (pointed names) rest

-- [exports], where exports ::= `(` [export (`,` export)*] `)`
pub data IsExports : List Lexeme → List (List ℕ) → List Lexeme → Type 0 where
  no_exports : (ts : List Lexeme) → IsExports ts [] ts
  empty_exports : (v w : Spot) (rest : List Lexeme) → IsExports (t.Mark v m.Opens ∷ t.Mark w m.Closes ∷ rest) [] rest
  some_exports : (v w : Spot) (ts rest : List Lexeme) (names : List (List ℕ)) → IsSeparated m.Comma IsExport ts names (t.Mark w m.Closes ∷ rest) → IsExports (t.Mark v m.Opens ∷ ts) names rest

-- a word that is a variable elsewhere, if it stands there
pub data IsOptionalWord (word : List ℕ) : List Lexeme → List Lexeme → Type 0 where
  no_word : (ts : List Lexeme) → IsOptionalWord word ts ts
  the_word : (w : Spot) (name : List ℕ) (rest : List Lexeme) → bytes_eq name word ≡ true → IsOptionalWord word (t.Variable w name ∷ rest) rest

-- [`as` modname]
pub data IsAs : List Lexeme → List Lexeme → Type 0 where
  no_as : (ts : List Lexeme) → IsAs ts ts
  an_as : (w : Spot) (name : List ℕ) (ts rest : List Lexeme) (names : List (List ℕ)) → bytes_eq name (codes "as") ≡ true → IsModuleParts ts names rest → IsAs (t.Variable w name ∷ ts) rest

-- import ::= `import` [`qualified`] modname [`as` modname] [`hiding`] [exports]: the name of the module
pub data IsImport : List Lexeme → Decl Span → List Lexeme → Type 0 where
  an_import : (w : Spot) (ts named behind hidden listed rest : List Lexeme) (names listing : List (List ℕ)) → IsOptionalWord (codes "qualified") ts named → IsModuleParts named names behind → IsAs behind hidden
      → IsOptionalWord (codes "hiding") hidden listed → IsExports listed listing rest → IsImport (t.Mark w m.Import ∷ ts) (d.Import (span_at w rest) (pointed names)) rest

-- ---- data types

-- a variable of a data type
pub data IsParameter : List Lexeme → List ℕ → List Lexeme → Type 0 where
  a_parameter : (w : Spot) (name : List ℕ) (rest : List Lexeme) → IsParameter (t.Variable w name ∷ rest) name rest

-- constr ::= Con atype*
pub data IsConstructor (Inner : List Lexeme → Written → List Lexeme → Type 0) : List Lexeme → Constructor → List Lexeme → Type 0 where
  a_data_constructor : (w : Spot) (name : List ℕ) (ts rest : List Lexeme) (fields : List Written) → IsMany (IsAtype Inner) ts fields rest
      → IsConstructor Inner (t.Constructor w name ∷ ts) (record { name = name; fields = fields }) rest

-- [`=` constr (`|` constr)*]
pub data IsConstructors (Inner : List Lexeme → Written → List Lexeme → Type 0) : List Lexeme → List Constructor → List Lexeme → Type 0 where
  no_constructors : (ts : List Lexeme) → IsConstructors Inner ts [] ts
  some_constructors : (w : Spot) (ts rest : List Lexeme) (constructors : List Constructor) → IsSeparated m.Bar (IsConstructor Inner) ts constructors rest
      → IsConstructors Inner (t.Mark w m.Equal ∷ ts) constructors rest

-- Con
pub data IsClassName : List Lexeme → List ℕ → List Lexeme → Type 0 where
  a_class_name : (w : Spot) (name : List ℕ) (rest : List Lexeme) → IsClassName (t.Constructor w name ∷ rest) name rest

-- [deriving], where deriving ::= `deriving` (Con | `(` [Con (`,` Con)*] `)`): the classes, which no tree keeps
pub data IsDeriving : List Lexeme → List (List ℕ) → List Lexeme → Type 0 where
  no_deriving : (ts : List Lexeme) → IsDeriving ts [] ts
  derives_one : (v w : Spot) (name : List ℕ) (rest : List Lexeme) → IsDeriving (t.Mark v m.Deriving ∷ t.Constructor w name ∷ rest) (name ∷ []) rest
  derives_none : (u v w : Spot) (rest : List Lexeme) → IsDeriving (t.Mark u m.Deriving ∷ t.Mark v m.Opens ∷ t.Mark w m.Closes ∷ rest) [] rest
  derives_some : (u v w : Spot) (ts rest : List Lexeme) (names : List (List ℕ)) → IsSeparated m.Comma IsClassName ts names (t.Mark w m.Closes ∷ rest) → IsDeriving (t.Mark u m.Deriving ∷ t.Mark v m.Opens ∷ ts) names rest

-- data ::= `data` Con var* [`=` constr (`|` constr)*] [deriving] | `newtype` Con var* `=` Con atype [deriving]
pub data IsData (Inner : List Lexeme → Written → List Lexeme → Type 0) : List Lexeme → Decl Span → List Lexeme → Type 0 where
  a_data : (v w : Spot) (name : List ℕ) (ts mid next rest : List Lexeme) (params classes : List (List ℕ)) (constructors : List Constructor) → IsMany IsParameter ts params mid
      → IsConstructors Inner mid constructors next → IsDeriving next classes rest
      → IsData Inner (t.Mark v m.Data ∷ t.Constructor w name ∷ ts) (d.Data (span_at v rest) (record { name = name; params = params; constructors = constructors })) rest
  a_newtype : (u v w x : Spot) (name made : List ℕ) (ts mid next rest : List Lexeme) (params classes : List (List ℕ)) (field : Written) → IsMany IsParameter ts params (t.Mark w m.Equal ∷ t.Constructor x made ∷ mid)
      → IsAtype Inner mid field next → IsDeriving next classes rest
      → IsData Inner (t.Mark u m.Newtype ∷ t.Constructor v name ∷ ts) (d.Data (span_at u rest) (record { name = name; params = params; constructors = record { name = made; fields = field ∷ [] } ∷ [] })) rest

-- ---- fixities and signatures

-- the side that a reserved word names
abbrev pub side_of : Mark → Option Side
side_of m.Infix = Some side.Neither
side_of m.Infixl = Some side.Left
side_of m.Infixr = Some side.Right
side_of _ = None

-- the strength that digits are: a number from 0 to 9, with any zeros (48) before it
abbrev pub strength_of : List ℕ → Option ℕ
strength_of [] = None
strength_of (b ∷ []) = if nat_le 48 b && nat_le b 57 then Some (b - 48) else None
strength_of (b ∷ c ∷ bs) = if nat_eq b 48 then strength_of (c ∷ bs) else None

-- [Number 0 to 9]: without one the strength is 9
pub data IsStrength : List Lexeme → ℕ → List Lexeme → Type 0 where
  no_strength : (ts : List Lexeme) → IsStrength ts 9 ts
  a_strength : (w : Spot) (digits : List ℕ) (rest : List Lexeme) (n : ℕ) → strength_of digits ≡ Some n → IsStrength (t.Number w digits ∷ rest) n rest

-- fixity ::= (`infixl` | `infixr` | `infix`) [Number 0 to 9] op (`,` op)*
pub data IsFixity : List Lexeme → Decl Span → List Lexeme → Type 0 where
  a_fixity : (w : Spot) (word : Mark) (at : Side) (ts mid rest : List Lexeme) (n : ℕ) (names : List (List ℕ)) → side_of word ≡ Some at → IsStrength ts n mid → IsSeparated m.Comma IsOperator mid names rest
      → IsFixity (t.Mark w word ∷ ts) (d.Fixity (span_at w rest) at n names) rest

-- `Monad` var
pub data IsMonad : List Lexeme → List ℕ → List Lexeme → Type 0 where
  a_monad : (v w : Spot) (class name : List ℕ) (rest : List Lexeme) → bytes_eq class (codes "Monad") ≡ true → IsMonad (t.Constructor v class ∷ t.Variable w name ∷ rest) name rest

-- [context `=>`], where context ::= `Monad` var | `(` `Monad` var (`,` `Monad` var)* `)`: the variables, which no tree keeps
pub data IsContext : List Lexeme → List (List ℕ) → List Lexeme → Type 0 where
  no_context : (ts : List Lexeme) → IsContext ts [] ts
  one_monad : (w : Spot) (ts rest : List Lexeme) (name : List ℕ) → IsMonad ts name (t.Mark w m.Implies ∷ rest) → IsContext ts (name ∷ []) rest
  some_monads : (u v w : Spot) (ts rest : List Lexeme) (names : List (List ℕ)) → IsSeparated m.Comma IsMonad ts names (t.Mark v m.Closes ∷ t.Mark w m.Implies ∷ rest) → IsContext (t.Mark u m.Opens ∷ ts) names rest

-- vname, without its spot
pub data IsSignedName : List Lexeme → List ℕ → List Lexeme → Type 0 where
  a_signed_name : (ts rest : List Lexeme) (w : Spot) (name : List ℕ) → IsVariableName ts (w, name) rest → IsSignedName ts name rest

-- sig ::= vname (`,` vname)* `::` [context `=>`] type
pub data IsSignature (Inner : List Lexeme → Written → List Lexeme → Type 0) : List Lexeme → Decl Span → List Lexeme → Type 0 where
  a_signature : (w : Spot) (ts mid next rest : List Lexeme) (names monads : List (List ℕ)) (type : Written) → IsSeparated m.Comma IsSignedName ts names (t.Mark w m.Colons ∷ mid) → IsContext mid monads next
      → Inner next type rest → IsSignature Inner ts (d.Sig (span_of ts rest) names type) rest

-- ---- items

-- item ::= import | data | fixity | sig | clause
pub data IsItemOver (Inner : List Lexeme → Written → List Lexeme → Type 0) (Clause : List Lexeme → List ℕ × Alt Span → List Lexeme → Type 0) : List Lexeme → Item → List Lexeme → Type 0 where
  an_import_item : (ts rest : List Lexeme) (decl : Decl Span) → IsImport ts decl rest → IsItemOver Inner Clause ts (i.Whole decl) rest
  a_data_item : (ts rest : List Lexeme) (decl : Decl Span) → IsData Inner ts decl rest → IsItemOver Inner Clause ts (i.Whole decl) rest
  a_fixity_item : (ts rest : List Lexeme) (decl : Decl Span) → IsFixity ts decl rest → IsItemOver Inner Clause ts (i.Whole decl) rest
  a_signature_item : (ts rest : List Lexeme) (decl : Decl Span) → IsSignature Inner ts decl rest → IsItemOver Inner Clause ts (i.Whole decl) rest
  a_clause_item : (ts rest : List Lexeme) (name : List ℕ) (row : Alt Span) → Clause ts (name, row) rest → IsItemOver Inner Clause ts (i.Clause name row) rest
