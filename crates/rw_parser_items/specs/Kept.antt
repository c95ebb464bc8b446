-- Reading declarations that hold types, where a tree is kept only if there is room for its arrows, as functions on lists.
use Rattle.std.specs.Prelude.{ℕ, List, [], ◌∷◌, length, drop, Option, Some, None, if◌then◌else◌}
use Rattle.rw_base.specs.declared.place.Span.{Span}
use Rattle.rw_tree.specs.declared.types.Written.{Written}
use Rattle.rw_tree.specs.declared.decl.Constructor.{Constructor}
use Rattle.rw_tree.specs.declared.decl.Decl.{Decl}
use Rattle.rw_tree.specs.declared.decl.Decl.TheVariants as d
use Rattle.rw_parser_grammar.specs.declared.lexeme.Mark.TheVariants as m
use Rattle.rw_parser_grammar.specs.declared.lexeme.Lexeme.{Lexeme}
use Rattle.rw_parser_grammar.specs.Lexemes.{span_of}
use Rattle.rw_parser_reading.specs.Frames.{frames_of_type, frames_of_constructor, most, cut}
use Rattle.rw_parser_reading.specs.Read.{◌>>=◌, Read, sees, after, separated_at}
use Rattle.rw_parser_reading.specs.ReadTypes.{atype_at, atypes_at}
use Rattle.rw_parser_reading.specs.ReadDeclarations.{class_name_at, signed_name_at, data_constructor_at, parameters_at, deriving_at, context_at}
use Rattle.rw_parser_patterns.specs.Given.{counted}
use Rattle.rw_parser_patterns.specs.Depth.{any_type_at}

-- a constructor, if its fields are kept
abbrev pub constructor_of : List ℕ → Option (List Written) → Option Constructor
constructor_of name None = None
constructor_of name (Some fields) = Some (record { name = name; fields = fields })

-- a data constructor
unfoldable pub data_constructor_kept : ℕ → List Lexeme → Read (Option Constructor)
data_constructor_kept room ts = do
  c ← class_name_at ts
  f ← cut (most frames_of_type) room (atypes_at any_type_at c.1)
  Some (constructor_of c.0 f.0, f.1)

-- data constructors behind `=`, if it stands there
unfoldable pub constructors_kept : ℕ → List Lexeme → Read (Option (List Constructor))
constructors_kept room ts =
    if sees m.Equal ts then (do p ← counted frames_of_constructor room (separated_at m.Bar (data_constructor_at any_type_at) (length (drop 1 ts)) (drop 1 ts)); Some (p.1.0, p.1.1)) else Some (Some [], ts)

-- a data type, if its constructors are kept
abbrev pub data_of : Span → List ℕ → List (List ℕ) → Option (List Constructor) → Option (Decl Span)
data_of span name params None = None
data_of span name params (Some made) = Some (d.Data span (record { name = name; params = params; constructors = made }))

-- a `data`
unfoldable pub data_kept : ℕ → List Lexeme → Read (Option (Decl Span))
data_kept room ts = do
  c ← class_name_at (drop 1 ts)
  p ← parameters_at c.1
  q ← constructors_kept room p.1
  x ← deriving_at q.1
  Some (data_of (span_of ts x.1) c.0 p.0 q.0, x.1)

-- a constructor with one field as the constructors of a type, if the field is kept
abbrev pub only_constructor : List ℕ → Option Written → Option (List Constructor)
only_constructor name None = None
only_constructor name (Some field) = Some (record { name = name; fields = field ∷ [] } ∷ [])

-- the constructor of a `newtype`
unfoldable pub wrapper_kept : ℕ → List Lexeme → Read (Option (List Constructor))
wrapper_kept room ts = do
  r ← after m.Equal ts
  k ← class_name_at r
  f ← cut frames_of_type room (atype_at any_type_at k.1)
  Some (only_constructor k.0 f.0, f.1)

-- a `newtype`
unfoldable pub newtype_kept : ℕ → List Lexeme → Read (Option (Decl Span))
newtype_kept room ts = do
  c ← class_name_at (drop 1 ts)
  p ← parameters_at c.1
  q ← wrapper_kept room p.1
  x ← deriving_at q.1
  Some (data_of (span_of ts x.1) c.0 p.0 q.0, x.1)

-- a signature, if its type is kept
abbrev pub signature_of : Span → List (List ℕ) → Option Written → Option (Decl Span)
signature_of span names None = None
signature_of span names (Some type) = Some (d.Sig span names type)

-- a signature
unfoldable pub signature_kept : ℕ → List Lexeme → Read (Option (Decl Span))
signature_kept room ts = do
  p ← separated_at m.Comma signed_name_at (length ts) ts
  r ← after m.Colons p.1
  c ← context_at r
  a ← cut frames_of_type room (any_type_at c.1)
  Some (signature_of (span_of ts a.1) p.0 a.0, a.1)
