-- Reading declarations and items from the front of a list of tokens, as functions on lists.
use Rattle.std.specs.Prelude.{ℕ, zero, suc, Bool, false, not, ◌||◌, List, [], ◌∷◌, length, drop, codes, Option, Some, None, if◌then◌else◌}
use Rattle.std.specs.Str.{bytes_eq}
use Rattle.rw_base.specs.declared.place.Span.{Span}
use Rattle.rw_tree.specs.declared.types.Written.{Written}
use Rattle.rw_tree.specs.declared.clause.Alt.{Alt}
use Rattle.rw_tree.specs.declared.decl.Constructor.{Constructor}
use Rattle.rw_tree.specs.declared.decl.Side.{Side}
use Rattle.rw_tree.specs.declared.decl.Decl.{Decl}
use Rattle.rw_tree.specs.declared.decl.Decl.TheVariants as d
use Rattle.rw_parser_grammar.specs.declared.item.Item.{Item}
use Rattle.rw_parser_grammar.specs.declared.item.Item.TheVariants as i
use Rattle.rw_parser_grammar.specs.declared.lexeme.Mark.TheVariants as m
use Rattle.rw_parser_grammar.specs.declared.lexeme.Spot.{Spot}
use Rattle.rw_parser_grammar.specs.declared.lexeme.Lexeme.{Lexeme}
use Rattle.rw_parser_grammar.specs.declared.lexeme.Lexeme.TheVariants as t
use Rattle.rw_parser_grammar.specs.Lexemes.{span_of}
use Rattle.rw_parser_grammar.specs.Declarations.{pointed, side_of, strength_of}
use Rattle.rw_parser_reading.specs.Read.{◌>>=◌, Read, same_mark, sees, after, separated_at, many_at, variable_at, constructor_at, begins_variable, begins_constructor}
use Rattle.rw_parser_reading.specs.ReadTypes.{begins_atype, atype_at, atypes_at, type_at}
use Rattle.rw_parser_reading.specs.ReadNames.{beyond}
use Rattle.rw_parser_reading.specs.ReadClauses.{variable_name_at}
use Rattle.rw_parser_reading.specs.ReadLevels.{clause_over, expression_at, locals_at}

-- ---- data types

-- variables
unfoldable pub parameters_at : List Lexeme → Read (List (List ℕ))
parameters_at ts = many_at begins_variable (λ xs. variable_at xs >>= λ v. Some (v.0.1, v.1)) (length ts) ts

-- what may follow data constructors
abbrev pub ends_constructors : List Lexeme → Bool
ends_constructors ts = not (sees m.Bar ts || (sees m.Equal ts || begins_atype ts))

module _ (inner : List Lexeme → Read Written) where
  -- a data constructor
  unfoldable pub data_constructor_at : List Lexeme → Read Constructor
  data_constructor_at ts = do
    c ← constructor_at ts
    f ← atypes_at inner c.1
    Some (record { name = c.0.1; fields = f.0 }, f.1)

  -- data constructors behind `=`, if it stands there
  unfoldable pub constructors_at : List Lexeme → Read (List Constructor)
  constructors_at ts = if sees m.Equal ts then separated_at m.Bar data_constructor_at (length (drop 1 ts)) (drop 1 ts) else Some ([], ts)

-- the name of a class
unfoldable pub class_name_at : List Lexeme → Read (List ℕ)
class_name_at ts = constructor_at ts >>= λ c. Some (c.0.1, c.1)

-- classes in parentheses, behind the opening one
unfoldable pub classes_at : List Lexeme → Read (List (List ℕ))
classes_at ts = if sees m.Closes ts then Some ([], drop 1 ts) else (do p ← separated_at m.Comma class_name_at (length ts) ts; r ← after m.Closes p.1; Some (p.0, r))

-- what stands behind `deriving`
unfoldable pub derived_at : List Lexeme → Read (List (List ℕ))
derived_at ts = if sees m.Opens ts then classes_at (drop 1 ts) else (do c ← class_name_at ts; Some (c.0 ∷ [], c.1))

-- `deriving`, if it stands there
unfoldable pub deriving_at : List Lexeme → Read (List (List ℕ))
deriving_at ts = if sees m.Deriving ts then derived_at (drop 1 ts) else Some ([], ts)

module _ (inner : List Lexeme → Read Written) where
  -- a `data`
  unfoldable pub data_at : List Lexeme → Read (Decl Span)
  data_at ts = do
    c ← constructor_at (drop 1 ts)
    p ← parameters_at c.1
    q ← constructors_at inner p.1
    x ← deriving_at q.1
    Some (d.Data (span_of ts x.1) (record { name = c.0.1; params = p.0; constructors = q.0 }), x.1)

  -- a `newtype`
  unfoldable pub newtype_at : List Lexeme → Read (Decl Span)
  newtype_at ts = do
    c ← constructor_at (drop 1 ts)
    p ← parameters_at c.1
    r ← after m.Equal p.1
    k ← constructor_at r
    f ← atype_at inner k.1
    x ← deriving_at f.1
    Some (d.Data (span_of ts x.1) (record { name = c.0.1; params = p.0; constructors = record { name = k.0.1; fields = f.0 ∷ [] } ∷ [] }), x.1)

  -- a data type, by either word
  unfoldable pub data_or_newtype_at : List Lexeme → Read (Decl Span)
  data_or_newtype_at ts = if sees m.Data ts then data_at ts else (if sees m.Newtype ts then newtype_at ts else None)

-- ---- modules and imports

-- the tokens begin with a point
abbrev pub sees_point : List Lexeme → Bool
sees_point [] = false
sees_point (t.Mark w a ∷ ts) = false
sees_point (t.Variable w name ∷ ts) = false
sees_point (t.Constructor w name ∷ ts) = false
sees_point (t.Operator w name ∷ ts) = bytes_eq name (codes ".")
sees_point (t.Number w digits ∷ ts) = false

-- the parts of a module's name; the number bounds the turns
unfoldable pub module_parts_at : ℕ → List Lexeme → Read (List (List ℕ))
module_parts_at zero ts = None
module_parts_at (suc n) ts = do
  c ← class_name_at ts
  if sees_point c.1 then (do q ← module_parts_at n (drop 1 c.1); Some (c.0 ∷ q.0, q.1)) else Some (c.0 ∷ [], c.1)

-- the name of a module, in parts
unfoldable pub module_name_at : List Lexeme → Read (List (List ℕ))
module_name_at ts = module_parts_at (length ts) ts

-- a variable or a constructor
unfoldable pub entity_name_at : List Lexeme → Read (List ℕ)
entity_name_at ts = if begins_constructor ts then class_name_at ts else (do v ← variable_name_at ts; Some (v.0.1, v.1))

-- names in parentheses, behind the opening one
unfoldable pub entities_at : List Lexeme → Read (List (List ℕ))
entities_at ts = do
  p ← separated_at m.Comma entity_name_at (length ts) ts
  r ← after m.Closes p.1
  Some (p.0, r)

-- what stands behind the opening parenthesis of a type that is exported
unfoldable pub inside_parts_at : List Lexeme → Read (List (List ℕ))
inside_parts_at ts = if sees m.Closes ts then Some ([], drop 1 ts) else (if sees m.Dots ts then (do r ← after m.Closes (drop 1 ts); Some ([], r)) else entities_at ts)

-- the parts of a type that is exported, if they stand there
unfoldable pub parts_at : List Lexeme → Read (List (List ℕ))
parts_at ts = if sees m.Opens ts then inside_parts_at (drop 1 ts) else Some ([], ts)

-- a constructor and its parts
unfoldable pub exported_type_at : List Lexeme → Read (List ℕ)
exported_type_at ts = do
  c ← class_name_at ts
  p ← parts_at c.1
  Some (c.0, p.1)

-- a module that is exported, behind its word
unfoldable pub exported_module_at : List Lexeme → Read (List ℕ)
exported_module_at ts = do
  p ← module_name_at ts
  Some (pointed p.0, p.1)

-- an export
unfoldable pub export_at : List Lexeme → Read (List ℕ)
export_at ts = if sees m.Module ts then exported_module_at (drop 1 ts) else (if begins_constructor ts then exported_type_at ts else (do v ← variable_name_at ts; Some (v.0.1, v.1)))

-- what stands behind the opening parenthesis of exports
unfoldable pub inside_exports_at : List Lexeme → Read (List (List ℕ))
inside_exports_at ts = if sees m.Closes ts then Some ([], drop 1 ts) else (do p ← separated_at m.Comma export_at (length ts) ts; r ← after m.Closes p.1; Some (p.0, r))

-- exports, if they stand there
unfoldable pub exports_at : List Lexeme → Read (List (List ℕ))
exports_at ts = if sees m.Opens ts then inside_exports_at (drop 1 ts) else Some ([], ts)

-- the tokens begin with this word
abbrev pub sees_word : List ℕ → List Lexeme → Bool
sees_word word [] = false
sees_word word (t.Mark w a ∷ ts) = false
sees_word word (t.Variable w name ∷ ts) = bytes_eq name word
sees_word word (t.Constructor w name ∷ ts) = false
sees_word word (t.Operator w name ∷ ts) = false
sees_word word (t.Number w digits ∷ ts) = false

-- the tokens behind this word, if it stands there
unfoldable pub behind_word : List ℕ → List Lexeme → List Lexeme
behind_word word ts = if sees_word word ts then drop 1 ts else ts

-- the tokens behind `as` and a module's name, if they stand there
unfoldable pub behind_as : List Lexeme → Option (List Lexeme)
behind_as ts = if sees_word (codes "as") ts then (module_name_at (drop 1 ts) >>= λ p. Some p.1) else Some ts

-- an import
unfoldable pub import_at : List Lexeme → Read (Decl Span)
import_at ts = do
  r ← after m.Import ts
  p ← module_name_at (behind_word (codes "qualified") r)
  a ← behind_as p.1
  x ← exports_at (behind_word (codes "hiding") a)
  Some (d.Import (span_of ts x.1) (pointed p.0), x.1)

-- ---- fixities and signatures

-- an operator by its name, behind a backquote
abbrev pub quoted_name_at : List Lexeme → Read (List ℕ)
quoted_name_at [] = None
quoted_name_at (t.Mark w a ∷ ts) = None
quoted_name_at (t.Variable w name ∷ ts) = after m.Backquote ts >>= λ r. Some (name, r)
quoted_name_at (t.Constructor w name ∷ ts) = after m.Backquote ts >>= λ r. Some (name, r)
quoted_name_at (t.Operator w name ∷ ts) = None
quoted_name_at (t.Number w digits ∷ ts) = None

-- an operator by its name
abbrev pub operator_name_at : List Lexeme → Read (List ℕ)
operator_name_at [] = None
operator_name_at (t.Mark w a ∷ ts) = if same_mark a m.Backquote then quoted_name_at ts else None
operator_name_at (t.Variable w name ∷ ts) = None
operator_name_at (t.Constructor w name ∷ ts) = None
operator_name_at (t.Operator w name ∷ ts) = Some (name, ts)
operator_name_at (t.Number w digits ∷ ts) = None

-- the side that the first token names
abbrev pub side_at : List Lexeme → Read Side
side_at [] = None
side_at (t.Mark w a ∷ ts) = side_of a >>= λ side. Some (side, ts)
side_at (t.Variable w name ∷ ts) = None
side_at (t.Constructor w name ∷ ts) = None
side_at (t.Operator w name ∷ ts) = None
side_at (t.Number w digits ∷ ts) = None

-- a strength, if it stands there
abbrev pub strength_at : List Lexeme → Read ℕ
strength_at [] = Some (9, [])
strength_at (t.Mark w a ∷ ts) = Some (9, t.Mark w a ∷ ts)
strength_at (t.Variable w name ∷ ts) = Some (9, t.Variable w name ∷ ts)
strength_at (t.Constructor w name ∷ ts) = Some (9, t.Constructor w name ∷ ts)
strength_at (t.Operator w name ∷ ts) = Some (9, t.Operator w name ∷ ts)
strength_at (t.Number w digits ∷ ts) = strength_of digits >>= λ n. Some (n, ts)

-- a fixity declaration
unfoldable pub fixity_at : List Lexeme → Read (Decl Span)
fixity_at ts = do
  s ← side_at ts
  n ← strength_at s.1
  o ← separated_at m.Comma operator_name_at (length n.1) n.1
  Some (d.Fixity (span_of ts o.1) s.0 n.0 o.0, o.1)

-- `Monad` and a variable
unfoldable pub monad_at : List Lexeme → Read (List ℕ)
monad_at ts = do
  c ← class_name_at ts
  v ← variable_at c.1
  if bytes_eq c.0 (codes "Monad") then Some (v.0.1, v.1) else None

-- a context in parentheses, behind the opening one
unfoldable pub monads_at : List Lexeme → Read (List (List ℕ))
monads_at ts = do
  p ← separated_at m.Comma monad_at (length ts) ts
  r ← after m.Closes p.1
  r ← after m.Implies r
  Some (p.0, r)

-- a context that stands there
unfoldable pub given_context_at : List Lexeme → Read (List (List ℕ))
given_context_at ts = if sees m.Opens ts then monads_at (drop 1 ts) else (do p ← monad_at ts; r ← after m.Implies p.1; Some (p.0 ∷ [], r))

-- the tokens begin with a context
abbrev pub begins_context : List Lexeme → Bool
begins_context ts = sees m.Implies (beyond ts)

-- a context, if it stands there
unfoldable pub context_at : List Lexeme → Read (List (List ℕ))
context_at ts = if begins_context ts then given_context_at ts else Some ([], ts)

-- a name with a signature
unfoldable pub signed_name_at : List Lexeme → Read (List ℕ)
signed_name_at ts = variable_name_at ts >>= λ v. Some (v.0.1, v.1)

-- a signature
unfoldable pub signature_at : (List Lexeme → Read Written) → List Lexeme → Read (Decl Span)
signature_at inner ts = do
  p ← separated_at m.Comma signed_name_at (length ts) ts
  r ← after m.Colons p.1
  c ← context_at r
  a ← inner c.1
  Some (d.Sig (span_of ts a.1) p.0 a.0, a.1)

-- ---- items

-- the tokens behind a name go on with a signature
abbrev pub goes_signed : Option ((Spot × List ℕ) × List Lexeme) → Bool
goes_signed None = false
goes_signed (Some v) = sees m.Comma v.1 || sees m.Colons v.1

-- the tokens begin with a signature
abbrev pub begins_signed : List Lexeme → Bool
begins_signed ts = goes_signed (variable_name_at ts)

-- the tokens begin with a fixity declaration
abbrev pub begins_fixity : List Lexeme → Bool
begins_fixity ts = sees m.Infix ts || (sees m.Infixl ts || sees m.Infixr ts)

-- an item that is whole
abbrev pub whole_item : Decl Span × List Lexeme → Option (Item × List Lexeme)
whole_item p = Some (i.Whole p.0, p.1)

module _ (inner : List Lexeme → Read Written) (clause : List Lexeme → Read (List ℕ × Alt Span)) where
  -- an item that begins with no reserved word
  unfoldable pub named_item_at : List Lexeme → Read Item
  named_item_at ts = if begins_signed ts then (signature_at inner ts >>= whole_item) else (do c ← clause ts; Some (i.Clause c.0.0 c.0.1, c.1))

  -- an item
  unfoldable pub item_over_at : List Lexeme → Read Item
  item_over_at ts =
      if sees m.Import ts then (import_at ts >>= whole_item)
      else (if sees m.Data ts || sees m.Newtype ts then (data_or_newtype_at inner ts >>= whole_item) else (if begins_fixity ts then (fixity_at ts >>= whole_item) else named_item_at ts))

-- an item with at most so many levels inside
unfoldable pub item_at : ℕ → List Lexeme → Read Item
item_at n ts = item_over_at (type_at n) (clause_over n (expression_at n) (locals_at n)) ts
