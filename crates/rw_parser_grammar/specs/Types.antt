-- The grammar of types (Haskell 2010 Report, sections 4.1.2 and 10.5), a constructor for each alternative. `IsAtype Inner ts y rest`: the tokens ts
-- begin with a spelling of the type y, and rest follows it; Inner is the same for what stands inside, one level deeper.
use Rattle.std.specs.Prelude.{◌≡◌, ℕ, zero, suc, Bool, true, nat_le, List, [], ◌∷◌, length}
use Rattle.rw_tree.specs.declared.types.Written.{Written}
use Rattle.rw_tree.specs.declared.types.Written.TheVariants as y
use Rattle.rw_parser_grammar.specs.declared.lexeme.Mark.TheVariants as m
use Rattle.rw_parser_grammar.specs.declared.lexeme.Spot.{Spot}
use Rattle.rw_parser_grammar.specs.declared.lexeme.Lexeme.{Lexeme}
use Rattle.rw_parser_grammar.specs.declared.lexeme.Lexeme.TheVariants as t
use Rattle.rw_parser_grammar.specs.Lists.{IsSeparated, IsMany}

-- a tuple has at most 8 parts
abbrev pub few : {A : Type 0} → List A → Bool
few parts = nat_le (length parts) 8

-- one type in parentheses is itself
abbrev pub grouped_type : List Written → Written
grouped_type [] = y.Tuple []
grouped_type (part ∷ []) = part
grouped_type (a ∷ b ∷ parts) = y.Tuple (a ∷ b ∷ parts)

-- a type without arguments is itself
abbrev pub applied_type : Written → List Written → Written
applied_type head [] = head
applied_type head (part ∷ parts) = y.Apply head (part ∷ parts)

-- atype ::= Con | var | `(` `)` | `(` type (`,` type)* `)`
pub data IsAtype (Inner : List Lexeme → Written → List Lexeme → Type 0) : List Lexeme → Written → List Lexeme → Type 0 where
  a_type_constructor : (w : Spot) (name : List ℕ) (rest : List Lexeme) → IsAtype Inner (t.Constructor w name ∷ rest) (y.Con name) rest
  a_type_variable : (w : Spot) (name : List ℕ) (rest : List Lexeme) → IsAtype Inner (t.Variable w name ∷ rest) (y.Var name) rest
  a_unit_type : (v w : Spot) (rest : List Lexeme) → IsAtype Inner (t.Mark v m.Opens ∷ t.Mark w m.Closes ∷ rest) (y.Tuple []) rest
  a_type_group : (v w : Spot) (ts rest : List Lexeme) (parts : List Written) → IsSeparated m.Comma Inner ts parts (t.Mark w m.Closes ∷ rest) → few parts ≡ true
      → IsAtype Inner (t.Mark v m.Opens ∷ ts) (grouped_type parts) rest

-- btype ::= atype+
pub data IsBtype (Inner : List Lexeme → Written → List Lexeme → Type 0) : List Lexeme → Written → List Lexeme → Type 0 where
  a_btype : (ts mid rest : List Lexeme) (head : Written) (parts : List Written) → IsAtype Inner ts head mid → IsMany (IsAtype Inner) mid parts rest → IsBtype Inner ts (applied_type head parts) rest

-- type ::= btype [`->` type]
pub data IsTypeOver (Inner : List Lexeme → Written → List Lexeme → Type 0) : List Lexeme → Written → List Lexeme → Type 0 where
  no_arrow : (ts rest : List Lexeme) (type : Written) → IsBtype Inner ts type rest → IsTypeOver Inner ts type rest
  an_arrow : (ts mid rest : List Lexeme) (w : Spot) (from to : Written) → IsBtype Inner ts from (t.Mark w m.Arrow ∷ mid) → Inner mid to rest → IsTypeOver Inner ts (y.Fun from to) rest

-- a type in which at most so many stand inside one another
abbrev pub IsType : ℕ → List Lexeme → Written → List Lexeme → Type 0
IsType zero ts type rest = ⊥
IsType (suc n) ts type rest = IsTypeOver (IsType n) ts type rest
