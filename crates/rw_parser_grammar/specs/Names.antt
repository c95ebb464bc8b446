-- The grammar of names (Haskell 2010 Report, sections 3.2 and 10.5), a constructor for each alternative.
use Rattle.std.specs.Prelude.{ℕ, List, ◌∷◌}
use Rattle.rw_parser_grammar.specs.declared.lexeme.Mark.TheVariants as m
use Rattle.rw_parser_grammar.specs.declared.lexeme.Spot.{Spot}
use Rattle.rw_parser_grammar.specs.declared.lexeme.Lexeme.{Lexeme}
use Rattle.rw_parser_grammar.specs.declared.lexeme.Lexeme.TheVariants as t

-- vname ::= var | `(` Operator `)`, and the spot of the name itself
pub data IsVariableName : List Lexeme → Spot × List ℕ → List Lexeme → Type 0 where
  a_name : (w : Spot) (name : List ℕ) (rest : List Lexeme) → IsVariableName (t.Variable w name ∷ rest) (w, name) rest
  an_operator_name : (u v w : Spot) (name : List ℕ) (rest : List Lexeme) → IsVariableName (t.Mark u m.Opens ∷ t.Operator v name ∷ t.Mark w m.Closes ∷ rest) (v, name) rest

-- a variable operator: Operator | `` ` `` var `` ` ``
pub data IsVariableOperator : List Lexeme → List ℕ → List Lexeme → Type 0 where
  a_symbol_operator : (w : Spot) (name : List ℕ) (rest : List Lexeme) → IsVariableOperator (t.Operator w name ∷ rest) name rest
  a_named_operator : (u v w : Spot) (name : List ℕ) (rest : List Lexeme) → IsVariableOperator (t.Mark u m.Backquote ∷ t.Variable v name ∷ t.Mark w m.Backquote ∷ rest) name rest

-- op ::= Operator | `` ` `` (var | Con) `` ` ``, by its name alone
pub data IsOperator : List Lexeme → List ℕ → List Lexeme → Type 0 where
  a_variable_operator : (ts rest : List Lexeme) (name : List ℕ) → IsVariableOperator ts name rest → IsOperator ts name rest
  a_constructor_operator : (u v w : Spot) (name : List ℕ) (rest : List Lexeme) → IsOperator (t.Mark u m.Backquote ∷ t.Constructor v name ∷ t.Mark w m.Backquote ∷ rest) name rest
