-- Reading names and operators from the front of a list of tokens, as functions on lists, and what may stand before what.
use Rattle.std.specs.Prelude.{Bool, true, false, ◌||◌, List, [], ◌∷◌, Some, None, if◌then◌else◌}
use Rattle.rw_base.specs.declared.place.Span.{Span}
use Rattle.rw_tree.specs.declared.expr.Expr.{Expr}
use Rattle.rw_tree.specs.declared.expr.Expr.TheVariants as e
use Rattle.rw_parser_grammar.specs.declared.lexeme.Mark.TheVariants as m
use Rattle.rw_parser_grammar.specs.declared.lexeme.Lexeme.{Lexeme}
use Rattle.rw_parser_grammar.specs.declared.lexeme.Lexeme.TheVariants as t
use Rattle.rw_parser_grammar.specs.Lexemes.{span_at}
use Rattle.rw_parser_reading.specs.Read.{◌>>=◌, Read, same_mark, sees, after, begins_operator}

-- ---- operators

-- the tokens begin an operator
abbrev pub begins_op : List Lexeme → Bool
begins_op ts = begins_operator ts || sees m.Backquote ts

-- a name in backquotes as an expression, behind the first of them
abbrev pub quoted_at : List Lexeme → Read (Expr Span)
quoted_at [] = None
quoted_at (t.Mark w a ∷ ts) = None
quoted_at (t.Variable w name ∷ ts) = after m.Backquote ts >>= λ r. Some (e.Var (span_at w ts) name, r)
quoted_at (t.Constructor w name ∷ ts) = after m.Backquote ts >>= λ r. Some (e.Con (span_at w ts) name, r)
quoted_at (t.Operator w name ∷ ts) = None
quoted_at (t.Number w digits ∷ ts) = None

-- an operator as an expression
abbrev pub op_at : List Lexeme → Read (Expr Span)
op_at [] = None
op_at (t.Mark w a ∷ ts) = if same_mark a m.Backquote then quoted_at ts else None
op_at (t.Variable w name ∷ ts) = None
op_at (t.Constructor w name ∷ ts) = None
op_at (t.Operator w name ∷ ts) = Some (e.Var (span_at w ts) name, ts)
op_at (t.Number w digits ∷ ts) = None

-- ---- what stands where patterns could

-- a token that patterns and contexts are made of
abbrev pub is_plain : Lexeme → Bool
is_plain (t.Mark w a) = same_mark a m.Opens || (same_mark a m.Closes || (same_mark a m.Comma || same_mark a m.Underscore))
is_plain (t.Variable w name) = true
is_plain (t.Constructor w name) = true
is_plain (t.Operator w name) = false
is_plain (t.Number w digits) = false

-- the tokens from the first on that no pattern is made of
abbrev pub beyond : List Lexeme → List Lexeme
beyond [] = []
beyond (x ∷ xs) = if is_plain x then beyond xs else x ∷ xs
