-- Reading an expression up to what ends it: a chain of operands and operators, and behind it the beginning of a lambda, a `let` or an `if`, whose last
-- part goes as far as the whole (Haskell 2010 Report, section 3.3). As functions on lists, over the readers of what stands inside.
use Rattle.std.specs.Prelude.{ℕ, zero, suc, true, false, List, [], ◌∷◌, ◌++◌, length, drop, Some, None, if◌then◌else◌}
use Rattle.rw_base.specs.declared.place.Span.{Span}
use Rattle.rw_tree.specs.declared.pattern.Pat.{Pat}
use Rattle.rw_tree.specs.declared.expr.Expr.{Expr}
use Rattle.rw_tree.specs.declared.expr.Expr.TheVariants as e
use Rattle.rw_tree.specs.declared.clause.Local.{Local}
use Rattle.rw_parser_grammar.specs.declared.lexeme.Mark.TheVariants as m
use Rattle.rw_parser_grammar.specs.declared.lexeme.Lexeme.{Lexeme}
use Rattle.rw_parser_grammar.specs.Lexemes.{next_spot, span_at, span_of}
use Rattle.rw_parser_grammar.specs.Expressions.{chained}
use Rattle.rw_parser_reading.specs.Read.{◌>>=◌, Read, sees, after}
use Rattle.rw_parser_reading.specs.ReadTypes.{begins_apat, apats_at}
use Rattle.rw_parser_reading.specs.ReadNames.{begins_op, op_at}
use Rattle.rw_parser_reading.specs.ReadExpressions.{begins_last}
use Rattle.rw_parser_parts.specs.declared.frame.Head.{Head}
use Rattle.rw_parser_parts.specs.declared.frame.Head.TheVariants as h
use Rattle.rw_parser_parts.specs.declared.frame.Frame.{Frame}
use Rattle.rw_parser_parts.specs.declared.frame.Chain.{Chain}
use Rattle.rw_parser_parts.specs.declared.frame.Step.{Step}
use Rattle.rw_parser_parts.specs.declared.frame.Step.TheVariants as s

-- ---- trees

-- what stands in place of a tree that has no room
abbrev pub cut_off : Expr Span
cut_off = e.Tuple (record { first = record { line = 0; column = 0 }; from = 0; to = 0 }) []

-- a lambda, a `let` or an `if` with its last part
abbrev pub headed : Head → Span → Expr Span → Expr Span
headed (h.Lambda pats) span body = e.Lambda span pats body
headed (h.Let locals) span body = e.Let span locals body
headed (h.If test first) span body = e.If span test first body

-- a frame with its last part, before the tokens that follow
unfoldable pub closed : Frame → Expr Span → List Lexeme → Expr Span
closed frame body rest = chained (span_at frame.at rest) (frame.operands ++ headed frame.head (span_at frame.head_at rest) body ∷ []) frame.operators

-- frames inside one another with the last part of the innermost
abbrev pub all_closed : List Frame → Expr Span → List Lexeme → Expr Span
all_closed [] body rest = body
all_closed (frame ∷ frames) body rest = closed frame (all_closed frames body rest) rest

-- ---- chains

-- a chain with an operand and an operator more before it
abbrev pub longer : Expr Span → Expr Span → Chain → Chain
longer operand operator chain = record { operands = operand ∷ chain.operands; operators = operator ∷ chain.operators; is_open = chain.is_open }

module _ (operand : List Lexeme → Read (Expr Span)) where
  -- operands and operators up to a lambda, a `let` or an `if`, or to the last operand; the number bounds the turns
  unfoldable pub links_at : ℕ → List Lexeme → Read Chain
  links_at zero ts = None
  links_at (suc n) ts =
      if begins_last ts then Some (record { operands = []; operators = []; is_open = true }, ts)
      else (do
        p ← operand ts
        if begins_op p.1 then (do o ← op_at p.1; q ← links_at n o.1; Some (longer p.0 o.0 q.0, q.1)) else Some (record { operands = p.0 ∷ []; operators = []; is_open = false }, p.1))

-- ---- the beginning of what ends a chain

-- a lambda up to its body, behind the backslash
unfoldable pub lambda_head_at : (List Lexeme → Read (Pat Span)) → List Lexeme → Read Head
lambda_head_at pattern ts =
    if begins_apat ts then (do
      p ← apats_at pattern ts
      r ← after m.Arrow p.1
      Some (h.Lambda p.0, r))
    else None

-- a `let` up to its body, behind the word
unfoldable pub let_head_at : (List Lexeme → Read (List (Local Span))) → List Lexeme → Read Head
let_head_at locals ts = do
  p ← locals ts
  r ← after m.In p.1
  Some (h.Let p.0, r)

-- an `if` up to what follows `else`, behind the word
unfoldable pub if_head_at : (List Lexeme → Read (Expr Span)) → List Lexeme → Read Head
if_head_at inner ts = do
  p ← inner ts
  r ← after m.Then p.1
  q ← inner r
  r ← after m.Else q.1
  Some (h.If p.0 q.0, r)

module _ (pattern : List Lexeme → Read (Pat Span)) (inner : List Lexeme → Read (Expr Span)) (locals : List Lexeme → Read (List (Local Span))) where
  -- one of the three
  unfoldable pub head_at : List Lexeme → Read Head
  head_at ts = if sees m.Backslash ts then lambda_head_at pattern (drop 1 ts) else (if sees m.Let ts then let_head_at locals (drop 1 ts) else if_head_at inner (drop 1 ts))

-- ---- one step

-- a chain and the head that ends it as a frame; it began at ts, and the head at mid
abbrev pub framed : List Lexeme → Chain → List Lexeme → Head → Frame
framed ts chain mid head = record { at = next_spot ts; operands = chain.operands; operators = chain.operators; head_at = next_spot mid; head = head }

module _ (operand : List Lexeme → Read (Expr Span)) (head : List Lexeme → Read Head) where
  -- behind a chain that began at ts
  abbrev pub ended_at : List Lexeme → Chain × List Lexeme → Read Step
  ended_at ts c =
      if c.0.is_open then (do
        b ← head c.1
        Some (s.Opens (framed ts c.0 c.1 b.0), b.1))
      else Some (s.Whole (chained (span_of ts c.1) c.0.operands c.0.operators), c.1)

  -- an expression, or one up to its last part
  unfoldable pub step_at : List Lexeme → Read Step
  step_at ts = do
    c ← links_at operand (length ts) ts
    ended_at ts c
