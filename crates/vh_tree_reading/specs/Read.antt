-- Reading a design from the front of a list of tokens, as functions on lists: what a reader computes, held against `Grammar`.
use Rattle.std.specs.Prelude.{ℕ, zero, suc, Bool, true, false, ◌||◌, List, [], ◌∷◌, length, drop, Option, Some, None, if◌then◌else◌}
use denote.Enum.Bare.{sameb}
use Rattle.vh_tree.specs.contracts.token.Mark.{the_type}
use Rattle.rw_base.specs.declared.bit.Bit9.{Bit9}
use Rattle.vh_tree.specs.declared.token.Mark.{Mark}
use Rattle.vh_tree.specs.declared.token.Mark.TheVariants as m
use Rattle.vh_tree.specs.declared.token.Token.{Token}
use Rattle.vh_tree.specs.declared.token.Token.TheVariants as t
use Rattle.vh_tree.specs.declared.token.Side.{Side}
use Rattle.vh_tree.specs.declared.token.Side.TheVariants as side
use Rattle.vh_tree.specs.declared.expr.VExpr.{VExpr}
use Rattle.vh_tree.specs.declared.expr.VExpr.TheVariants as w
use Rattle.vh_tree.specs.declared.stmt.Test.{Test}
use Rattle.vh_tree.specs.declared.stmt.Test.TheVariants as c
use Rattle.vh_tree.specs.declared.stmt.VStmt.{VStmt}
use Rattle.vh_tree.specs.declared.stmt.VStmt.TheVariants as s
use Rattle.vh_tree.specs.declared.stmt.Branch.{Branch}
use Rattle.vh_tree.specs.VToken.{assign_mark}
use Rattle.vh_tree.specs.Grammar.{name_of, join_of, target_of}
use Rattle.vh_tree_reading.specs.Scan.{◌>>=◌}

-- `==` on marks
unfoldable pub same_mark : Mark → Mark → Bool
same_mark = sameb the_type

-- the token is this mark
abbrev pub is_mark : Mark → Token → Bool
is_mark a (t.Mark b) = same_mark b a
is_mark a (t.Id x) = false
is_mark a (t.Number n) = false
is_mark a (t.Bits bits) = false

-- the tokens begin with this mark
abbrev pub sees : Mark → List Token → Bool
sees a [] = false
sees a (x ∷ xs) = is_mark a x

-- a value and the tokens after it, or nothing
abbrev pub Read : Type 0 → Type 0
Read A = Option (A × List Token)

-- the tokens after a mark
unfoldable pub after : Mark → List Token → Option (List Token)
after a ts = if sees a ts then Some (drop 1 ts) else None

-- one or more with a mark between two; the number bounds the turns
unfoldable pub separated_at : {A : Type 0} → Mark → (List Token → Read A) → ℕ → List Token → Read (List A)
separated_at between one zero ts = None
separated_at between one (suc n) ts = do
  p ← one ts
  if sees between p.1 then (do q ← separated_at between one n (drop 1 p.1); Some (p.0 ∷ q.0, q.1)) else Some (p.0 ∷ [], p.1)

-- as many as begin so; the number bounds the turns
unfoldable pub many_at : {A : Type 0} → (List Token → Bool) → (List Token → Read A) → ℕ → List Token → Read (List A)
many_at begins one zero ts = Some ([], ts)
many_at begins one (suc n) ts = if begins ts then (do p ← one ts; q ← many_at begins one n p.1; Some (p.0 ∷ q.0, q.1)) else Some ([], ts)

-- a number
abbrev pub number_at : List Token → Read ℕ
number_at [] = None
number_at (t.Number n ∷ ts) = Some (n, ts)
number_at (t.Mark a ∷ ts) = None
number_at (t.Id x ∷ ts) = None
number_at (t.Bits b ∷ ts) = None

-- a string
abbrev pub bits_at : List Token → Read (List Bit9)
bits_at [] = None
bits_at (t.Bits b ∷ ts) = Some (b, ts)
bits_at (t.Mark a ∷ ts) = None
bits_at (t.Id x ∷ ts) = None
bits_at (t.Number n ∷ ts) = None

-- a name
abbrev pub name_at : List Token → Read (List ℕ)
name_at [] = None
name_at (x ∷ ts) = name_of x >>= λ name. Some (name, ts)

-- the tokens begin with a number
abbrev pub begins_number : List Token → Bool
begins_number [] = false
begins_number (t.Number n ∷ ts) = true
begins_number (t.Mark a ∷ ts) = false
begins_number (t.Id x ∷ ts) = false
begins_number (t.Bits b ∷ ts) = false

-- the tokens begin with a declared name
abbrev pub begins_id : List Token → Bool
begins_id [] = false
begins_id (t.Id x ∷ ts) = true
begins_id (t.Mark a ∷ ts) = false
begins_id (t.Number n ∷ ts) = false
begins_id (t.Bits b ∷ ts) = false

-- the tokens begin with a string
abbrev pub begins_bits : List Token → Bool
begins_bits [] = false
begins_bits (t.Bits b ∷ ts) = true
begins_bits (t.Mark a ∷ ts) = false
begins_bits (t.Number n ∷ ts) = false
begins_bits (t.Id x ∷ ts) = false

-- behind a name and an opening parenthesis
unfoldable pub slice_at : List ℕ → List Token → Read VExpr
slice_at name ts = do
  a ← number_at ts
  r ← after m.Downto a.1
  b ← number_at r
  r ← after m.Closes b.1
  Some (w.Slice name a.0 b.0, r)

module _ (args : List Token → Read (List VExpr)) where
  -- a call behind its opening parenthesis
  unfoldable pub call_at : List ℕ → List Token → Read VExpr
  call_at name ts = do
    p ← args ts
    r ← after m.Closes p.1
    Some (w.Call name p.0, r)

  -- a slice or a call
  unfoldable pub opened_at : Bool → List ℕ → List Token → Read VExpr
  opened_at declared name ts = if begins_number ts then slice_at name ts else (if declared then call_at name ts else None)

  -- a name, a slice or a call
  unfoldable pub ref_at : List Token → Read VExpr
  ref_at ts = do
    p ← name_at ts
    if sees m.Opens p.1 then opened_at (begins_id ts) p.0 (drop 1 p.1) else Some (w.Name p.0, p.1)

  -- a term
  unfoldable pub term_at : List Token → Read VExpr
  term_at ts = if begins_bits ts then (do p ← bits_at ts; Some (w.Literal p.0, p.1)) else ref_at ts

  -- an expression
  unfoldable pub expr_at : List Token → Read VExpr
  expr_at ts = do
    p ← separated_at m.Amp term_at (length ts) ts
    Some (join_of p.0, p.1)

-- with at most so many calls around one another
unfoldable pub args_at : ℕ → List Token → Read (List VExpr)
args_at zero ts = None
args_at (suc n) ts = separated_at m.Comma (expr_at (args_at n)) (length ts) ts

-- nothing is left
abbrev pub if_whole : {A : Type 0} → A × List Token → Option A
if_whole (a, []) = Some a
if_whole (a, x ∷ xs) = None

-- ---- statements

-- the left side of an assignment
abbrev pub target_at : Side → List Token → Read (List ℕ)
target_at at [] = None
target_at at (x ∷ ts) = target_of at x >>= λ name. Some (name, ts)

-- a port that may stand there
abbrev pub is_target_mark : Side → Mark → Bool
is_target_mark side.Process m.Outp = true
is_target_mark _ _ = false

-- the tokens begin with what may stand there
abbrev pub begins_target : Side → List Token → Bool
begins_target at [] = false
begins_target at (t.Id x ∷ ts) = true
begins_target at (t.Mark a ∷ ts) = is_target_mark at a
begins_target at (t.Number n ∷ ts) = false
begins_target at (t.Bits b ∷ ts) = false

-- the tokens begin a statement
abbrev pub begins_stmt : Side → List Token → Bool
begins_stmt at ts = sees m.If ts || begins_target at ts

-- a test for the edge
unfoldable pub rising_at : List Token → Read Test
rising_at ts = do
  r ← after m.RisingEdge ts
  r ← after m.Opens r
  r ← after m.Clk r
  r ← after m.Closes r
  Some (c.Rising, r)

-- a test for the reset
unfoldable pub reset_at : List Token → Read Test
reset_at ts = do
  r ← after m.Rst ts
  r ← after m.Equal r
  r ← after m.High r
  Some (c.Reset, r)

module _ (args : List Token → Read (List VExpr)) where
  -- a test for a value
  unfoldable pub equal_at : List Token → Read Test
  equal_at ts = do
    p ← ref_at args ts
    r ← after m.Equal p.1
    q ← bits_at r
    Some (c.Equal p.0 q.0, q.1)

  -- a test
  unfoldable pub test_at : List Token → Read Test
  test_at ts = if sees m.RisingEdge ts then rising_at ts else (if sees m.Rst ts then reset_at ts else equal_at ts)

module _ (args : List Token → Read (List VExpr)) (stmts : List Token → Read (List VStmt)) where
  -- a branch of an `if`
  unfoldable pub branch_at : List Token → Read Branch
  branch_at ts = do
    p ← separated_at m.And (test_at args) (length ts) ts
    r ← after m.Then p.1
    q ← stmts r
    Some (record { tests = p.0; body = q.0 }, q.1)

  -- an `else`, if there is one
  unfoldable pub else_at : List Token → Read (List VStmt)
  else_at ts = if sees m.Else ts then stmts (drop 1 ts) else Some ([], ts)

  -- what stands behind an `if`
  unfoldable pub choice_at : List Token → Read (List Branch × List VStmt)
  choice_at ts = do
    p ← separated_at m.Elsif branch_at (length ts) ts
    q ← else_at p.1
    r ← after m.End q.1
    r ← after m.If r
    r ← after m.Semicolon r
    Some ((p.0, q.0), r)

module _ (at : Side) (args : List Token → Read (List VExpr)) (choice : List Token → Read (List Branch × List VStmt)) where
  -- an assignment
  unfoldable pub assign_at : List Token → Read VStmt
  assign_at ts = do
    p ← target_at at ts
    r ← after (assign_mark at) p.1
    q ← expr_at args r
    r ← after m.Semicolon q.1
    Some (s.Assign p.0 q.0, r)

  -- a statement
  unfoldable pub stmt_at : List Token → Read VStmt
  stmt_at ts = if sees m.If ts then (do p ← choice (drop 1 ts); Some (s.If p.0.0 p.0.1, p.1)) else assign_at ts

  -- statements
  unfoldable pub stmts_at : List Token → Read (List VStmt)
  stmts_at ts = many_at (begins_stmt at) stmt_at (length ts) ts

-- what stands behind an `if`, with at most so many levels there
unfoldable pub choice_levels : Side → ℕ → List Token → Read (List Branch × List VStmt)
choice_levels at zero ts = None
choice_levels at (suc n) ts = choice_at (args_at n) (stmts_at at (args_at n) (choice_levels at n)) ts
