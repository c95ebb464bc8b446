-- Reading from the front of a list of tokens, as functions on lists: what a reader computes. Tokens one by one, and lists of parts.
use Rattle.std.specs.Prelude.{ℕ, zero, suc, Bool, true, false, List, [], ◌∷◌, length, drop, Option, Some, None, if◌then◌else◌}
use denote.Enum.Bare.{sameb}
use Rattle.rw_parser_grammar.specs.contracts.lexeme.Mark.{the_type}
use Rattle.rw_parser_grammar.specs.declared.lexeme.Mark.{Mark}
use Rattle.rw_parser_grammar.specs.declared.lexeme.Mark.TheVariants as m
use Rattle.rw_parser_grammar.specs.declared.lexeme.Spot.{Spot}
use Rattle.rw_parser_grammar.specs.declared.lexeme.Lexeme.{Lexeme}
use Rattle.rw_parser_grammar.specs.declared.lexeme.Lexeme.TheVariants as t

-- go on with what was found
infixl 10 ◌>>=◌
abbrev pub ◌>>=◌ : {A B : Type 0} → Option A → (A → Option B) → Option B
None >>= f = None
(Some x) >>= f = f x

-- a value and the tokens after it, or nothing
abbrev pub Read : Type 0 → Type 0
Read A = Option (A × List Lexeme)

-- `==` on marks
unfoldable pub same_mark : Mark → Mark → Bool
same_mark = sameb the_type

-- the token is this mark
abbrev pub is_mark : Mark → Lexeme → Bool
is_mark a (t.Mark w b) = same_mark b a
is_mark a (t.Variable w name) = false
is_mark a (t.Constructor w name) = false
is_mark a (t.Operator w name) = false
is_mark a (t.Number w digits) = false

-- the tokens begin with this mark
abbrev pub sees : Mark → List Lexeme → Bool
sees a [] = false
sees a (x ∷ xs) = is_mark a x

-- the tokens after a mark
unfoldable pub after : Mark → List Lexeme → Option (List Lexeme)
after a ts = if sees a ts then Some (drop 1 ts) else None

-- one or more with a mark between two; the number bounds the turns
unfoldable pub separated_at : {A : Type 0} → Mark → (List Lexeme → Read A) → ℕ → List Lexeme → Read (List A)
separated_at between one zero ts = None
separated_at between one (suc n) ts = do
  p ← one ts
  if sees between p.1 then (do q ← separated_at between one n (drop 1 p.1); Some (p.0 ∷ q.0, q.1)) else Some (p.0 ∷ [], p.1)

-- as many as begin so; the number bounds the turns
unfoldable pub many_at : {A : Type 0} → (List Lexeme → Bool) → (List Lexeme → Read A) → ℕ → List Lexeme → Read (List A)
many_at begins one zero ts = Some ([], ts)
many_at begins one (suc n) ts = if begins ts then (do p ← one ts; q ← many_at begins one n p.1; Some (p.0 ∷ q.0, q.1)) else Some ([], ts)

-- the entries of a block and its closing brace; the number bounds the turns
unfoldable pub entries_at : {A : Type 0} → (List Lexeme → Read A) → ℕ → List Lexeme → Read (List A)
entries_at one zero ts = None
entries_at one (suc n) ts =
    if sees m.ClosesBlock ts then Some ([], drop 1 ts)
    else (if sees m.Semicolon ts then entries_at one n (drop 1 ts)
    else (do
      p ← one ts
      if sees m.ClosesBlock p.1 then Some (p.0 ∷ [], drop 1 p.1) else (do r ← after m.Semicolon p.1; q ← entries_at one n r; Some (p.0 ∷ q.0, q.1))))

-- a block
unfoldable pub block_at : {A : Type 0} → (List Lexeme → Read A) → List Lexeme → Read (List A)
block_at one ts = do
  r ← after m.OpensBlock ts
  entries_at one (length r) r

-- ---- one token

abbrev pub variable_at : List Lexeme → Read (Spot × List ℕ)
variable_at [] = None
variable_at (t.Mark w a ∷ ts) = None
variable_at (t.Variable w name ∷ ts) = Some ((w, name), ts)
variable_at (t.Constructor w name ∷ ts) = None
variable_at (t.Operator w name ∷ ts) = None
variable_at (t.Number w digits ∷ ts) = None

abbrev pub constructor_at : List Lexeme → Read (Spot × List ℕ)
constructor_at [] = None
constructor_at (t.Mark w a ∷ ts) = None
constructor_at (t.Variable w name ∷ ts) = None
constructor_at (t.Constructor w name ∷ ts) = Some ((w, name), ts)
constructor_at (t.Operator w name ∷ ts) = None
constructor_at (t.Number w digits ∷ ts) = None

abbrev pub operator_at : List Lexeme → Read (Spot × List ℕ)
operator_at [] = None
operator_at (t.Mark w a ∷ ts) = None
operator_at (t.Variable w name ∷ ts) = None
operator_at (t.Constructor w name ∷ ts) = None
operator_at (t.Operator w name ∷ ts) = Some ((w, name), ts)
operator_at (t.Number w digits ∷ ts) = None

abbrev pub begins_variable : List Lexeme → Bool
begins_variable [] = false
begins_variable (t.Mark w a ∷ ts) = false
begins_variable (t.Variable w name ∷ ts) = true
begins_variable (t.Constructor w name ∷ ts) = false
begins_variable (t.Operator w name ∷ ts) = false
begins_variable (t.Number w digits ∷ ts) = false

abbrev pub begins_constructor : List Lexeme → Bool
begins_constructor [] = false
begins_constructor (t.Mark w a ∷ ts) = false
begins_constructor (t.Variable w name ∷ ts) = false
begins_constructor (t.Constructor w name ∷ ts) = true
begins_constructor (t.Operator w name ∷ ts) = false
begins_constructor (t.Number w digits ∷ ts) = false

abbrev pub begins_operator : List Lexeme → Bool
begins_operator [] = false
begins_operator (t.Mark w a ∷ ts) = false
begins_operator (t.Variable w name ∷ ts) = false
begins_operator (t.Constructor w name ∷ ts) = false
begins_operator (t.Operator w name ∷ ts) = true
begins_operator (t.Number w digits ∷ ts) = false
