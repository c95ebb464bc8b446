-- Readers of types and of patterns with a level for each token read what they would with more; and with nothing to read, readers of any level read nothing.
use Rattle.std.proofs.Common.{◌≡◌, ℕ, zero, suc, ◌≤◌, List, [], ◌∷◌, Option, Some, None, refl, sym, ◌∙◌, arith}
use Rattle.rw_parser_grammar.specs.declared.lexeme.Lexeme.{Lexeme}
use Rattle.rw_parser_reading.specs.Read.{Read, after, block_at}
use Rattle.rw_parser_reading.specs.ReadTypes.{btype_at, type_over_at, type_at, pattern_at}
use Rattle.rw_parser_reading.specs.ReadExpressions.{chain_at, expression_over_at}
use Rattle.rw_parser_reading.specs.ReadClauses.{locals_over_at}
use Rattle.rw_parser_reading.specs.ReadLevels.{expression_at, locals_at, expression_below, locals_below}
use Rattle.rw_parser_reading.proofs.Alike.{Alike, left, Agree, Pass, type_over_alike, pattern_over_alike}

-- fewer tokens
pub shorter_agree : {A : Type 0} {f g : List Lexeme → Read A} (k j : ℕ) → j ≤ k → Agree k f g → Agree j f g
shorter_agree k j h agree ts l = agree ts (omega arith)

pub shorter_pass : {A : Type 0} {f g : List Lexeme → Read A} (k j : ℕ) → j ≤ k → Pass k f g → Pass j f g
shorter_pass k j h agree ts l = agree ts (omega arith)

pub nothing_alike : {A : Type 0} {n : ℕ} (o p : Option (A × List Lexeme)) → o ≡ None → p ≡ None → Alike left n o p
nothing_alike o p e d = record { same = e ∙ sym d; less = λ x c. absurd (let f : None ≡ Some x = sym e ∙ c in cc) }

-- ---- types and patterns
no_type : (n : ℕ) → type_at n [] ≡ None
unfolding type_at type_over_at btype_at
no_type zero = refl
no_type (suc n) = refl

pub types_agree : (k n j : ℕ) → k ≤ n → k ≤ j → Agree k (type_at n) (type_at j)
unfolding type_at
types_agree k n j g h [] l = nothing_alike (type_at n []) (type_at j []) (no_type n) (no_type j)
types_agree zero n j g h (x ∷ xs) l = absurd (omega arith)
types_agree (suc k) zero j g h (x ∷ xs) l = absurd (omega arith)
types_agree (suc k) (suc n) zero g h (x ∷ xs) l = absurd (omega arith)
types_agree (suc k) (suc n) (suc j) g h (x ∷ xs) l = type_over_alike k (type_at n) (type_at j) (types_agree k n j (omega arith) (omega arith)) (x ∷ xs) l

no_pattern : (n : ℕ) → pattern_at n [] ≡ None
unfolding pattern_at
no_pattern zero = refl
no_pattern (suc n) = refl

pub patterns_agree : (k n j : ℕ) → k ≤ n → k ≤ j → Agree k (pattern_at n) (pattern_at j)
unfolding pattern_at
patterns_agree k n j g h [] l = nothing_alike (pattern_at n []) (pattern_at j []) (no_pattern n) (no_pattern j)
patterns_agree zero n j g h (x ∷ xs) l = absurd (omega arith)
patterns_agree (suc k) zero j g h (x ∷ xs) l = absurd (omega arith)
patterns_agree (suc k) (suc n) zero g h (x ∷ xs) l = absurd (omega arith)
patterns_agree (suc k) (suc n) (suc j) g h (x ∷ xs) l = pattern_over_alike k (pattern_at n) (pattern_at j) (patterns_agree k n j (omega arith) (omega arith)) (x ∷ xs) l

-- ---- expressions
pub no_expression : (n : ℕ) → expression_at n [] ≡ None
unfolding expression_at expression_over_at chain_at
no_expression zero = refl
no_expression (suc n) = refl

pub no_locals : (n : ℕ) → locals_at n [] ≡ None
unfolding locals_at locals_over_at block_at after
no_locals zero = refl
no_locals (suc n) = refl

pub no_below : (n : ℕ) → expression_below n [] ≡ None
unfolding expression_below
no_below zero = refl
no_below (suc n) = no_expression n

pub no_lower : (n : ℕ) → locals_below n [] ≡ None
unfolding locals_below
no_lower zero = refl
no_lower (suc n) = no_locals n
